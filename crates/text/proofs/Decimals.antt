-- Decimal digits: read back, how many, and the loop that finds them from the last on. Assumes nothing.
use mathlib.Core.Path.{◌≡◌, refl, sym, ap, ◌∙◌}
use mathlib.Core.Logic.{◌≢◌}
use mathlib.Core.List.{List, [], ◌∷◌, ◌++◌, append_assoc, append-nil}
use Prim.Native.Nat.{ℕ, zero, suc, ◌+◌, ◌-◌, ◌*◌, ◌/◌, ◌%◌, ◌^◌, ◌≤◌, ◌<◌}
use native.Mathlib.Nat.{not-suc-le-zero, lt_of_not-le, pow-suc}
use native.Mathlib.Decide.{dec_le}
use native.Mathlib.Omega.{arith}
use lib.ListN.{length, get_or, take, drop, set, length-append, length-drop, length-set, drop_of_length-le, get_or-append}
use lib.Seq.{get_or_at, take_all}
use Rattle.text.specs.Text.{digits_of, decimal_of}
use Rattle.text.specs.Laws.{number_on, DecimalDigits}
use Rattle.std.proofs.lemmas.List.{drop-set}

digits_none : (n : ℕ) → digits_of n 0 ≡ []
unfolding digits_of
digits_none zero = refl
digits_none (suc n) = refl

-- more room than x changes nothing
digits_same : (n m x : ℕ) → x ≤ n → x ≤ m → digits_of n x ≡ digits_of m x
unfolding digits_of
digits_same zero m x hn hm =
    let z : x ≡ 0 = omega arith in
    rw z (sym (digits_none m))
digits_same (suc n) zero x hn hm =
    let z : x ≡ 0 = omega arith in
    rw z
digits_same (suc n) (suc m) zero hn hm = refl
digits_same (suc n) (suc m) (suc x) hn hm =
    ap (λ (t : List ℕ). t ++ ((48 + suc x % 10) ∷ [])) (digits_same n m (suc x / 10) (omega arith) (omega arith))

within : (n x : ℕ) → 0 < x → x ≤ n → digits_of n x ≡ decimal_of x
unfolding decimal_of
within n zero h k = absurd (not-suc-le-zero h)
within n (suc x) h k = digits_same n (suc x) (suc x) k (omega arith)

-- a number of one digit, and one of more
pub decimal_one : (x : ℕ) → x < 10 → decimal_of x ≡ (48 + x) ∷ []
unfolding decimal_of digits_of
decimal_one zero h = refl
decimal_one (suc x) h =
    let q : suc x / 10 ≡ 0 = omega arith in
    let r : suc x % 10 ≡ suc x = omega arith in
    rw (q, r, digits_none x)

pub decimal_more : (x : ℕ) → 10 ≤ x → decimal_of x ≡ decimal_of (x / 10) ++ ((48 + x % 10) ∷ [])
unfolding decimal_of digits_of
decimal_more zero h = absurd (not-suc-le-zero h)
decimal_more (suc x) h = ap (λ (t : List ℕ). t ++ ((48 + suc x % 10) ∷ [])) (within x (suc x / 10) (omega arith) (omega arith))

-- what holds of one digit, and with a number of those before its last digit of that number, holds of all
module _ (P : ℕ → Type 0) (one : (x : ℕ) → x < 10 → P x) (more : (x : ℕ) → 10 ≤ x → P (x / 10) → P x) where
  up_to : (n x : ℕ) → x ≤ n → P x
  up_to zero x h = one x (omega arith)
  up_to (suc n) x h = elim (dec_le 10 x) [
    | yes k ↦ more x k (up_to n (x / 10) (omega arith))
    | no k ↦ one x (lt_of_not-le k)
  ]

  pub by_digits : (x : ℕ) → P x
  by_digits x = up_to x x (omega arith)

-- ---- read back

number_last : (a : ℕ) (s : List ℕ) (c : ℕ) → number_on a (s ++ (c ∷ [])) ≡ 10 * number_on a s + (c - 48)
unfolding number_on
number_last a [] c = refl
number_last a (b ∷ s) c = number_last (10 * a + (b - 48)) s c

pub decimal_back : (x : ℕ) → number_on 0 (decimal_of x) ≡ x
unfolding number_on
decimal_back = by_digits (λ x. number_on 0 (decimal_of x) ≡ x) (λ x h. rw (decimal_one x h) (omega arith))
    (λ x h e. rw (decimal_more x h, number_last 0 (decimal_of (x / 10)) (48 + x % 10), e) (omega arith))

-- ---- how many there are, and which

pub decimal_some : (x : ℕ) → 1 ≤ length (decimal_of x)
decimal_some = by_digits (λ x. 1 ≤ length (decimal_of x)) (λ x h. rw (decimal_one x h) (omega arith))
    (λ x h e. rw (decimal_more x h) (omega (arith, length-append (decimal_of (x / 10)) ((48 + x % 10) ∷ []))))

pub decimal_short : (k x : ℕ) → x < 10 ^ suc k → length (decimal_of x) ≤ suc k
decimal_short zero x h = rw (decimal_one x (omega arith)) (omega arith)
decimal_short (suc k) x h = elim (dec_le 10 x) [
  | yes m ↦ let p = pow-suc 10 (suc k) in
      let e = decimal_short k (x / 10) (omega arith) in
      rw (decimal_more x m) (omega (arith, length-append (decimal_of (x / 10)) ((48 + x % 10) ∷ [])))
  | no m ↦ rw (decimal_one x (lt_of_not-le m)) (omega arith)
]

pub decimal_ten : (x : ℕ) → x < 2 ^ 32 → length (decimal_of x) ≤ 10
decimal_ten x h = decimal_short 9 x (omega arith)

pub decimal_digits : (x : ℕ) → DecimalDigits (decimal_of x)
decimal_digits = by_digits (λ x. DecimalDigits (decimal_of x)) one more
  where
    one : (x : ℕ) → x < 10 → DecimalDigits (decimal_of x)
    one x h i k =
        let e = decimal_one x h in
        let n : length (decimal_of x) ≡ 1 = ap length e in
        let z : i ≡ 0 = omega arith in
        rw (e, z) (omega arith, omega arith)

    more : (x : ℕ) → 10 ≤ x → DecimalDigits (decimal_of (x / 10)) → DecimalDigits (decimal_of x)
    more x h before i k =
        let s = decimal_of (x / 10) in
        let c = 48 + x % 10 in
        let e = decimal_more x h in
        let n : length (decimal_of x) ≡ length s + 1 = ap length e ∙ length-append s (c ∷ []) in
        elim (dec_le (length s) i) [
          | yes m ↦ let g = get_or_at s c [] 0 i (omega arith) in rw (e, g) (omega arith, omega arith)
          | no m ↦ rw (e, get_or-append s (c ∷ []) 0 i (lt_of_not-le m)) (before i (lt_of_not-le m))
        ]

pub decimal_leading : (x : ℕ) → 0 < x → get_or (decimal_of x) 0 0 ≢ 48
decimal_leading = by_digits (λ x. 0 < x → get_or (decimal_of x) 0 0 ≢ 48) one more
  where
    one : (x : ℕ) → x < 10 → 0 < x → get_or (decimal_of x) 0 0 ≢ 48
    one x h p e =
        let g : get_or (decimal_of x) 0 0 ≡ 48 + x = ap (λ (t : List ℕ). get_or t 0 0) (decimal_one x h) in
        omega arith

    more : (x : ℕ) → 10 ≤ x → (0 < x / 10 → get_or (decimal_of (x / 10)) 0 0 ≢ 48) → 0 < x → get_or (decimal_of x) 0 0 ≢ 48
    more x h before p e =
        let s = decimal_of (x / 10) in
        let g : get_or (decimal_of x) 0 0 ≡ get_or s 0 0 =
        ap (λ (t : List ℕ). get_or t 0 0) (decimal_more x h) ∙ get_or-append s ((48 + x % 10) ∷ []) 0 0 (decimal_some (x / 10)) in
        before (omega arith) (sym g ∙ e)

-- ---- the loop that finds them from the last on

-- the digits of the value are those of the rest, and the ones found, which stand behind start
pub record Found (value rest start : ℕ) (digits : List ℕ) : Type 0 where
  pub inside : start ≤ 9
  pub size : length digits ≡ 10
  pub split : decimal_of value ≡ decimal_of rest ++ drop (start + 1) digits

pub found_none : (value : ℕ) (digits : List ℕ) → length digits ≡ 10 → Found value value 9 digits
found_none value digits e =
    record {
      inside = omega arith;
      size = e;
      split = sym (ap (λ (t : List ℕ). decimal_of value ++ t) (drop_of_length-le digits {i = 10} (omega arith)) ∙ append-nil (decimal_of value));
    }

module _ {value rest start : ℕ} {digits : List ℕ} (f : Found value rest start digits) where
  -- a digit that is not the first leaves a place
  pub found_room : value < 2 ^ 32 → 10 ≤ rest → 0 < start
  found_room h k =
      let n = ap length f.split ∙ length-append (decimal_of rest) (drop (start + 1) digits) in
      let m = ap length (decimal_more rest k) ∙ length-append (decimal_of (rest / 10)) ((48 + rest % 10) ∷ []) in
      omega (arith, f.inside, f.size, decimal_ten value h, decimal_some (rest / 10), length-drop (start + 1) digits)

  pub found_more : 10 ≤ rest → 0 < start → Found value (rest / 10) (start - 1) (set digits start (48 + rest % 10))
  found_more k p =
      let e : start - 1 + 1 ≡ start = omega arith in
      record {
        inside = omega (arith, f.inside);
        size = length-set digits start (48 + rest % 10) ∙ f.size;
        split =
            rw e
            (f.split ∙ ap (λ (t : List ℕ). t ++ drop (start + 1) digits) (decimal_more rest k)
            ∙ append_assoc (decimal_of (rest / 10)) ((48 + rest % 10) ∷ []) (drop (start + 1) digits)
            ∙ ap (λ (t : List ℕ). decimal_of (rest / 10) ++ t) (sym (drop-set digits start (48 + rest % 10) (omega (arith, f.inside, f.size)))));
      }

  -- with the first the part from start on is the text
  pub found_all : rest < 10 → take (10 - start) (drop start (set digits start (48 + rest))) ≡ decimal_of value
  found_all k =
      let part = drop start (set digits start (48 + rest)) in
      take_all (10 - start) part (omega (arith, f.size, length-drop start (set digits start (48 + rest)), length-set digits start (48 + rest)))
      ∙ drop-set digits start (48 + rest) (omega (arith, f.inside, f.size))
      ∙ ap (λ (t : List ℕ). t ++ drop (start + 1) digits) (sym (decimal_one rest k))
      ∙ sym f.split
