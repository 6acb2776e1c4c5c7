-- Hexadecimal digits: read back, and those of one octet more. Assumes nothing.
use mathlib.Core.Path.{◌≡◌, refl, sym, ap, ◌∙◌}
use mathlib.Core.Logic.{◌⊎◌, inl, inr}
use mathlib.Core.List.{List, [], ◌∷◌, ◌++◌, append_assoc}
use Prim.Native.Nat.{ℕ, suc, ◌+◌, ◌*◌, ◌/◌, ◌%◌, ◌≤◌, ◌<◌}
use native.Mathlib.Nat.{lt_of_not-le}
use native.Mathlib.Decide.{dec_le}
use native.Mathlib.Omega.{arith}
use borrow.Author.Tests.{lt-ltb, le-ltb}
use lib.ListN.{length, get_or, take}
use lib.Seq.{length-take-le}
use Rattle.std.proofs.lemmas.List.{take_more}
use Rattle.text.specs.Text.{hex_digit, hex_of}
use Rattle.text.specs.Laws.{hex_value, octets_of}

-- the two kinds of digit
pub digit_low : (n : ℕ) → n < 10 → hex_digit n ≡ 48 + n
unfolding hex_digit
digit_low n h = simp (lt-ltb n 10 h)

pub digit_high : (n : ℕ) → 10 ≤ n → hex_digit n ≡ 87 + n
unfolding hex_digit
digit_high n h = simp (le-ltb n 10 h)

pub hex_digits : (n : ℕ) → n < 16 → ((48 ≤ hex_digit n) × (hex_digit n ≤ 57)) ⊎ ((97 ≤ hex_digit n) × (hex_digit n ≤ 102))
hex_digits n h = elim (dec_le 10 n) [
  | yes k ↦ let e = digit_high n k in inr (omega arith, omega arith)
  | no k ↦ let e = digit_low n (lt_of_not-le k) in inl (omega (arith, lt_of_not-le k), omega (arith, lt_of_not-le k))
]

value_back : (n : ℕ) → n < 16 → hex_value (hex_digit n) ≡ n
unfolding hex_value
value_back n h = elim (dec_le 10 n) [
  | yes k ↦ let e = digit_high n k in rw (e, le-ltb (87 + n) 97 (omega arith)) (omega arith)
  | no k ↦ let e = digit_low n (lt_of_not-le k) in rw (e, lt-ltb (48 + n) 97 (omega (arith, lt_of_not-le k))) (omega arith)
]

pub hex_back : (s : List ℕ) → ((i : ℕ) → get_or s i 0 < 256) → octets_of (hex_of s) ≡ s
unfolding octets_of hex_of
hex_back [] are = refl
hex_back (a ∷ s) are =
    let small : a < 256 = are 0 in
    let e : 16 * (a / 16) + a % 16 ≡ a = omega arith in
    rw (value_back (a / 16) (omega arith), value_back (a % 16) (omega arith), e, hex_back s (λ i. are (suc i)))

pub hex_long : (s : List ℕ) → length (hex_of s) ≡ 2 * length s
unfolding hex_of
hex_long [] = refl
hex_long (a ∷ s) =
    let h = hex_long s in
    omega arith

pub hex_first : (s : List ℕ) (i : ℕ) → i ≤ length s → length (hex_of (take i s)) ≡ 2 * i
hex_first s i h = omega (arith, hex_long (take i s), length-take-le i s h)

hex_joined : (s t : List ℕ) → hex_of (s ++ t) ≡ hex_of s ++ hex_of t
unfolding hex_of
hex_joined [] t = refl
hex_joined (a ∷ s) t = ap (λ (r : List ℕ). hex_digit (a / 16) ∷ hex_digit (a % 16) ∷ r) (hex_joined s t)

-- one octet more
pub hex_more : (s : List ℕ) (i : ℕ) → i < length s
    → hex_of (take (i + 1) s) ≡ hex_of (take i s) ++ (hex_digit (get_or s i 0 / 16) ∷ []) ++ (hex_digit (get_or s i 0 % 16) ∷ [])
unfolding hex_of
hex_more s i h =
    ap hex_of (take_more s i 0 h) ∙ hex_joined (take i s) (get_or s i 0 ∷ [])
    ∙ sym (append_assoc (hex_of (take i s)) (hex_digit (get_or s i 0 / 16) ∷ []) (hex_digit (get_or s i 0 % 16) ∷ []))
