-- Laws of the slot sets: the list, its members, order and length; the number, its ones, its lowest bit and the other bits. Assumes nothing.
use mathlib.Core.Path.{◌≡◌, refl, sym, ap, ◌∙◌}
use mathlib.Core.Logic.{◌⊎◌, inl, inr, ⊎_elim}
use mathlib.Core.Bool.{Bool, true, false, cond, false≢true}
use mathlib.Core.List.Memᴰ
use mathlib.Core.List.{[], ◌∷◌, Memᴰ}
use Prim.Native.Nat.{ℕ, zero, suc, ◌+◌, ◌*◌, ◌-◌, ◌^◌, ◌/◌, ◌%◌, ◌≤◌, ◌<◌, zero-le}
use native.Mathlib.Nat.{eq-or-lt_of_le, pow-suc, div-one}
use native.Mathlib.Omega.{arith}
use native.Mathlib.Numerals.{add-one}
use lib.ListN.{length, get_or}
use lib.Pow.{pow_mono, shr-shr}
use lib.Count.{ones, ones_step}
use Rattle.slot_lists.specs.SlotSets.{slots_from}
use Rattle.slot_lists.specs.Computed.{bit, bits_from}

pub bit_small : (b : Bool) (x : ℕ) → x ≡ bit b → x ≤ 1
unfolding bit
bit_small true x e = omega arith
bit_small false x e = omega arith

bit_le : (b : Bool) → bit b ≤ 1
bit_le b = bit_small b (bit b) refl

twice : (b k : ℕ) → b * 2 ^ suc k ≡ b * 2 ^ k * 2
twice b k = rw pow-suc (grind arith)

module _ (p : ℕ → Bool) where
  -- a member is in the range and p holds at it
  mem_cons : (a k i : ℕ) (b : Bool) → p a ≡ b → (Memᴰ i (slots_from p (suc a) k) → (suc a ≤ i) × (i < suc a + k) × (p i ≡ true))
      → Memᴰ i (cond b (a ∷ slots_from p (suc a) k) (slots_from p (suc a) k)) → (a ≤ i) × (i < a + suc k) × (p i ≡ true)
  mem_cons a k i true e f m =
      ⊎_elim (λ q. (omega (arith, q), omega (arith, q), ap p q ∙ e)) (λ m'. let r = f m' in (omega (arith, r.0), omega (arith, r.1), r.2)) (Memᴰ.cases_cons m)
  mem_cons a k i false e f m = let r = f m in (omega (arith, r.0), omega (arith, r.1), r.2)

  pub mem_to : (a k i : ℕ) → Memᴰ i (slots_from p a k) → (a ≤ i) × (i < a + k) × (p i ≡ true)
  unfolding slots_from
  mem_to a zero i m = absurd (Memᴰ.not-nil m)
  mem_to a (suc k) i m = mem_cons a k i (p a) refl (mem_to (suc a) k i) m

  mem_here : (a k i : ℕ) (b : Bool) → p a ≡ b → p i ≡ true → (i ≡ a) ⊎ Memᴰ i (slots_from p (suc a) k)
      → Memᴰ i (cond b (a ∷ slots_from p (suc a) k) (slots_from p (suc a) k))
  mem_here a k i true e h (inl q) = Memᴰ.head q
  mem_here a k i true e h (inr m) = Memᴰ.tail m
  mem_here a k i false e h (inl q) = absurd (false≢true (sym e ∙ sym (ap p q) ∙ h))
  mem_here a k i false e h (inr m) = m

  pub mem_from : (a k i : ℕ) → a ≤ i → i < a + k → p i ≡ true → Memᴰ i (slots_from p a k)
  unfolding slots_from
  mem_from a zero i l u h = absurd (omega arith)
  mem_from a (suc k) i l u h =
      mem_here a k i (p a) refl h (⊎_elim (λ q. inl (sym q)) (λ lt. inr (mem_from (suc a) k i lt (omega arith) h)) (eq-or-lt_of_le l))

  -- each slot is below the end, and the list is no longer than the range
  fit_cons : (a k : ℕ) (b : Bool) → length (slots_from p (suc a) k) ≤ k → length (cond b (a ∷ slots_from p (suc a) k) (slots_from p (suc a) k)) ≤ suc k
  fit_cons a k true h = omega arith
  fit_cons a k false h = omega arith

  pub slots_fit : (a k : ℕ) → length (slots_from p a k) ≤ k
  unfolding slots_from
  slots_fit a zero = zero-le
  slots_fit a (suc k) = fit_cons a k (p a) (slots_fit (suc a) k)

  -- an element is at least the range's start
  low_cons : (a k x : ℕ) (b : Bool) → ((y : ℕ) → y < length (slots_from p (suc a) k) → suc a ≤ get_or (slots_from p (suc a) k) y 0)
      → x < length (cond b (a ∷ slots_from p (suc a) k) (slots_from p (suc a) k)) → a ≤ get_or (cond b (a ∷ slots_from p (suc a) k) (slots_from p (suc a) k)) x 0
  low_cons a k zero true f l = omega arith
  low_cons a k (suc x) true f l = omega (arith, f x (omega arith))
  low_cons a k x false f l = omega (arith, f x l)

  slots_low : (a k x : ℕ) → x < length (slots_from p a k) → a ≤ get_or (slots_from p a k) x 0
  unfolding slots_from
  slots_low a zero x l = absurd (omega arith)
  slots_low a (suc k) x l = low_cons a k x (p a) (slots_low (suc a) k) l

  -- ascending, each once
  sorted_cons : (a k x y : ℕ) (b : Bool) → ((x' y' : ℕ) → x' < y' → y' < length (slots_from p (suc a) k) → get_or (slots_from p (suc a) k) x' 0 < get_or (slots_from p (suc a) k) y' 0)
      → x < y → y < length (cond b (a ∷ slots_from p (suc a) k) (slots_from p (suc a) k))
      → get_or (cond b (a ∷ slots_from p (suc a) k) (slots_from p (suc a) k)) x 0 < get_or (cond b (a ∷ slots_from p (suc a) k) (slots_from p (suc a) k)) y 0
  sorted_cons a k x zero true f l u = absurd (omega arith)
  sorted_cons a k zero (suc y) true f l u = slots_low (suc a) k y (omega arith)
  sorted_cons a k (suc x) (suc y) true f l u = f x y (omega arith) (omega arith)
  sorted_cons a k x y false f l u = f x y l u

  pub slots_sorted : (a k x y : ℕ) → x < y → y < length (slots_from p a k) → get_or (slots_from p a k) x 0 < get_or (slots_from p a k) y 0
  unfolding slots_from
  slots_sorted a zero x y l u = absurd (omega arith)
  slots_sorted a (suc k) x y l u = sorted_cons a k x y (p a) (slots_sorted (suc a) k) l u

  -- where two tests agree, so do their lists and their numbers
  pub slots_same : (q : ℕ → Bool) (a k : ℕ) → ((i : ℕ) → a ≤ i → i < a + k → p i ≡ q i) → slots_from p a k ≡ slots_from q a k
  unfolding slots_from
  slots_same q a zero f = refl
  slots_same q a (suc k) f =
      rw (f a (omega arith) (omega arith), slots_same q (suc a) k (λ i l u. f i (omega arith) (omega arith)))

  pub bits_same : (q : ℕ → Bool) (a k : ℕ) → ((i : ℕ) → a ≤ i → i < a + k → p i ≡ q i) → bits_from p a k ≡ bits_from q a k
  unfolding bits_from
  bits_same q a zero f = refl
  bits_same q a (suc k) f =
      rw (f a (omega arith) (omega arith), bits_same q (suc a) k (λ i l u. f i (omega arith) (omega arith)))

  -- where the test holds nowhere the list is empty, and the number is 0
  pub slots_none : (a k : ℕ) → ((i : ℕ) → a ≤ i → i < a + k → p i ≡ false) → slots_from p a k ≡ []
  unfolding slots_from
  slots_none a zero f = refl
  slots_none a (suc k) f = rw (f a (omega arith) (omega arith)) (slots_none (suc a) k (λ i l u. f i (omega arith) (omega arith)))

  pub bits_none : (a k : ℕ) → ((i : ℕ) → a ≤ i → i < a + k → p i ≡ false) → bits_from p a k ≡ 0
  unfolding bits_from bit
  bits_none a zero f = refl
  bits_none a (suc k) f =
      rw (f a (omega arith) (omega arith), bits_none (suc a) k (λ i l u. f i (omega arith) (omega arith)))

  -- the number
  pub bits_mod : (a k : ℕ) → bits_from p a (suc k) % 2 ≡ bit (p a)
  unfolding bits_from
  bits_mod a k = omega (arith, bit_le (p a))

  pub bits_div : (a k : ℕ) → bits_from p a (suc k) / 2 ≡ bits_from p (suc a) k
  unfolding bits_from
  bits_div a k = omega (arith, bit_le (p a))

  -- a bit of it
  pub bits_at : (a k j : ℕ) → j < k → bits_from p a k / 2 ^ j % 2 ≡ bit (p (a + j))
  bits_at a zero j h = absurd (omega arith)
  bits_at a (suc k) zero h =
      let e : a + 0 ≡ a = omega arith in
      ap (λ (n : ℕ). n % 2) (div-one (bits_from p a (suc k))) ∙ bits_mod a k ∙ ap (λ (i : ℕ). bit (p i)) (sym e)
  bits_at a (suc k) (suc j) h =
      let e : suc a + j ≡ a + suc j = omega arith in
      let less : 1 + j ≡ suc j = omega arith in
      ap (λ (n : ℕ). n % 2) (ap (λ (m : ℕ). bits_from p a (suc k) / 2 ^ m) (sym less) ∙ sym (shr-shr (bits_from p a (suc k)) 1 j) ∙ ap (λ (n : ℕ). n / 2 ^ j) (bits_div a k))
      ∙ bits_at (suc a) k j (omega arith) ∙ ap (λ (i : ℕ). bit (p i)) e

  pub bits_lt : (a k : ℕ) → bits_from p a k < 2 ^ k
  unfolding bits_from
  bits_lt a zero = omega arith
  bits_lt a (suc k) = omega (arith, bit_le (p a), bits_lt (suc a) k, pow-suc 2 k)

  pub bits_top : (i x : ℕ) → 0 < i → i ≤ 64 → x ≡ bits_from p i (64 - i) → x < 2 ^ 63
  bits_top i x l u e =
      let h : 64 - i ≤ 63 = omega arith in
      omega (arith, bits_lt i (64 - i), pow_mono h)

  pub bits_zero : (i x : ℕ) → i ≡ 0 → x ≡ bits_from p i (64 - i) → x ≡ bits_from p 0 64
  bits_zero i x z e = e ∙ ap (λ (j : ℕ). bits_from p j (64 - j)) z

  pub bits_down : (i x : ℕ) → 0 < i → i ≤ 64 → x ≡ bits_from p i (64 - i) → x * 2 + bit (p (i - 1)) ≡ bits_from p (i - 1) (64 - (i - 1))
  unfolding bits_from
  bits_down zero x l u e = absurd (omega arith)
  bits_down (suc i) x l u e =
      let a : suc i - 1 ≡ i = omega arith in
      let b : 64 - i ≡ suc (64 - suc i) = omega arith in
      rw (a, b, e)

  length_cons : (a k : ℕ) (b : Bool) → bit b + length (slots_from p (suc a) k) ≡ length (cond b (a ∷ slots_from p (suc a) k) (slots_from p (suc a) k))
  unfolding bit
  length_cons a k true = omega arith
  length_cons a k false = omega arith

  pub ones_bits : (a k : ℕ) → ones (bits_from p a k) ≡ length (slots_from p a k)
  unfolding slots_from
  ones_bits a zero = unfold bits_from ones lib.Count.ones_in in refl
  ones_bits a (suc k) =
      ones_step (bits_from p a (suc k)) ∙ ap (λ (n : ℕ). n + ones (bits_from p a (suc k) / 2)) (bits_mod a k)
      ∙ ap (λ (n : ℕ). bit (p a) + ones n) (bits_div a k) ∙ ap (λ (n : ℕ). bit (p a) + n) (ones_bits (suc a) k) ∙ length_cons a k (p a)

  -- one slot more
  pub bits_more : (a k : ℕ) → bits_from p a (suc k) ≡ bits_from p a k + bit (p (a + k)) * 2 ^ k
  unfolding bits_from
  bits_more a zero =
      let e : a + 0 ≡ a = omega arith in
      rw e (omega arith)
  bits_more a (suc k) =
      let e : suc a + k ≡ a + suc k = omega arith in
      omega (arith, rw e at (bits_more (suc a) k), twice (bit (p (a + suc k))) k)

  -- a turn of a loop that joins slot i to those below it
  pub bits_joined : (i x y : ℕ) (b : Bool) → x ≡ bits_from p 0 i → b ≡ p i → y ≡ x + bit b * 2 ^ i → y ≡ bits_from p 0 (i + 1)
  bits_joined i x y b e f g =
      let z : 0 + i ≡ i = omega arith in
      g ∙ ap (λ (n : ℕ). n + bit b * 2 ^ i) e ∙ ap (λ (t : Bool). bits_from p 0 i + bit t * 2 ^ i) f ∙ sym (rw z at (bits_more 0 i)) ∙ ap (bits_from p 0) (sym (add-one i))
