-- The loop that writes a set's slots to the front of a list: what has been written, and what is still to be. Assumes nothing.
use mathlib.Core.Path.{◌≡◌, refl, sym, ap, ◌∙◌}
use mathlib.Core.Bool.{Bool, true, false, cond}
use mathlib.Core.List.{List, [], ◌∷◌, ◌++◌, append-nil}
use Prim.Native.Nat.{ℕ, zero, suc, ◌+◌, ◌-◌, ◌/◌, ◌%◌, ◌≤◌, ◌<◌}
use native.Mathlib.Numerals.{add-one}
use native.Mathlib.Omega.{arith}
use lib.ListN.{length, take, drop, set, length-set, take-append-drop}
use lib.Seq.{take-suc-set, drop-set-lt, drop-drop, append_snoc, length-take-le}
use lib.Dec.{eqb}
use borrow.Author.Tests.{eq-eqb, ne_eqb}
use Rattle.octets.specs.Buffers.{with_front}
use Rattle.slot_lists.specs.SlotSets.{slots_from}
use Rattle.slot_lists.specs.Computed.{slots_in, bit, bits_from}
use Rattle.slot_lists.proofs.SlotSets.{bits_mod, bits_div}

pub record Writing (n : ℕ) (out₀ out : List ℕ) (rest k i : ℕ) : Type 0 where
  pub i_le : i ≤ 64
  pub k_le : k ≤ i
  pub long : length out ≡ length out₀
  pub tail : drop k out ≡ drop k out₀
  pub whole : take k out ++ slots_in rest i (64 - i) ≡ slots_in n 0 64

pub start : (n : ℕ) (out : List ℕ) → Writing n out out n 0 0
start n out = record { i_le = omega arith; k_le = omega arith; long = refl; tail = refl; whole = refl }

in_step : (r i : ℕ) → i < 64 → slots_in r i (64 - i) ≡ cond (eqb (r % 2) 1) (i ∷ slots_in (r / 2) (i + 1) (64 - (i + 1))) (slots_in (r / 2) (i + 1) (64 - (i + 1)))
unfolding slots_in
in_step r i l =
    let e : 64 - i ≡ suc (64 - (i + 1)) = omega arith in
    rw (e, add-one)

module _ (n : ℕ) (out₀ out : List ℕ) (r k i : ℕ) (w : Writing n out₀ out r k i) (l : i < 64) where
  pub pass : ¬ (r % 2 ≡ 1) → Writing n out₀ out (r / 2) k (i + 1)
  pass z = record {
    i_le = omega arith;
    k_le = omega arith;
    long = w.long;
    tail = w.tail;
    whole = ap (λ (x : List ℕ). take k out ++ x) (sym (in_step r i l ∙ simp (ne_eqb (r % 2) 1 z))) ∙ w.whole;
  }

  pub put : 64 ≤ length out₀ → r % 2 ≡ 1 → Writing n out₀ (set out k i) (r / 2) (k + 1) (i + 1)
  put room z =
      let k< : k < length out = omega (arith, w.k_le, w.long) in
      let rest : List ℕ = slots_in (r / 2) (i + 1) (64 - (i + 1)) in
      let e : slots_in r i (64 - i) ≡ i ∷ rest = in_step r i l ∙ simp (eq-eqb (r % 2) 1 z) in
      record {
        i_le = omega arith;
        k_le = omega (arith, w.k_le);
        long = length-set out k i ∙ w.long;
        tail = drop-set-lt (k + 1) out k i (omega arith) ∙ sym (drop-drop 1 k out) ∙ ap (drop 1) w.tail ∙ drop-drop 1 k out₀;
        whole = ap (λ (m : ℕ). take m (set out k i) ++ rest) (add-one k) ∙ ap (λ (x : List ℕ). x ++ rest) (take-suc-set out k i k<) ∙ append_snoc (take k out) i rest ∙ ap (λ (x : List ℕ). take k out ++ x) (sym e) ∙ w.whole;
      }

-- of an empty set nothing is to be written
none_in : (i k : ℕ) → slots_in 0 i k ≡ []
unfolding slots_in
none_in i zero = refl
none_in i (suc k) = none_in (suc i) k

pub done : (n : ℕ) (out₀ out : List ℕ) (r k i : ℕ) → Writing n out₀ out r k i → slots_in r i (64 - i) ≡ [] → 64 ≤ length out₀ → out ≡ with_front (slots_in n 0 64) out₀
done n out₀ out r k i w none room =
    let A : List ℕ = slots_in n 0 64 in
    let t : take k out ≡ A = sym (append-nil (take k out)) ∙ (ap (λ (x : List ℕ). take k out ++ x) (sym none) ∙ w.whole) in
    let len : length A ≡ k = sym (ap length t) ∙ length-take-le k out (omega (arith, w.k_le, w.i_le, w.long)) in
    sym (take-append-drop k out) ∙ ap (λ (x : List ℕ). x ++ drop k out) t ∙ ap (λ (x : List ℕ). A ++ x) (w.tail ∙ ap (λ (m : ℕ). drop m out₀) (sym len))

-- every slot was looked at, or the rest of the set is empty
pub all_passed : (r i : ℕ) → 64 ≤ i → slots_in r i (64 - i) ≡ []
unfolding slots_in
all_passed r i l =
    let z : 64 - i ≡ 0 = omega arith in
    ap (slots_in r i) z

pub none_left : (r i : ℕ) → r ≡ 0 → slots_in r i (64 - i) ≡ []
none_left r i e = ap (λ (m : ℕ). slots_in m i (64 - i)) e ∙ none_in i (64 - i)

-- the slots of the number are those of the list
in_cons : (a : ℕ) (b : Bool) (x y : List ℕ) → x ≡ y → cond (eqb (bit b) 1) (a ∷ x) x ≡ cond b (a ∷ y) y
unfolding bit
in_cons a true x y e = ap (λ (l : List ℕ). a ∷ l) e
in_cons a false x y e = e

pub slots_in_lem : (p : ℕ → Bool) (a k : ℕ) → slots_in (bits_from p a k) a k ≡ slots_from p a k
unfolding slots_in slots_from
slots_in_lem p a zero = refl
slots_in_lem p a (suc k) = rw (bits_mod p a k, bits_div p a k) (in_cons a (p a) _ _ (slots_in_lem p (suc a) k))
