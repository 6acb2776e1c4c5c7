-- What a list that was written says, and that a set's slots and its ones are such a list and its count. Assumes nothing.
use mathlib.Core.Path.{◌≡◌, sym, ap, ◌∙◌}
use mathlib.Core.Bool.{Bool}
use mathlib.Core.List.{List}
use Prim.Native.Nat.{ℕ, ◌+◌, ◌-◌, ◌≤◌}
use native.Mathlib.Omega.{arith}
use lib.Count.{ones}
use lib.ListN.{length, get_or, take, drop, length-append, length-drop}
use lib.Seq.{take-append_seam, get_or-append-add, get_or-drop}
use Rattle.octets.specs.Buffers.{with_front}
use Rattle.slot_lists.specs.SlotSets.{slots_from}
use Rattle.slot_lists.specs.Listings.{Listing, written}
use Rattle.slot_lists.specs.Computed.{bits_from, slots_in}
use Rattle.slot_lists.proofs.SlotSets.{ones_bits}
use Rattle.slot_lists.proofs.Writes.{slots_in_lem}

-- the front of a list that was written
module _ (a l : List ℕ) (fits : length a ≤ length l) where
  pub front_named : take (length a) (with_front a l) ≡ a
  front_named = take-append_seam a (drop (length a) l)

  pub front_long : length (with_front a l) ≡ length l
  front_long = omega (arith, length-append a (drop (length a) l), length-drop (length a) l)

  pub front_behind : (k : ℕ) → length a ≤ k → get_or (with_front a l) k 0 ≡ get_or l k 0
  front_behind k h =
      let e : length a + (k - length a) ≡ k = omega arith in
      ap (λ (m : ℕ). get_or (with_front a l) m 0) (sym e) ∙ get_or-append-add a (drop (length a) l) (k - length a) 0
      ∙ get_or-drop (length a) l (k - length a) 0 ∙ ap (λ (m : ℕ). get_or l m 0) e

-- a set's ones and its slots are the count and the list of what it is the set of
pub by_set : (p : ℕ → Bool) (s l : List ℕ) (x : ℕ) (o : List ℕ) → x ≡ bits_from p 0 64 → o ≡ with_front (slots_in x 0 64) l
    → ◌≡◌ {A = Listing} (record { number = 0; n = ones x; list = o; store = s }) (written (slots_from p 0 64) l s)
by_set p s l x o e q =
    let m : ones x ≡ length (slots_from p 0 64) = ap ones e ∙ ones_bits p 0 64 in
    let w : o ≡ with_front (slots_from p 0 64) l = q ∙ ap (λ (r : List ℕ). with_front r l) (ap (λ (n : ℕ). slots_in n 0 64) e ∙ slots_in_lem p 0 64) in
    λ d. record { number = 0; n = m d; list = w d; store = s }
