-- Which certificates fall, from what the code asks; and the list and the count that the set of their slots makes. Assumes nothing.
use mathlib.Core.Path.{◌≡◌, sym, ap, ◌∙◌}
use mathlib.Core.Bool.{Bool, true, false}
use mathlib.Core.List.{List}
use Prim.Native.Nat.{ℕ, ◌<◌}
use native.Mathlib.Omega.{arith}
use lib.Count.{ones}
use borrow.Author.Tests.{ne_eqb}
use Rattle.order.specs.Steps.{gives}
use Rattle.bitfields.specs.Field.{Octets}
use Rattle.geo.proofs.Bools.{and_false}
use Rattle.store.specs.Slots.{filled_at}
use Rattle.validity.specs.Valid.{valid_store}
use Rattle.validity.proofs.Laws.{valid_of}
use Rattle.std.specs.Prelude.{None, Result, Ok, Err, is_ok}
use Rattle.octets.specs.Outcomes.{answer_of}
use Rattle.octets.specs.declared.refusals.Refusal.{Refusal}
use Rattle.octets.proofs.Outcomes.{number_no_zero}
use Rattle.chain.specs.Stored.{subject_at, walk_number, followers}
use Rattle.chain.specs.Computed.{no_slot, also_at}
use Rattle.octets.specs.Buffers.{with_front}
use Rattle.slot_lists.specs.SlotSets.{slots_from}
use Rattle.slot_lists.specs.Listings.{Listing, written}
use Rattle.slot_lists.specs.Computed.{bits_from, slots_in}
use Rattle.slot_lists.proofs.SlotSets.{slots_same}
use Rattle.slot_lists.proofs.Listings.{by_set}
use Rattle.withdrawal.specs.Computed.{falls_with}
use Rattle.withdrawal.specs.Order.{after, falls, affected, listed_for}
use Rattle.withdrawal.proofs.Frame.{falls_with_lem}

module _ (s : List ℕ) (t c i : ℕ) where
  pub falls_empty : filled_at s i ≡ false → false ≡ falls_with s t c i
  unfolding falls_with
  falls_empty e = rw e

  module _ (f : filled_at s i ≡ true) where
    pub falls_not : walk_number (also_at s c) s t None followers (subject_at s i) ≡ 0 → false ≡ falls_with s t c i
    unfolding falls_with
    falls_not e = rw (f, e, and_false)

    pub falls_never : ¬ (walk_number (also_at s no_slot) s t None followers (subject_at s i) ≡ 0) → false ≡ falls_with s t c i
    unfolding falls_with
    falls_never m = rw (f, ne_eqb _ 0 m)

    module _ (n : ¬ (walk_number (also_at s c) s t None followers (subject_at s i) ≡ 0)) where
      pub falls_here : walk_number (also_at s no_slot) s t None followers (subject_at s i) ≡ 0 → true ≡ falls_with s t c i
      unfolding falls_with
      falls_here e = rw (f, e, ne_eqb _ 0 n)

      -- by what the walk before the withdrawal answers
      pub falls_by : (r : Result (Unit {0}) Refusal) → answer_of r ≡ walk_number (also_at s no_slot) s t None followers (subject_at s i) → (b : Bool) → b ≡ is_ok r → b ≡ falls_with s t c i
      falls_by (Ok u) h b e = e ∙ falls_here (sym h)
      falls_by (Err k) h b e = e ∙ falls_never (λ z. number_no_zero k (h ∙ z))

-- the set's ones and its list are the page's n and list
module _ (s : List ℕ) (c t : ℕ) (are : Octets s) (good : valid_store s ≡ true) (h : c < 64) (f : filled_at s c ≡ true) where
  pub slots_affected : slots_from (falls_with s t c) 0 64 ≡ affected s (after s c) t
  unfolding affected
  slots_affected =
      slots_same (falls_with s t c) (falls s (after s c) t) 0 64 (λ i l u. falls_with_lem s c are (valid_of s good).size h f t i (omega arith))

  pub fallen_set : (l : List ℕ) (x : ℕ) (o : List ℕ) → x ≡ bits_from (falls_with s t c) 0 64 → o ≡ with_front (slots_in x 0 64) l
      → ◌≡◌ {A = Listing} (record { number = 0; n = ones x; list = o; store = s }) (listed_for s t l (gives c))
  unfolding listed_for
  fallen_set l x o e q = by_set (falls_with s t c) s l x o e q ∙ ap (λ (r : List ℕ). written r l s) slots_affected
