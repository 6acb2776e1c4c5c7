-- The laws of specs/Laws.antt hold. Assumes nothing.
use mathlib.Core.Path.{◌≡◌, refl, sym, ap, subst, ◌∙◌}
use mathlib.Core.Logic.{◌↔◌}
use mathlib.Core.List.{List, Memᴰ}
use Prim.Native.Nat.{ℕ, ◌≤◌, ◌<◌, zero-le}
use native.Mathlib.Omega.{arith}
use lib.ListN.{length, get_or, take}
use borrow.Author.Tests.{leb-true, ltb-true}
use Rattle.order.specs.Steps.{Answer, gives, refused, number, rows, First, run, Well}
use Rattle.order.proofs.Steps.{zero_exactly, refuses_at}
use Rattle.octets.specs.Buffers.{with_front}
use Rattle.records.specs.Records.{record_of}
use Rattle.records.specs.declared.Record.{Record}
use Rattle.store.specs.Slots.{slot_count, slot_of}
use Rattle.validity.specs.Laws.{Valid}
use Rattle.validity.proofs.Laws.{valid_of}
use Rattle.validity.proofs.Laws as validity
use Rattle.chain.specs.Stored.{stands, Stored, Stands}
use Rattle.chain.proofs.Laws.{stands_filled}
use Rattle.slot_lists.specs.Listings.{refused_list, written}
use Rattle.slot_lists.proofs.SlotSets.{mem_to, mem_from, slots_sorted, slots_fit}
use Rattle.slot_lists.proofs.Listings.{front_named, front_long, front_behind}
use Rattle.overview.specs.Order.{reading, no_record, read_from, slot_reading, looking, standing_slots, standing_for, standing_listing}
use Rattle.overview.specs.Laws.{Overview, Laws}
use Rattle.overview.proofs.Tests.{read_filled, look_good}

-- ---- stored

from_number : (a : Answer Record) → (read_from a).number ≡ number a
from_number (gives r) = refl
from_number (refused k) = refl

from_zeros : (a : Answer Record) → ¬ ((read_from a).number ≡ 0) → (read_from a).contents ≡ no_record
from_zeros (gives r) n = absurd (n refl)
from_zeros (refused k) n = refl

module _ (s : List ℕ) (i : ℕ) where
  read_number : (slot_reading s i).number ≡ number (run (reading s i))
  unfolding slot_reading
  read_number = from_number (run (reading s i))

  read_to : (slot_reading s i).number ≡ 0 → Valid s × Stored s i
  read_to e =
      let g = ((zero_exactly (reading s i) tt).0 (sym read_number ∙ e)).1 in
      (valid_of s g.1.1.0, record { slot = ltb-true _ _ g.1.0; filled = g.1.1.1.0 })

  pub read_given : Valid s → Stored s i → slot_reading s i ≡ record { number = 0; contents = record_of (slot_of s i) }
  read_given v h = sym (read_filled s i v.size h.slot (((validity.laws).valid_exactly s).1 v) h.filled)

  read_exactly : ((slot_reading s i).number ≡ 0) ↔ (Valid s × Stored s i)
  read_exactly = (read_to, λ h. ap (λ r. r.number) (read_given h.0 h.1))

  read_gives : (slot_reading s i).number ≡ 0 → (slot_reading s i).contents ≡ record_of (slot_of s i)
  read_gives e = let h = read_to e in ap (λ r. r.contents) (read_given h.0 h.1)

  read_refused : (k : ℕ) → ¬ (k ≡ 0) → ((slot_reading s i).number ≡ k) ↔ First (rows (reading s i)) k
  read_refused k z =
      let e = refuses_at (reading s i) k z in
      ((λ q. e.0 (sym read_number ∙ q)), (λ f. read_number ∙ e.1 f))

  read_zeros : ¬ ((slot_reading s i).number ≡ 0) → (slot_reading s i).contents ≡ no_record
  unfolding slot_reading
  read_zeros n = from_zeros (run (reading s i)) n

-- ---- standing

module _ (s : List ℕ) (t : ℕ) (l : List ℕ) where
  for_number : (a : Answer Well) → (standing_for s t l a).number ≡ number a
  for_number (gives w) = refl
  for_number (refused k) = refl

  for_keeps : (a : Answer Well) → ¬ ((standing_for s t l a).number ≡ 0) → standing_for s t l a ≡ refused_list (standing_for s t l a).number l s
  for_keeps (gives w) n = absurd (n refl)
  for_keeps (refused k) n = refl

  for_reads : (a : Answer Well) → (standing_for s t l a).store ≡ s
  for_reads (gives w) = refl
  for_reads (refused k) = refl

  for_few : (a : Answer Well) → (standing_for s t l a).n ≤ slot_count
  unfolding standing_slots
  for_few (gives w) = slots_fit (stands s t) 0 slot_count
  for_few (refused k) = zero-le

  look_number : (standing_listing s t l).number ≡ number (run (looking s l))
  unfolding standing_listing
  look_number = for_number (run (looking s l))

  look_given : Valid s → slot_count ≤ length l → standing_listing s t l ≡ written (standing_slots s t) l s
  look_given v room = sym (look_good s t l room v.size (((validity.laws).valid_exactly s).1 v))

  look_to : (standing_listing s t l).number ≡ 0 → Valid s × (slot_count ≤ length l)
  look_to e =
      let g = ((zero_exactly (looking s l) tt).0 (sym look_number ∙ e)).1 in
      (valid_of s g.1.1.0, leb-true _ _ g.0)

  look_exactly : ((standing_listing s t l).number ≡ 0) ↔ (Valid s × (slot_count ≤ length l))
  look_exactly = (look_to, λ h. ap (λ p. p.number) (look_given h.0 h.1))

  look_refused : (k : ℕ) → ¬ (k ≡ 0) → ((standing_listing s t l).number ≡ k) ↔ First (rows (looking s l)) k
  look_refused k z =
      let e = refuses_at (looking s l) k z in
      ((λ q. e.0 (sym look_number ∙ q)), (λ f. look_number ∙ e.1 f))

  look_keeps : ¬ ((standing_listing s t l).number ≡ 0) → standing_listing s t l ≡ refused_list (standing_listing s t l).number l s
  unfolding standing_listing
  look_keeps n = for_keeps (run (looking s l)) n

  look_reads : (standing_listing s t l).store ≡ s
  unfolding standing_listing
  look_reads = for_reads (run (looking s l))

  -- for the C interface: the count fits
  pub look_few : (standing_listing s t l).n ≤ slot_count
  unfolding standing_listing
  look_few = for_few (run (looking s l))

  -- a slot is in the list exactly if it is filled and its certificate stands
  slots_exactly : (i : ℕ) → Memᴰ i (standing_slots s t) ↔ (Stored s i × Stands s t i)
  unfolding standing_slots
  slots_exactly i = (
    (λ m. let r = mem_to (stands s t) 0 slot_count i m in (record { slot = r.1; filled = stands_filled s t i r.2 }, r.2)),
    (λ r. mem_from (stands s t) 0 slot_count i zero-le r.0.slot r.1),
  )

  slots_ordered : (a b : ℕ) → a < b → b < length (standing_slots s t) → get_or (standing_slots s t) a 0 < get_or (standing_slots s t) b 0
  unfolding standing_slots
  slots_ordered a b = slots_sorted (stands s t) 0 slot_count a b

  slots_few : length (standing_slots s t) ≤ slot_count
  unfolding standing_slots
  slots_few = slots_fit (stands s t) 0 slot_count

  overview_here : slot_count ≤ length l → Overview s t l (written (standing_slots s t) l s)
  overview_here room =
      let a : List ℕ = standing_slots s t in
      let fits : length a ≤ length l = omega (arith, slots_few, room) in
      let n : take (length a) (with_front a l) ≡ a = front_named a l fits in
      record {
        accepted = refl;
        exact = λ i. rw n (slots_exactly i);
        ordered = λ x y u v. rw n (slots_ordered x y u v);
        counted = ap length n;
        behind = front_behind a l fits;
        lent = front_long a l fits;
        unchanged = refl;
      }

  overview : Valid s → slot_count ≤ length l → Overview s t l (standing_listing s t l)
  overview v room = subst (Overview s t l) (sym (look_given v room)) (overview_here room)

pub laws : Laws
laws =
    record {
      read_exactly = read_exactly;
      read_gives = read_gives;
      read_refused = read_refused;
      read_zeros = read_zeros;
      look_exactly = look_exactly;
      look_refused = look_refused;
      look_keeps = look_keeps;
      look_reads = look_reads;
      overview = overview;
    }
