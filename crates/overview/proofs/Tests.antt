-- What stored and standing answer, test by test. Assumes nothing.
use mathlib.Core.Path.{◌≡◌, refl, sym, ap, ◌∙◌}
use mathlib.Core.Bool.{true, false}
use mathlib.Core.List.{List}
use Prim.Native.Nat.{ℕ, ◌≤◌, ◌<◌}
use lib.Count.{ones}
use lib.ListN.{length}
use borrow.Author.Tests.{eq-eqb, le-leb, le-ltb, lt-ltb}
use Rattle.order.specs.Steps.{well}
use Rattle.order.proofs.Steps.{passes, fails, gives_exactly}
use Rattle.octets.specs.Buffers.{with_front}
use Rattle.octets.specs.Refusals.{ACCEPTED, BAD_CALL, UNKNOWN}
use Rattle.records.specs.Records.{record_of}
use Rattle.store.specs.Slots.{slot_count, store_length, slot_of, filled_at}
use Rattle.validity.specs.Valid.{valid_store}
use Rattle.chain.specs.Stored.{stands}
use Rattle.slot_lists.specs.Listings.{Listing, written}
use Rattle.slot_lists.specs.Computed.{bits_from, slots_in}
use Rattle.slot_lists.proofs.Listings.{by_set}
use Rattle.overview.specs.Order.{SlotReading, reading, unread, read_from, slot_reading, looking, standing_slots, standing_for, standing_listing}

module _ (s : List ℕ) (i : ℕ) (long : length s ≡ store_length) where
  pub read_beyond : slot_count ≤ i → unread BAD_CALL ≡ slot_reading s i
  unfolding slot_reading
  read_beyond h = sym (ap read_from (passes (eq-eqb _ _ long) _ _ ∙ fails (le-ltb i slot_count h) _ _))

  pub read_empty : i < slot_count → valid_store s ≡ true → filled_at s i ≡ false → unread UNKNOWN ≡ slot_reading s i
  unfolding slot_reading
  read_empty below good e =
      sym (ap read_from (passes (eq-eqb _ _ long) _ _ ∙ passes (lt-ltb i slot_count below) _ _ ∙ passes good _ _ ∙ fails e _ _))

  pub read_filled : i < slot_count → valid_store s ≡ true → filled_at s i ≡ true
      → ◌≡◌ {A = SlotReading} (record { number = ACCEPTED; contents = record_of (slot_of s i) }) (slot_reading s i)
  unfolding slot_reading
  read_filled below good e =
      sym (ap read_from ((gives_exactly (reading s i) (record_of (slot_of s i))).1 (eq-eqb _ _ long, (lt-ltb i slot_count below, (good, (e, refl))))))

module _ (s : List ℕ) (t : ℕ) (l : List ℕ) (room : slot_count ≤ length l) (long : length s ≡ store_length) (good : valid_store s ≡ true) where
  pub look_good : written (standing_slots s t) l s ≡ standing_listing s t l
  unfolding standing_listing
  look_good = sym (ap (standing_for s t l) ((gives_exactly (looking s l) well).1 (le-leb slot_count (length l) room, (eq-eqb _ _ long, (good, refl)))))

  -- the set's ones and its slots
  pub look_set : (x : ℕ) (o : List ℕ) → x ≡ bits_from (stands s t) 0 64 → o ≡ with_front (slots_in x 0 64) l
      → ◌≡◌ {A = Listing} (record { number = 0; n = ones x; list = o; store = s }) (standing_listing s t l)
  unfolding standing_slots
  look_set x o e q = by_set (stands s t) s l x o e q ∙ look_good
