-- What stored and standing answer. Assumes nothing.
use Prim.Native.Nat.{ℕ}
use mathlib.Core.Path.{◌≡◌, refl, sym, ap, ◌∙◌}
use mathlib.Core.Bool.{true}
use mathlib.Core.List.{List, [], ◌∷◌}
use borrow.Author.Tests.{eqb-true}
use lib.Dec.{lit≤}
use lib.ListN.{replicate}
use Rattle.order.specs.Steps.{run, first_of}
use Rattle.octets.specs.Kinds.{TICKET}
use Rattle.geo.specs.Area.{inside_of}
use Rattle.bitfields.specs.Field.{number, digits_at, field, octets, with_digits}
use Rattle.bitfields.specs.Runs.{fields_of}
use Rattle.records.specs.Records.{region_of, permissions_of, scope_of, record_of, items_of}
use Rattle.records.specs.declared.Record.{Record}
use Rattle.records.proofs.Numbers.{digits_put, run_put, items_put, image_put}
use Rattle.store.specs.Slots.{HELD, GONE, slot_of, state_at, filled_at, id_at, issuer_at}
use Rattle.store.specs.Search.{lowest_from, find}
use Rattle.store.specs.Withdrawn.{withdrawn_in}
use Rattle.validity.specs.Each.{each_below}
use Rattle.validity.specs.Good.{good_slot}
use Rattle.validity.specs.Valid.{slot_good, valid_store}
use Rattle.chain.specs.Walk.{walk}
use Rattle.chain.specs.Stored.{subject_at, issuer_in, walk_number, stands}
use Rattle.slot_lists.specs.SlotSets.{slots_from}
use Rattle.slot_lists.specs.Listings.{refused_list, written}
use Rattle.overview.specs.Order.{unread, slot_reading, standing_slots, standing_listing}
use Rattle.overview.proofs.Tests.{read_empty, read_filled, look_good}
use Rattle.witnesses.specs.Inputs.{everywhere, bay, stored, empty, marked}
use Rattle.witnesses.specs.Table.{AllReached, storing, lent, looking}
use Rattle.witnesses.proofs.Opened.{Open}
use Rattle.witnesses.proofs.Empty.{empty_open, empty_states}
use Rattle.witnesses.proofs.Images.{chained}
use Rattle.witnesses.proofs.Walked.{chained_open, on_chains}
use Rattle.sample_stores.specs.Stores.{eight}

-- ---- stored

short_store : slot_reading [] 0 ≡ unread 1
unfolding slot_reading run
short_store = refl

no_slot : slot_reading empty 64 ≡ unread 1
unfolding slot_reading run empty
no_slot = refl

bad_store : slot_reading marked 0 ≡ unread 2
unfolding slot_reading run marked valid_store each_below slot_good good_slot field digits_at number
bad_store = refl

empty_slot : slot_reading empty 63 ≡ unread 7
empty_slot = sym (read_empty empty 63 (eqb-true _ _ empty_open.size) (lit≤ tt) empty_open.good (empty_states 63 (lit≤ tt)))

behind : slot_reading chained 12 ≡ unread 7
unfolding chained image_put items_of items_put run_put digits_put with_digits octets state_at field digits_at number
behind = sym (read_empty chained 12 (eqb-true _ _ chained_open.size) (lit≤ tt) chained_open.good refl)

-- a slot of `chained`, by its record
abbrev ticket : Record
ticket = stored (eight 0x05) TICKET (eight 0x02) HELD 200 300 bay

abbrev withdrawn : Record
withdrawn = stored (eight 0x04) TICKET (eight 0x02) GONE 200 300 everywhere

ticket_there : record_of (slot_of chained 4) ≡ ticket
unfolding chained image_put items_of items_put run_put digits_put with_digits octets field digits_at number record_of fields_of region_of permissions_of scope_of
ticket_there = refl

withdrawn_there : record_of (slot_of chained 3) ≡ withdrawn
unfolding chained image_put items_of items_put run_put digits_put with_digits octets field digits_at number record_of fields_of region_of permissions_of scope_of
withdrawn_there = refl

filled_ticket : filled_at chained 4 ≡ true
unfolding chained image_put items_of items_put run_put digits_put with_digits octets state_at field digits_at number
filled_ticket = refl

filled_withdrawn : filled_at chained 3 ≡ true
unfolding chained image_put items_of items_put run_put digits_put with_digits octets state_at field digits_at number
filled_withdrawn = refl

ticket_read : slot_reading chained 4 ≡ record { number = 0; contents = ticket }
ticket_read =
    sym (read_filled chained 4 (eqb-true _ _ chained_open.size) (lit≤ tt) chained_open.good filled_ticket)
    ∙ ap (λ (r : Record). record { number = 0; contents = r }) ticket_there

withdrawn_read : slot_reading chained 3 ≡ record { number = 0; contents = withdrawn }
withdrawn_read =
    sym (read_filled chained 3 (eqb-true _ _ chained_open.size) (lit≤ tt) chained_open.good filled_withdrawn)
    ∙ ap (λ (r : Record). record { number = 0; contents = r }) withdrawn_there

pub storing_reached : AllReached storing
storing_reached = (
  (short_store, (no_slot, tt)),
  (
    (bad_store, tt),
    (
      (empty_slot, (on_chains (λ s. slot_reading s 12 ≡ unread 7) behind, tt)),
      (
        (
          on_chains (λ s. slot_reading s 4 ≡ record { number = 0; contents = ticket }) ticket_read,
          (on_chains (λ s. slot_reading s 3 ≡ record { number = 0; contents = withdrawn }) withdrawn_read, tt),
        ),
        tt,
      ),
    ),
  ),
)

-- ---- standing

short_list : standing_listing empty 220 (replicate 63 0xFF) ≡ refused_list 1 (replicate 63 0xFF) empty
unfolding standing_listing run
short_list = refl

no_store : standing_listing [] 220 lent ≡ refused_list 1 lent []
unfolding standing_listing run
no_store = refl

marked_store : standing_listing marked 220 lent ≡ refused_list 2 lent marked
unfolding standing_listing run marked valid_store each_below slot_good good_slot field digits_at number
marked_store = refl

-- in a valid store
stand : (store : List ℕ) (t : ℕ) → Open store → (slots : List ℕ) → standing_slots store t ≡ slots → standing_listing store t lent ≡ written slots lent store
stand store t o slots e =
    sym (look_good store t lent (lit≤ tt) (eqb-true _ _ o.size) o.good) ∙ ap (λ (l : List ℕ). written l lent store) e

none_there : standing_slots empty 220 ≡ []
unfolding standing_slots slots_from stands empty state_at field digits_at number
none_there = refl

standing_there : standing_slots chained 220 ≡ 0 ∷ 1 ∷ 2 ∷ 4 ∷ 5 ∷ 6 ∷ 7 ∷ 8 ∷ 9 ∷ 10 ∷ []
unfolding chained image_put items_of items_put run_put digits_put with_digits octets find lowest_from state_at id_at issuer_at field digits_at number fields_of region_of permissions_of scope_of subject_at issuer_in withdrawn_in walk_number walk run first_of inside_of stands slots_from standing_slots
standing_there = refl

later_there : standing_slots chained 300 ≡ 0 ∷ 1 ∷ 5 ∷ 6 ∷ 7 ∷ 8 ∷ 9 ∷ 10 ∷ []
unfolding chained image_put items_of items_put run_put digits_put with_digits octets find lowest_from state_at id_at issuer_at field digits_at number fields_of region_of permissions_of scope_of subject_at issuer_in withdrawn_in walk_number walk run first_of inside_of stands slots_from standing_slots
later_there = refl

pub looking_reached : AllReached looking
looking_reached = (
  (short_list, (no_store, tt)),
  (
    (marked_store, tt),
    (
      (stand empty 220 empty_open [] none_there, tt),
      (
        (
          on_chains (λ s. standing_listing s 220 lent ≡ written (0 ∷ 1 ∷ 2 ∷ 4 ∷ 5 ∷ 6 ∷ 7 ∷ 8 ∷ 9 ∷ 10 ∷ []) lent s) (stand chained 220 chained_open _ standing_there),
          (
            on_chains (λ s. standing_listing s 300 lent ≡ written (0 ∷ 1 ∷ 5 ∷ 6 ∷ 7 ∷ 8 ∷ 9 ∷ 10 ∷ []) lent s) (stand chained 300 chained_open _ later_there),
            tt,
          ),
        ),
        tt,
      ),
    ),
  ),
)
