-- The listing of the page program, and what stands in its store: antt computes the definitions on the octets of the paper's store, slot by slot. Assumes nothing.
use mathlib.Core.Path.{◌≡◌, refl, sym, ap, subst, ◌∙◌}
use mathlib.Core.Bool.{true, false}
use mathlib.Core.List.{List, [], ◌∷◌}
use Rattle.std.specs.Prelude.{Some}
use Prim.Native.Nat.{ℕ}
use lib.Dec.{lit≤}
use lib.ListN.{length, replicate}
use Rattle.order.specs.Steps.{gives, run, first_of}
use Rattle.geo.specs.Area.{inside_of}
use Rattle.bitfields.specs.Field.{number, octets, digits_at, with_digits, field}
use Rattle.bitfields.specs.Runs.{fields_of}
use Rattle.records.specs.Records.{region_of, permissions_of, scope_of, items_of}
use Rattle.records.proofs.Numbers.{digits_put, run_put, items_put, image_put}
use Rattle.store.specs.Slots.{HELD, slot_count, store_length, state_at, filled_at, id_at, issuer_at}
use Rattle.store.specs.Search.{lowest_from, find}
use Rattle.store.specs.Withdrawn.{withdrawn_in}
use Rattle.validity.specs.Each.{each_below}
use Rattle.validity.specs.Good.{rectangle_good, good_record, good_slot}
use Rattle.validity.specs.Valid.{slot_good, differs, fresh, valid_store}
use Rattle.chain.specs.Stored.{subject_at, issuer_in, walk_number, stands}
use Rattle.chain.specs.Computed.{also_at}
use Rattle.chain.specs.Walk.{walk}
use Rattle.slot_lists.specs.SlotSets.{slots_from}
use Rattle.slot_lists.specs.Listings as listings
use Rattle.withdrawal.specs.Order.{asked, listed_for, page}
use Rattle.withdrawal.specs.Computed.{falls_with}
use Rattle.withdrawal.proofs.Asked.{asked_at, held_still, page_asked}
use Rattle.withdrawal.proofs.Fallen.{slots_affected}
use Rattle.overview.specs.Order.{standing_slots, standing_listing}
use Rattle.overview.proofs.Tests.{look_good}
use Rattle.sample_stores.specs.Stores.{eight}
use Rattle.worked_numbers.specs.Example.{shown}
use Rattle.worked_numbers.proofs.Images.{written, shown_written, written_octets}

long : length written ≡ store_length
unfolding written image_put items_of items_put run_put digits_put with_digits octets
long = refl

good : valid_store written ≡ true
unfolding written image_put items_of items_put run_put digits_put with_digits octets state_at id_at field digits_at number valid_store each_below slot_good good_slot good_record rectangle_good fresh differs
good = refl

found : find written (number (eight 0x02)) ≡ Some 1
unfolding written image_put items_of items_put run_put digits_put with_digits octets find lowest_from state_at id_at field digits_at number
found = refl

state : state_at written 1 ≡ HELD
unfolding written image_put items_of items_put run_put digits_put with_digits octets state_at field digits_at number
state = refl

still : withdrawn_in written (id_at written 1) ≡ false
unfolding written image_put items_of items_put run_put digits_put with_digits octets withdrawn_in find lowest_from state_at id_at field digits_at number
still = refl

slots : slots_from (falls_with written 220 1) 0 slot_count ≡ 1 ∷ 2 ∷ []
unfolding written image_put items_of items_put run_put digits_put with_digits octets find lowest_from state_at id_at issuer_at field digits_at number fields_of region_of permissions_of scope_of subject_at issuer_in also_at withdrawn_in walk_number walk run first_of inside_of falls_with slots_from
slots = refl

place : asked written (eight 0x02) ≡ gives 1
place =
    sym (asked_at written (eight 0x02) long refl good 1 found) ∙ sym (held_still written 1 still)

filled : filled_at written 1 ≡ true
filled = rw state

page_written : page written (eight 0x02) 220 (replicate slot_count 0) ≡ listings.written (1 ∷ 2 ∷ []) (replicate slot_count 0) written
unfolding listed_for
page_written =
    sym (page_asked written (eight 0x02) 220 (replicate slot_count 0) (gives 1) (lit≤ tt) place)
    ∙ ap (λ (l : List ℕ). listings.written l (replicate slot_count 0) written) (sym (slots_affected written 1 220 written_octets good (lit≤ tt) filled) ∙ slots)

pub listed : page shown (eight 0x02) 220 (replicate slot_count 0) ≡ listings.written (1 ∷ 2 ∷ []) (replicate slot_count 0) shown
listed = subst (λ (s : List ℕ). page s (eight 0x02) 220 (replicate slot_count 0) ≡ listings.written (1 ∷ 2 ∷ []) (replicate slot_count 0) s) (sym shown_written) page_written

standing_slots_lem : standing_slots written 220 ≡ 0 ∷ 1 ∷ 2 ∷ 4 ∷ 5 ∷ []
unfolding written image_put items_of items_put run_put digits_put with_digits octets find lowest_from state_at id_at issuer_at field digits_at number fields_of region_of permissions_of scope_of subject_at issuer_in withdrawn_in walk_number walk run first_of inside_of stands slots_from standing_slots
standing_slots_lem = refl

standing_written : standing_listing written 220 (replicate slot_count 0) ≡ listings.written (0 ∷ 1 ∷ 2 ∷ 4 ∷ 5 ∷ []) (replicate slot_count 0) written
standing_written =
    sym (look_good written 220 (replicate slot_count 0) (lit≤ tt) long good)
    ∙ ap (λ (l : List ℕ). listings.written l (replicate slot_count 0) written) standing_slots_lem

pub standing : standing_listing shown 220 (replicate slot_count 0) ≡ listings.written (0 ∷ 1 ∷ 2 ∷ 4 ∷ 5 ∷ []) (replicate slot_count 0) shown
standing = subst (λ (s : List ℕ). standing_listing s 220 (replicate slot_count 0) ≡ listings.written (0 ∷ 1 ∷ 2 ∷ 4 ∷ 5 ∷ []) (replicate slot_count 0) s) (sym shown_written) standing_written
