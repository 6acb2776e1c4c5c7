-- What list and withdraw answer. Assumes nothing.
use Prim.Native.Nat.{ℕ}
use mathlib.Core.Path.{◌≡◌, refl, sym, ap, ◌∙◌}
use mathlib.Core.Bool.{true}
use Rattle.std.specs.Prelude.{Some}
use mathlib.Core.List.{List, [], ◌∷◌}
use borrow.Author.Tests.{eqb-true}
use lib.Dec.{lit≤}
use lib.ListN.{length, replicate}
use Rattle.order.specs.Steps.{Answer, gives, refused, run, first_of}
use Rattle.geo.specs.Area.{inside_of}
use Rattle.bitfields.specs.Field.{number, digits_at, field, octets, with_digits}
use Rattle.bitfields.specs.Runs.{fields_of}
use Rattle.records.specs.Records.{region_of, permissions_of, scope_of, items_of}
use Rattle.store.specs.Slots.{state_at, filled_at, id_at, issuer_at, slot_count}
use Rattle.store.specs.Search.{lowest_from, find}
use Rattle.validity.specs.Each.{each_below}
use Rattle.validity.specs.Good.{good_slot}
use Rattle.validity.specs.Valid.{slot_good, valid_store}
use Rattle.chain.specs.Walk.{walk}
use Rattle.chain.specs.Stored.{subject_at, issuer_in, walk_number}
use Rattle.chain.specs.Computed.{also_at}
use Rattle.slot_lists.specs.SlotSets.{slots_from}
use Rattle.slot_lists.specs.Listings.{refused_list, written}
use Rattle.withdrawal.specs.Order.{asked, listed_for, after, page, withdrawal}
use Rattle.withdrawal.specs.Computed.{held_at, falls_with}
use Rattle.withdrawal.proofs.Asked.{asked_unknown, asked_at, page_asked, page_refused, withdrawal_asked}
use Rattle.withdrawal.proofs.Fallen.{slots_affected}
use Rattle.witnesses.specs.Inputs.{empty, marked}
use Rattle.witnesses.specs.Table.{EachReached, AllReached, unlisted, listing}
use Rattle.witnesses.proofs.Opened.{Open}
use Rattle.witnesses.proofs.Empty.{empty_open, empty_finds}
use Rattle.witnesses.proofs.Walked.{chained_open, on_chains}
use Rattle.witnesses.proofs.Images.{chained, chained_octets}
use Rattle.sample_stores.specs.Stores.{eight}
use Rattle.records.proofs.Numbers.{digits_put, run_put, items_put, image_put}
use Rattle.store.specs.Withdrawn.{withdrawn_in}

pair : (store id : List ℕ) (k : ℕ) → asked store id ≡ refused k → EachReached (unlisted store id k)
pair store id k e = (sym (page_refused store id 220 (replicate slot_count 0) k (lit≤ tt) e), (sym (withdrawal_asked store id (refused k) e), tt))

short_store : EachReached (unlisted [] (eight 0x02) 1)
unfolding asked run
short_store = pair [] (eight 0x02) 1 refl

short_id : EachReached (unlisted empty (replicate 7 0x02) 1)
unfolding asked run empty
short_id = pair empty (replicate 7 0x02) 1 refl

short_list : page empty (eight 0x02) 220 (replicate 63 0) ≡ refused_list 1 (replicate 63 0) empty
unfolding page listed_for run
short_list = refl

bad_store : EachReached (unlisted marked (eight 0x02) 2)
unfolding asked run marked valid_store each_below slot_good good_slot field digits_at number
bad_store = pair marked (eight 0x02) 2 refl

-- the slot that is asked for in a valid store
slot_in_lem : (store id : List ℕ) → Open store → length id ≡ 8 → (c : ℕ) → find store (number id) ≡ Some c → (a : Answer ℕ) → held_at store c ≡ a → asked store id ≡ a
slot_in_lem store id o l c f a h = sym (asked_at store id (eqb-true _ _ o.size) l o.good c f) ∙ h

unknown : EachReached (unlisted empty (eight 0x02) 7)
unknown =
    pair empty (eight 0x02) 7
    (sym (asked_unknown empty (eight 0x02) (eqb-true _ _ empty_open.size) refl empty_open.good (empty_finds (number (eight 0x02)))))

gone : EachReached (unlisted chained (eight 0x04) 8)
unfolding held_at withdrawn_in chained image_put items_of items_put run_put digits_put with_digits octets find lowest_from state_at id_at field digits_at number
gone = pair chained (eight 0x04) 8 (slot_in_lem chained (eight 0x04) chained_open refl 3 refl (refused 8) refl)

place : asked chained (eight 0x02) ≡ gives 1
unfolding held_at withdrawn_in chained image_put items_of items_put run_put digits_put with_digits octets find lowest_from state_at id_at field digits_at number
place = slot_in_lem chained (eight 0x02) chained_open refl 1 refl (gives 1) refl

fallen : slots_from (falls_with chained 220 1) 0 slot_count ≡ 1 ∷ 2 ∷ 4 ∷ 5 ∷ 6 ∷ 7 ∷ 8 ∷ 9 ∷ 10 ∷ []
unfolding chained image_put items_of items_put run_put digits_put with_digits octets find lowest_from state_at id_at issuer_at field digits_at number fields_of region_of permissions_of scope_of subject_at issuer_in also_at withdrawn_in walk_number walk run first_of inside_of falls_with slots_from
fallen = refl

filled : filled_at chained 1 ≡ true
unfolding chained image_put items_of items_put run_put digits_put with_digits octets state_at field digits_at number
filled = refl

listed : page chained (eight 0x02) 220 (replicate slot_count 0) ≡ written (1 ∷ 2 ∷ 4 ∷ 5 ∷ 6 ∷ 7 ∷ 8 ∷ 9 ∷ 10 ∷ []) (replicate slot_count 0) chained
unfolding listed_for
listed =
    sym (page_asked chained (eight 0x02) 220 (replicate slot_count 0) (gives 1) (lit≤ tt) place)
    ∙ ap (λ (l : List ℕ). written l (replicate slot_count 0) chained) (sym (slots_affected chained 1 220 chained_octets chained_open.good (lit≤ tt) filled) ∙ fallen)

pub listing_reached : AllReached listing
listing_reached = (
  short_store,
  (
    short_id,
    (
      (short_list, tt),
      (
        bad_store,
        (
          unknown,
          (
            on_chains (λ s. EachReached (unlisted s (eight 0x04) 8)) gone,
            (
              (
                on_chains (λ s. page s (eight 0x02) 220 (replicate slot_count 0) ≡ written (1 ∷ 2 ∷ 4 ∷ 5 ∷ 6 ∷ 7 ∷ 8 ∷ 9 ∷ 10 ∷ []) (replicate slot_count 0) s) listed,
                (
                  on_chains (λ s. withdrawal s (eight 0x02) ≡ (0, after s 1)) (sym (withdrawal_asked chained (eight 0x02) (gives 1) place)),
                  tt,
                ),
              ),
              tt,
            ),
          ),
        ),
      ),
    ),
  ),
)
