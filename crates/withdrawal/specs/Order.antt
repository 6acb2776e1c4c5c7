-- List and withdraw (01, "Order of checks"): one order of checks for both, and what each leaves.
use Rattle.std.specs.Prelude.{Bool, not, ◌&&◌, List, ℕ, length, eqb, leb}
use Rattle.order.specs.Steps.{Answer, gives, refused, Steps, done, need, take, run}
use Rattle.octets.specs.Refusals.{ACCEPTED, BAD_CALL, BAD_STORE, UNKNOWN, WITHDRAWN}
use Rattle.bitfields.specs.Field.{number}
use Rattle.store.specs.Slots.{slot_count, store_length, GONE}
use Rattle.store.specs.Search.{find}
use Rattle.store.specs.Laws.{with_state}
use Rattle.validity.specs.Valid.{valid_store}
use Rattle.chain.specs.Stored.{slot_or, stands}
use Rattle.store.specs.Withdrawn.{withdrawn_in}
use Rattle.slot_lists.specs.SlotSets.{slots_from}
use Rattle.slot_lists.specs.Listings.{Listing, refused_list, written}

-- "1 (store length, id not 8 octets, ..), 2, 7, 8": what list and withdraw share; it gives the slot of the certificate
abbrev pub asking : List ℕ → List ℕ → Steps ℕ
asking store id =
    need BAD_CALL (eqb (length store) store_length)
    (need BAD_CALL (eqb (length id) 8)
    (need BAD_STORE (valid_store store)
    (take (slot_or UNKNOWN (find store (number id))) (λ slot.
    need WITHDRAWN (not (withdrawn_in store (number id)))
    (done slot)))))

-- the slot, or the number of the refusal
unfoldable pub asked : List ℕ → List ℕ → Answer ℕ
asked store id = run (asking store id)

-- ".., list under 64 octets", one for each slot: list asks that first
abbrev pub drawing : List ℕ → List ℕ → List ℕ → Steps ℕ
drawing store id list = need BAD_CALL (leb slot_count (length list)) (asking store id)

-- the store after the withdrawal of slot c: two bits, its state
abbrev pub after : List ℕ → ℕ → List ℕ
after store c = with_state store c GONE

-- the certificate in slot i stands in the first store and does not in the second
abbrev pub falls : List ℕ → List ℕ → ℕ → ℕ → Bool
falls before after t i = stands before t i && not (stands after t i)

-- the slots of those certificates
unfoldable pub affected : List ℕ → List ℕ → ℕ → List ℕ
affected before after t = slots_from (falls before after t) 0 slot_count

-- withdraw: the number, and the store that it leaves
abbrev pub withdrawn_from : List ℕ → Answer ℕ → ℕ × List ℕ
withdrawn_from store (gives c) = (ACCEPTED, after store c)
withdrawn_from store (refused k) = (k, store)

unfoldable pub withdrawal : List ℕ → List ℕ → ℕ × List ℕ
withdrawal store id = withdrawn_from store (asked store id)

-- the page names what falls by the withdrawal from the same store
unfoldable pub listed_for : List ℕ → ℕ → List ℕ → Answer ℕ → Listing
listed_for store t l (gives c) = written (affected store (after store c) t) l store
listed_for store t l (refused k) = refused_list k l store

-- what list answers: document 01 calls it the page's list
unfoldable pub page : List ℕ → List ℕ → ℕ → List ℕ → Listing
page store id t l = listed_for store t l (run (drawing store id l))
