-- Stored and standing, for a page that lists certificates (docs/DECISIONS.md 96): their orders of checks, and what each answers.
use Rattle.std.specs.Prelude.{List, ℕ, length, replicate, eqb, leb, ltb, Result, Ok, Err}
use Rattle.order.specs.Steps.{Answer, gives, refused, Steps, done, need, run, Well, well}
use Rattle.octets.specs.Refusals.{ACCEPTED, BAD_CALL, BAD_STORE, UNKNOWN}
use Rattle.geo.specs.Area.{unused}
use Rattle.records.specs.Layout.{ID, ISSUER, NAME, KEY, RECTANGLES, PERMISSIONS}
use Rattle.records.specs.Records.{record_of}
use Rattle.records.specs.declared.Record.{Record}
use Rattle.store.specs.Slots.{slot_count, store_length, slot_of, filled_at}
use Rattle.validity.specs.Valid.{valid_store}
use Rattle.chain.specs.Stored.{stands}
use Rattle.slot_lists.specs.SlotSets.{slots_from}
use Rattle.slot_lists.specs.Listings.{Listing, refused_list, written}
use Rattle.octets.specs.Outcomes.{number_of}
use Rattle.octets.specs.declared.refusals.Refusal.{Refusal}

-- ---- stored

-- "1 (store's length, slot above 63), 2, 7 (the slot is empty)"; it gives all that the slot holds
abbrev pub reading : List ℕ → ℕ → Steps Record
reading store slot =
    need BAD_CALL (eqb (length store) store_length)
    (need BAD_CALL (ltb slot slot_count)
    (need BAD_STORE (valid_store store)
    (need UNKNOWN (filled_at store slot)
    (done (record_of (slot_of store slot))))))

-- "zeros in a refusal"
unfoldable pub no_record : Record
no_record =
    record {
      id = replicate ID.count 0;
      issuer = replicate ISSUER.count 0;
      state = 0;
      scope = record {
        kind = 0;
        start = 0;
        end = 0;
        region = record { count = 0; rectangles = replicate RECTANGLES.count unused };
        permissions = record { count = 0; values = replicate PERMISSIONS.count 0 };
      };
      name = record { length = 0; octets = replicate NAME.count 0 };
      key = record { parity = 0; octets = replicate KEY.count 0 };
    }

-- the number, and all that the slot holds
pub record SlotReading : Type 0 where
  pub number : ℕ
  pub contents : Record

abbrev pub unread : ℕ → SlotReading
unread k = record { number = k; contents = no_record }

-- what the code's answer says
abbrev pub slot_answer : Result Record Refusal → SlotReading
slot_answer (Ok r) = record { number = ACCEPTED; contents = r }
slot_answer (Err e) = unread (number_of e)

abbrev pub read_from : Answer Record → SlotReading
read_from (gives r) = record { number = ACCEPTED; contents = r }
read_from (refused k) = unread k

-- what stored answers
unfoldable pub slot_reading : List ℕ → ℕ → SlotReading
slot_reading store slot = read_from (run (reading store slot))

-- ---- standing

-- "1, 2": a list under 64 octets, the store's length; a bad store
abbrev pub looking : List ℕ → List ℕ → Steps Well
looking store list =
    need BAD_CALL (leb slot_count (length list))
    (need BAD_CALL (eqb (length store) store_length)
    (need BAD_STORE (valid_store store)
    (done well)))

-- "the slots of the certificates that stand at that second, ascending"
unfoldable pub standing_slots : List ℕ → ℕ → List ℕ
standing_slots store t = slots_from (stands store t) 0 slot_count

-- "at the front of the list; the others stay, and so does everything in a refusal"
abbrev pub standing_for : List ℕ → ℕ → List ℕ → Answer Well → Listing
standing_for store t l (gives w) = written (standing_slots store t) l store
standing_for store t l (refused k) = refused_list k l store

-- what standing answers
unfoldable pub standing_listing : List ℕ → ℕ → List ℕ → Listing
standing_listing store t l = standing_for store t l (run (looking store l))
