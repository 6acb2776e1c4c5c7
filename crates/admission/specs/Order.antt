-- Install and admit (01, "Order of checks"): 1, 2, 3, reading, 10, 17; for admit the issuer: 7, 8, 10, 11, 12, 13; for both then 15, 16.
use Rattle.std.specs.Prelude.{ℕ, Bool, true, false, not, ◌||◌, List, length, eqb}
use Rattle.std.specs.Prelude.{Option, None, Some}
use Rattle.order.specs.Steps.{Answer, gives, refused, Steps, done, need, take, needs, follow, run, Well, well}
use Rattle.octets.specs.Kinds.{TICKET, AUTHORITY, ROOT}
use Rattle.octets.specs.Refusals.{ACCEPTED, BAD_CALL, BAD_STORE, UNKNOWN, WITHDRAWN, WRONG_KIND, BAD_SIGNATURE, FULL, ALREADY_HELD}
use Rattle.octets.specs.Reading.{pick}
use Rattle.octets.specs.Verdicts.{GOOD}
use Rattle.certificate.specs.Operations.{whole}
use Rattle.bitfields.specs.Field.{number}
use Rattle.scope.specs.Issued.{issued_rows}
use Rattle.scope.specs.declared.Scope.{Scope}
use Rattle.records.specs.Records.{scope_of, image_of}
use Rattle.records.specs.declared.Record.{Record}
use Rattle.store.specs.Slots.{store_length, slot_of, with_slot}
use Rattle.store.specs.Search.{find, lowest_empty}
use Rattle.store.specs.Withdrawn.{withdrawn_in}
use Rattle.chain.specs.Stored.{answered, slot_or}
use Rattle.validity.specs.Valid.{valid_store}
use Rattle.entries.specs.Stored.{record_from}

-- install wants a root, admit a ticket or an authority
abbrev pub wanted : Bool → ℕ → Bool
wanted anchor kind = pick anchor (eqb kind ROOT) (eqb kind TICKET || eqb kind AUTHORITY)

abbrev pub absent : Option ℕ → Bool
absent None = true
absent (Some i) = false

-- an issuer that is stored: it is not withdrawn, and it allows what the certificate allows; no second and no position (docs/DECISIONS.md 31)
abbrev pub below_issuer : List ℕ → ℕ → Scope → ℕ → Steps Well
below_issuer store id subject i =
    need WITHDRAWN (not (withdrawn_in store id)) (needs (issued_rows subject (scope_of (slot_of store i))) (done well))

abbrev pub under_issuer : List ℕ → ℕ → Scope → Steps Well
under_issuer store id subject = take (slot_or UNKNOWN (find store id)) (below_issuer store id subject)

-- an anchor has no issuer
abbrev pub issuer_steps : Bool → List ℕ → Record → Steps Well
issuer_steps true store r = done well
issuer_steps false store r = under_issuer store (number r.issuer) r.scope

-- the tests of a record that is to go into the store
abbrev pub testing : Bool → List ℕ → Record → ℕ → Steps Well
testing anchor store r verdict =
    need ALREADY_HELD (absent (find store (number r.id)))
    (take (run (issuer_steps anchor store r)) (λ w.
    need BAD_SIGNATURE (eqb verdict GOOD)
    (done well)))

-- what comes of it is the new store: the record in the lowest empty slot
abbrev pub placing : Bool → List ℕ → Record → ℕ → Steps (List ℕ)
placing anchor store r verdict =
    follow (testing anchor store r verdict) (λ w.
    take (slot_or FULL (lowest_empty store)) (λ slot.
    done (with_slot store slot (image_of r))))

-- both operations; anchor: install
abbrev pub entering : Bool → List ℕ → List ℕ → ℕ → Steps (List ℕ)
entering anchor store octets verdict =
    need BAD_CALL (eqb (length store) store_length)
    (need BAD_STORE (valid_store store)
    -- 3, 4, 5, 6, or the certificate
    (take (answered (whole octets)) (λ c.
    need WRONG_KIND (wanted anchor c.head.kind)
    (placing anchor store (record_from octets c) verdict))))

-- the number and the store that an operation leaves: a refusal leaves the store as it was
abbrev pub leaving : List ℕ → Answer (List ℕ) → ℕ × List ℕ
leaving store (gives l) = (ACCEPTED, l)
leaving store (refused k) = (k, store)

unfoldable pub entered : Bool → List ℕ → List ℕ → ℕ → ℕ × List ℕ
entered anchor store octets verdict = leaving store (run (entering anchor store octets verdict))

-- install, and admit
abbrev pub installed : List ℕ → List ℕ → ℕ → ℕ × List ℕ
installed store octets verdict = entered true store octets verdict

abbrev pub admitted : List ℕ → List ℕ → ℕ → ℕ × List ℕ
admitted store octets verdict = entered false store octets verdict
