-- What read, id, prepare, decide, list, standing and stored answer in C, and what their buffers then hold; the others have their
-- operation's own definition. A refusal leaves the buffer as it was.
use Rattle.std.specs.Prelude.{ℕ, List, length, ltb, eqb, ℤ, pos, neg_ℤ}
use Rattle.octets.specs.Refusals.{ACCEPTED, BAD_CALL}
use Rattle.octets.specs.Reading.{pick}
use Rattle.octets.specs.Buffers.{with_front}
use Rattle.certificate.specs.Operations.{Reading, reading_of, Identified, id_of}
use Rattle.field_words.specs.Fields.{with_fields, fields_length}
use Rattle.verification.specs.Order.{Prepared, preparation, Decision, decision}
use Rattle.verification.specs.declared.judging.Situation.{Situation}
use Rattle.answer_words.specs.Answers.{with_questions, with_decision, questions_length, decision_length}
use Rattle.answer_words.specs.Slots.{with_stored, stored_length}
use Rattle.slot_lists.specs.Listings.{Listing}
use Rattle.overview.specs.Order.{SlotReading, slot_reading, standing_listing}
use Rattle.withdrawal.specs.Order.{page}

abbrev pub Call : Type 0
Call = ℕ × List ℕ

abbrev pub read_answer : Reading → List ℕ → Call
read_answer r fields = pick (eqb r.number ACCEPTED) (ACCEPTED, with_fields r.certificate fields) (r.number, fields)

unfoldable pub read_call : List ℕ → List ℕ → Call
read_call certificate fields = pick (ltb (length fields) fields_length) (BAD_CALL, fields) (read_answer (reading_of certificate) fields)

abbrev pub id_answer : Identified → List ℕ → Call
id_answer r buffer = pick (eqb r.number ACCEPTED) (ACCEPTED, with_front r.id buffer) (r.number, buffer)

unfoldable pub id_call : List ℕ → List ℕ → Call
id_call certificate buffer = pick (ltb (length buffer) 8) (BAD_CALL, buffer) (id_answer (id_of certificate) buffer)

-- prepare and decide: the number, and the buffer and the store as they are left
abbrev pub prepare_answer : Prepared → List ℕ → List ℕ → ℕ × List ℕ × List ℕ
prepare_answer q questions store =
    pick (eqb q.number ACCEPTED) (ACCEPTED, with_questions q questions, store) (q.number, questions, store)

unfoldable pub prepare_call : List ℕ → List ℕ → Situation → List ℕ → ℕ × List ℕ × List ℕ
prepare_call store message x questions =
    pick (ltb (length questions) questions_length) (BAD_CALL, questions, store) (prepare_answer (preparation store message x) questions store)

abbrev pub decide_answer : Decision → List ℕ → List ℕ → ℕ × List ℕ × List ℕ
decide_answer d buffer store =
    pick (eqb d.number ACCEPTED) (ACCEPTED, with_decision d buffer, store) (d.number, buffer, store)

unfoldable pub decide_call : List ℕ → List ℕ → Situation → ℕ → ℕ → List ℕ → ℕ × List ℕ × List ℕ
decide_call store message x verdict certified buffer =
    pick (ltb (length buffer) decision_length) (BAD_CALL, buffer, store) (decide_answer (decision store message x verdict certified) buffer store)

-- how many slots a list names, or minus the number of the refusal
unfoldable pub count_of : ℕ → ℕ → ℤ
count_of number n = pick (eqb number ACCEPTED) (pos n) (neg_ℤ (pos number))

-- that, then the list and the store as they are left
abbrev pub list_answer : Listing → ℤ × List ℕ × List ℕ
list_answer p = (count_of p.number p.n, p.list, p.store)

unfoldable pub list_call : List ℕ → List ℕ → ℕ → List ℕ → ℤ × List ℕ × List ℕ
list_call store id second list = list_answer (page store id second list)

-- standing in the same way
unfoldable pub standing_call : List ℕ → ℕ → List ℕ → ℤ × List ℕ × List ℕ
standing_call store second list = list_answer (standing_listing store second list)

-- stored: the number, and the buffer and the store as they are left
abbrev pub stored_answer : SlotReading → List ℕ → List ℕ → ℕ × List ℕ × List ℕ
stored_answer r buffer store = pick (eqb r.number ACCEPTED) (ACCEPTED, with_stored r.contents buffer, store) (r.number, buffer, store)

unfoldable pub stored_call : List ℕ → ℕ → List ℕ → ℕ × List ℕ × List ℕ
stored_call store slot buffer =
    pick (ltb (length buffer) stored_length) (BAD_CALL, buffer, store) (stored_answer (slot_reading store slot) buffer store)
