-- What the benchmark's functions answer, and what they leave in the buffer.
use Rattle.std.specs.Prelude.{ℕ, List, length, eqb}
use Rattle.octets.specs.Refusals.{ACCEPTED, BAD_CALL, BAD_STORE}
use Rattle.octets.specs.Reading.{pick}
use Rattle.records.specs.Layout.{slot_length}
use Rattle.records.specs.Records.{record_of, image_of}
use Rattle.store.specs.Slots.{store_length}
use Rattle.validity.specs.Valid.{valid_store}

unfoldable pub valid_call : List ℕ → ℕ
valid_call store = pick (eqb (length store) store_length) (pick (valid_store store) ACCEPTED BAD_STORE) BAD_CALL

-- the record of a slot, written again
unfoldable pub rewrite_call : List ℕ → List ℕ → ℕ × List ℕ
rewrite_call slot image = pick (eqb (length slot) slot_length) (pick (eqb (length image) slot_length) (ACCEPTED, image_of (record_of slot)) (BAD_CALL, image)) (BAD_CALL, image)
