-- Stores given by their records.
use Rattle.std.specs.Prelude.{ℕ, ◌-◌, ◌*◌, List, [], ◌∷◌, ◌++◌, length, replicate}
use Rattle.records.specs.Layout.{ID, slot_length}
use Rattle.records.specs.Records.{image_of}
use Rattle.records.specs.declared.Record.{Record}
use Rattle.store.specs.Slots.{slot_count}

-- an octet eight times, as an id
abbrev pub eight : ℕ → List ℕ
eight octet = replicate ID.count octet

abbrev pub images : List Record → List ℕ
images [] = []
images (r ∷ rs) = image_of r ++ images rs

-- the octets of the slots behind n of them
abbrev pub rest : ℕ → List ℕ
rest n = replicate ((slot_count - n) * slot_length) 0

-- the records in the first slots, the others empty
abbrev pub store_of : List Record → List ℕ
store_of rs = images rs ++ rest (length rs)
