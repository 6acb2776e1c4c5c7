-- The measures that document 01 gives as numbers and the definitions derive ("The store"; "Numbers, lengths and vectors").
use Rattle.std.specs.Prelude.{ℕ, ◌*◌, ◌≡◌, [], ◌∷◌, map}
use Rattle.records.specs.Layout.{Extent, layout, slot_bits, slot_length}
use Rattle.store.specs.Slots.{slot_count, store_length}
use Rattle.validity.specs.Good.{latest_end}

-- the bits of a field
abbrev pub bits_of : Extent → ℕ
bits_of p = p.width * p.count

pub record Measures : Type 0 where
  -- "13,568 octets: 64 slots of 212"
  pub store : store_length ≡ 13568
  pub slots : slot_count ≡ 64
  pub slot : slot_length ≡ 212
  -- a slot is whole octets
  pub whole : slot_bits ≡ 8 * 212
  -- "id 64, issuer 64 .., state 2, kind 3, start 32, end 38, name length 6, name 256, key parity 1 .., key 256, rectangle count 3,
  -- rectangles 4 × 128, permission count 5, permissions 16 × 28, padding 6"
  pub fields : map bits_of layout
      ≡ 64 ∷ 64 ∷ 2 ∷ 3 ∷ 32 ∷ 38 ∷ 6 ∷ 256 ∷ 1 ∷ 256 ∷ 3 ∷ 4 * 128 ∷ 5 ∷ 16 * 28 ∷ 6 ∷ []
  -- "The latest end is 4,294,967,295 + 8,191 × 31,556,925 = 262,777,739,970"
  pub latest : latest_end ≡ 262777739970
