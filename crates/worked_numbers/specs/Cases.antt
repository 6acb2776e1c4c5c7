-- "Worked numbers, proved ones marked P" of document 01: what is read at the start of these octets.
use Rattle.std.specs.Prelude.{ℕ, ◌≡◌, List, [], ◌∷◌, replicate, ℤ, pos, neg_ℤ}
use Rattle.octets.specs.Refusals.{MALFORMED, UNSUPPORTED}
use Rattle.octets.specs.Reading.{Out, got, refused}
use Rattle.octets.specs.Numbers.{intx_at}
use Rattle.octets.specs.Durations.{duration_at}
use Rattle.octets.specs.Coordinates.{latitude_at}
use Rattle.store.specs.Slots.{slot_count}
use Rattle.slot_lists.specs.Listings.{written}
use Rattle.withdrawal.specs.Order.{page}
use Rattle.overview.specs.Order.{standing_listing}
use Rattle.sample_stores.specs.Stores.{eight}
use Rattle.worked_numbers.specs.Example.{shown}

-- octets, and the value with the number of octets read, or the refusal
pub data Case : Type 0 where
  intx : List ℕ → Out ℕ → Case
  duration : List ℕ → Out ℕ → Case
  latitude : List ℕ → Out ℤ → Case
  -- a store, an id and a second, and the slots on the page's list
  listing : List ℕ → List ℕ → ℕ → List ℕ → Case
  -- a store and a second, and the slots of what stands
  standing : List ℕ → ℕ → List ℕ → Case

abbrev pub Holds : Case → Type 0
Holds (intx s answer) = intx_at s 0 ≡ answer
Holds (duration s answer) = duration_at s 0 ≡ answer
Holds (latitude s answer) = latitude_at s 0 ≡ answer
Holds (listing store id second slots) = page store id second (replicate slot_count 0) ≡ written slots (replicate slot_count 0) store
Holds (standing store second slots) = standing_listing store second (replicate slot_count 0) ≡ written slots (replicate slot_count 0) store

abbrev pub AllHold : List Case → Type 0
AllHold [] = Unit
AllHold (c ∷ cs) = Holds c × AllHold cs

abbrev pub table : List Case
table =
    intx (0x0A ∷ []) (got 10 1) ∷
    intx (0x88 ∷ 0x88 ∷ []) (got 2184 2) ∷
    intx (0x80 ∷ 0x80 ∷ []) (got 128 2) ∷
    intx (0x80 ∷ 0x7F ∷ []) (refused MALFORMED) ∷
    intx (0xC0 ∷ 0x40 ∷ 0x00 ∷ []) (got 16384 3) ∷
    intx (0xEF ∷ 0xFF ∷ 0xFF ∷ 0xFF ∷ []) (got 268435455 4) ∷
    intx (0xF0 ∷ []) (refused UNSUPPORTED) ∷
    duration (0x20 ∷ 0x01 ∷ []) (got 60 2) ∷
    duration (0x60 ∷ 0x02 ∷ []) (got 432000 2) ∷
    duration (0xA0 ∷ 0x00 ∷ []) (refused MALFORMED) ∷
    latitude (0xFF ∷ 0xFF ∷ 0xFF ∷ 0xFF ∷ []) (got (neg_ℤ (pos 1)) 4) ∷
    listing shown (eight 0x02) 220 (1 ∷ 2 ∷ []) ∷
    -- not in the paper: ticket 04.. starts at 250
    standing shown 220 (0 ∷ 1 ∷ 2 ∷ 4 ∷ 5 ∷ []) ∷ []
