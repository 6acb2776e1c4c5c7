-- Rectangles of a region, one after the other. Assumes nothing.
use Rattle.std.proofs.Common.{◌≡◌, refl, ℕ, zero, suc, ◌+◌, List, [], ◌∷◌, length, get_or, add-one, arith}
use Rattle.bitfields.specs.Runs.{with_fields}
use Rattle.geo.specs.Area.{unused}
use Rattle.geo.specs.declared.Rectangle.{Rectangle}
use Rattle.records.specs.Layout.{EDGES}
use Rattle.records.specs.Records.{edges_of}

-- the image with the first n of the rectangles written
unfoldable pub placed : List Rectangle → ℕ → List ℕ → List ℕ
placed rs zero image = image
placed rs (suc n) image = with_fields (placed rs n image) (EDGES n).bit (EDGES n).width (edges_of (get_or rs n unused))

pub placed_more : (rs : List Rectangle) (i : ℕ) (image : List ℕ)
    → placed rs (i + 1) image ≡ with_fields (placed rs i image) (EDGES i).bit (EDGES i).width (edges_of (get_or rs i unused))
unfolding placed
placed_more rs i image = rw add-one

-- the rectangles of a region, one by one
pub four : (rs : List Rectangle) → length rs ≡ 4 → rs ≡ get_or rs 0 unused ∷ get_or rs 1 unused ∷ get_or rs 2 unused ∷ get_or rs 3 unused ∷ []
four [] h = absurd (omega arith)
four (a ∷ []) h = absurd (omega arith)
four (a ∷ b ∷ []) h = absurd (omega arith)
four (a ∷ b ∷ c ∷ []) h = absurd (omega arith)
four (a ∷ b ∷ c ∷ d ∷ []) h = refl
four (a ∷ b ∷ c ∷ d ∷ e ∷ rs) h = absurd (omega arith)
