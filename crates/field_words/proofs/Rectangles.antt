-- Rectangles written one behind the other. Assumes nothing.
use mathlib.Core.Path.{◌≡◌, refl}
use mathlib.Core.List.{List}
use Prim.Native.Nat.{ℕ, zero, suc, ◌+◌, ◌*◌}
use native.Mathlib.Numerals.{add-one}
use native.Mathlib.Omega.{arith}
use lib.ListN.{get_or}
use Rattle.geo.specs.Area.{unused}
use Rattle.geo.specs.declared.Rectangle.{Rectangle}
use Rattle.field_words.specs.Words.{with_words}
use Rattle.field_words.specs.Fields.{edge_words, with_rectangles}

-- the first i of them
pub first_rectangles : ℕ → List Rectangle → ℕ → List ℕ → List ℕ
first_rectangles at rectangles zero l = l
first_rectangles at rectangles (suc i) l = with_words (at + 4 * i) (edge_words (get_or rectangles i unused)) (first_rectangles at rectangles i l)

pub rectangles_none : (at : ℕ) (rectangles : List Rectangle) (l : List ℕ) → first_rectangles at rectangles 0 l ≡ l
unfolding first_rectangles
rectangles_none at rectangles l = refl

pub rectangles_more : (at : ℕ) (rectangles : List Rectangle) (i : ℕ) (l : List ℕ)
    → first_rectangles at rectangles (i + 1) l ≡ with_words (at + 4 * i) (edge_words (get_or rectangles i unused)) (first_rectangles at rectangles i l)
unfolding first_rectangles
rectangles_more at rectangles i l = rw add-one

pub rectangles_four : (at : ℕ) (rectangles : List Rectangle) (i : ℕ) (l : List ℕ) → i ≡ 4 → first_rectangles at rectangles i l ≡ with_rectangles at rectangles l
unfolding first_rectangles with_rectangles
rectangles_four at rectangles i l e =
    let z : at + 0 ≡ at = omega arith in
    rw (e, z)
