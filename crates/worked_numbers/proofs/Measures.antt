-- The measures of specs/Measures.antt hold. Assumes nothing.
use mathlib.Core.Path.{refl}
use Rattle.worked_numbers.specs.Measures.{Measures}

pub measures : Measures
measures = record { store = refl; slots = refl; slot = refl; whole = refl; fields = refl; latest = refl }
