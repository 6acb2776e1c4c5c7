-- `restrictions::areas::rectangles_at` meets its contract: the content of the vector lies inside. Assumes nothing.
use Rattle.octets.proofs.Inside.{span_inside}
use lib.Seq.{length-take-le}
use mathlib.Core.Path.{sym}
use Rattle.restrictions.proofs.areas.rectangles_at.Goals as goal

pub slice_bounds-rectangles_in-end : goal.slice_bounds-rectangles_in-end
slice_bounds-rectangles_in-end c = sym (length-take-le _ _ (span_inside _ _ _ _ (sym c.in_ok-start.ensures)).1)
