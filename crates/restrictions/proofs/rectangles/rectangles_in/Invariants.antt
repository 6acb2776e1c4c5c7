-- `restrictions::rectangles::rectangles_in` meets its contract: the loop over the elements of a vector. Assumes nothing.
use Rattle.octets.proofs.Turns.{Reading}
use Rattle.octets.specs.Numbers.{unsigned_at}
use Rattle.geo.specs.Area.{unused}
use Rattle.restrictions.specs.Rectangles.{rectangle_at}
use Rattle.restrictions.proofs.rectangles.rectangles_in.Given as goal

abbrev pub invariant-loop-count : goal.invariant-loop-count
invariant-loop-count l = Reading rectangle_at (unsigned_at 4) 4 unused l.s l.start l.rectangles l.count l.at
