-- `records::images::put_region` meets its contract. The loop's invariant: the first i rectangles are written. Assumes nothing.
use Rattle.std.proofs.Common.{◌≡◌}
use Rattle.records.proofs.Placed.{placed}
use Rattle.records.proofs.images.put_region.Given as goal

abbrev pub invariant-loop-i : goal.invariant-loop-i
invariant-loop-i l = l.image ≡ placed l.region.rectangles l.i l.initial.image
