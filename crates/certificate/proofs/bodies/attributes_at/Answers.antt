use Rattle.std.proofs.Common.{sym}
use lib.Seq.{length-take-le}
use Rattle.octets.proofs.Inside.{span_inside}
use Rattle.certificate.proofs.bodies.attributes_at.Goals as goal

pub slice_bounds-outline_in-end : goal.slice_bounds-outline_in-end
slice_bounds-outline_in-end c = sym (length-take-le _ _ (span_inside _ _ _ _ (sym c.in_ok-start.ensures)).1)
