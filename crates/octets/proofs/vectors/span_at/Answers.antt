use Rattle.std.proofs.Common.{sym}
use Rattle.octets.proofs.Inside.{intx_inside}
use Rattle.octets.proofs.vectors.span_at.Goals as goal

pub overflow_sub-s : goal.overflow_sub-s
overflow_sub-s c = (intx_inside _ _ _ _ (sym c.in_ok-length.ensures)).1
