use Rattle.std.proofs.Common.{sym}
use Rattle.octets.proofs.Inside.{span_inside}
use Rattle.attributes.proofs.permissions.ssp_at.Goals as goal

pub overflow_sub-length : goal.overflow_sub-length
overflow_sub-length c = (span_inside _ _ _ _ (sym c.in_ok-start.ensures)).0
