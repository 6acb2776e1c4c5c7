use Rattle.std.proofs.Common.{sym}
use Rattle.certificate.proofs.Inside.{name_inside}
use Rattle.certificate.proofs.heads.head_at.Goals as goal

pub overflow_sub-length : goal.overflow_sub-length
overflow_sub-length c = (name_inside _ _ _ _ (sym c.in_ok-start.ensures)).0
