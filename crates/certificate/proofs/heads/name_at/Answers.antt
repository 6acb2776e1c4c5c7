use Rattle.std.proofs.Common.{arith, sym}
use Rattle.octets.proofs.Inside.{octet_inside}
use Rattle.certificate.proofs.heads.name_at.Goals as goal

pub overflow_sub-s : goal.overflow_sub-s
overflow_sub-s c = let i = octet_inside _ _ _ _ (sym c.in_ok-length.ensures) in omega arith
