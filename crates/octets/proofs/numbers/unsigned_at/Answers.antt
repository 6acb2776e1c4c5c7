use Rattle.std.proofs.Common.{arith}
use Rattle.octets.proofs.Digits.{be_below}
use Rattle.octets.proofs.numbers.unsigned_at.Goals as goal

pub overflow_cast-result : goal.overflow_cast-result
overflow_cast-result c = omega (arith, be_below c.args.width 4 (omega arith) c.big_endian-value.ensures.1)
