-- `bitfields::zeros::octets_zero` meets its contract. The loop's invariant: zero says it of the octets before the index. Assumes nothing.
use Rattle.std.proofs.Common.{◌≡◌, ◌*◌}
use Rattle.bitfields.specs.Zero.{zero_bits}
use Rattle.bitfields.proofs.zeros.octets_zero.Given as goal

abbrev pub invariant-loop-octet : goal.invariant-loop-octet
invariant-loop-octet l = l.zero ≡ zero_bits l.s (l.from * 8) (l.octet-index * 8)
