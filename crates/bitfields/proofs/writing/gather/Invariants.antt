-- `bitfields::writing::gather` meets its contract. The loop's invariant: acc is the number of the octets before i. Assumes nothing.
use Rattle.std.proofs.Common.{◌≡◌, ◌-◌, take, drop}
use Rattle.bitfields.specs.Field.{number}
use Rattle.bitfields.proofs.writing.gather.Given as goal

abbrev pub invariant-loop-i : goal.invariant-loop-i
invariant-loop-i l = l.acc ≡ number (take (l.i - l.first) (drop l.first l.s))
