-- `bitfields::arrays::put_octets` meets its contract. The loop's invariant: the octets from i on, written to s, give the result. Assumes nothing.
use Rattle.std.proofs.Common.{◌≡◌, ◌+◌, ◌*◌, drop}
use Rattle.bitfields.specs.Runs.{with_fields}
use Rattle.bitfields.proofs.arrays.put_octets.Given as goal

abbrev pub invariant-loop-i : goal.invariant-loop-i
invariant-loop-i l = with_fields l.s (l.bit + 8 * l.i) 8 (drop l.i l.vs) ≡ with_fields l.initial.s l.bit 8 l.vs
