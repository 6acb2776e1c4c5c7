-- `bitfields::writing::scatter` meets its contract. The loop's invariant: the octets from i on are written. Assumes nothing.
use Rattle.std.proofs.Common.{◌≡◌, ◌≤◌, ◌-◌, ◌*◌, ◌^◌, ◌/◌}
use Rattle.bitfields.proofs.Octets.{scattered}
use Rattle.bitfields.proofs.writing.scatter.Given as goal

abbrev pub invariant-loop-i : goal.invariant-loop-i
invariant-loop-i l =
    (l.first ≤ l.i) × (l.rest ≡ l.x / 2 ^ (8 * (l.end - l.i))) × (l.s ≡ scattered l.initial.s l.end l.x l.i)
