-- `bitfields::arrays::put_words` meets its contract. The loop's invariant: the values from i on, written to s, give the result. Assumes nothing.
use Rattle.std.proofs.Common.{◌≡◌, ◌+◌, ◌*◌, drop}
use Rattle.bitfields.specs.Runs.{with_fields}
use Rattle.bitfields.proofs.arrays.put_words.Given as goal

abbrev pub invariant-loop-i : goal.invariant-loop-i
invariant-loop-i l = with_fields l.s (l.bit + l.width * l.i) l.width (drop l.i l.vs) ≡ with_fields l.initial.s l.bit l.width l.vs
