-- `bitfields::arrays::get_words` meets its contract. The loop's invariant: the first i places hold the first i fields. Assumes nothing.
use Rattle.std.proofs.Common.{◌≡◌, length, take}
use Rattle.bitfields.specs.Runs.{fields_of}
use Rattle.bitfields.proofs.arrays.get_words.Given as goal

abbrev pub invariant-loop-i : goal.invariant-loop-i
invariant-loop-i l = (length l.out ≡ length l.initial.out) × (take l.i l.out ≡ fields_of l.s l.bit l.width l.i)
