-- `field_words::words::write_words` meets its contract. The invariant: the first words are written. Assumes nothing.
use Rattle.field_words.specs.Words.{with_words}
use lib.ListN.{take}
use mathlib.Core.Path.{◌≡◌}
use Rattle.field_words.proofs.words.write_words.Given as goal

abbrev pub invariant-loop-i : goal.invariant-loop-i
invariant-loop-i l = l.buffer ≡ with_words l.at (take l.i l.words) l.initial.buffer
