-- `field_words::fields::write_rectangles` meets its contract. The invariant: the first rectangles are written. Assumes nothing.
use Rattle.field_words.proofs.Rectangles.{first_rectangles}
use mathlib.Core.Path.{◌≡◌}
use Rattle.field_words.proofs.fields.write_rectangles.Given as goal

abbrev pub invariant-loop-i : goal.invariant-loop-i
invariant-loop-i l = l.buffer ≡ first_rectangles l.at l.fn.rectangles l.i l.initial.buffer
