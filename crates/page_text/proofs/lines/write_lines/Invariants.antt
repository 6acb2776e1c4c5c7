-- `page_text::lines::write_lines` meets its contract. The invariant: the lines of the first slots are written. Assumes nothing.
use Prim.Native.Nat.{◌+◌, ◌*◌, ◌≤◌}
use lib.ListN.{take}
use Rattle.text.specs.Text.{Written}
use Rattle.page_text.specs.Lines.{lines_of}
use Rattle.page_text.specs.Sizes.{line_length}
use Rattle.page_text.proofs.lines.write_lines.Given as goal

abbrev pub invariant-loop-slot : goal.invariant-loop-slot
invariant-loop-slot l = (l.end ≤ l.at + line_length * l.slot-index) × Written l.initial.text l.at (lines_of l.store (take l.slot-index l.slots)) l.end l.text
