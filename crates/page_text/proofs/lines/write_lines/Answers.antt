-- `page_text::lines::write_lines` meets its contract. The invariant: the lines of the first slots are written. Assumes nothing.
use native.Mathlib.Omega.{arith}
use lib.ListN.{get_or, take}
use Rattle.text.proofs.Texts.{written_none, written_more}
use Rattle.page_text.specs.Lines.{lines_of}
use Rattle.page_text.proofs.Printed.{line_at, line_at_fits, lines_next}
use Rattle.page_text.proofs.lines.write_lines.Goals as goal

pub loop-slot-init : goal.loop-slot-init
unfolding lines_of
loop-slot-init c = (omega arith, written_none c.args.text.now c.args.at)

pub loop-slot-preserved : goal.loop-slot-preserved
loop-slot-preserved c =
    let l = c.loop-slot in
    let a = c.args in
    let slot = get_or a.slots.now l.slot-index 0 in
    let fits = line_at_fits a.store.now slot (c.requires.1 l.slot-index (omega arith)) in
    let more = written_more a.text.now a.at (lines_of a.store.now (take l.slot-index a.slots.now)) (line_at a.store.now slot) l.invariant.1 c.write_line-end.ensures (omega arith) in
    (omega arith, rw (lines_next a.store.now a.slots.now l.slot-index (omega arith)) at more)
