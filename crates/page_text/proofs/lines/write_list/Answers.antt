-- `page_text::lines::write_list` meets its contract: the first line, the lines and the count, one behind the other. Assumes nothing.
use native.Mathlib.Omega.{arith}
use mathlib.Core.List.{◌++◌}
use lib.ListN.{length}
use Rattle.text.proofs.Texts.{written_more}
use Rattle.page_text.specs.Lines.{lines_of, head_of, count_of}
use Rattle.page_text.proofs.Printed.{head_fits, lines_fit, count_fits}
use Rattle.page_text.proofs.lines.write_list.Goals as goal

pub write_lines-b-requires : goal.write_lines-b-requires
write_lines-b-requires c =
    let a = c.args in
    let p = c.requires in
    (omega (arith, p, head_fits a.id.now a.second p.0 (omega arith)), p.3)

pub write_count-requires : goal.write_count-requires
write_count-requires c =
    let a = c.args in
    let p = c.requires in
    omega (arith, p, head_fits a.id.now a.second p.0 (omega arith), lines_fit a.store.now a.slots.now p.3)

pub returns : goal.returns
returns c =
    let a = c.args in
    let p = c.requires in
    let l = a.text.now in
    let head = head_of a.id.now a.second in
    let lines = lines_of a.store.now a.slots.now in
    let head_long = head_fits a.id.now a.second p.0 (omega arith) in
    let lines_long = lines_fit a.store.now a.slots.now p.3 in
    let count_long = count_fits (length a.slots.now) (omega arith) in
    let two = written_more l 0 head lines c.write_head-a.ensures c.write_lines-b.ensures (omega arith) in
    written_more l 0 (head ++ lines) (count_of (length a.slots.now)) two c.write_count.ensures (omega arith)
