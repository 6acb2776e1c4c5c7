-- `page_text::lines::write_count` meets its contract: its pieces one behind the other. Assumes nothing.
use native.Mathlib.Omega.{arith}
use mathlib.Core.List.{◌++◌}
use Rattle.text.specs.Text.{decimal_of}
use Rattle.text.proofs.Texts.{written_more}
use Rattle.text.proofs.Decimals.{decimal_ten}
use Rattle.page_text.specs.Lines.{certificates_word, line_feed, count_of}
use Rattle.page_text.proofs.lines.write_count.Goals as goal

pub returns : goal.returns
unfolding count_of
returns c =
    let a = c.args in
    let l = a.text.now in
    let d = decimal_of a.n in
    let short = decimal_ten a.n (omega arith) in
    let two = written_more l a.at d certificates_word c.write_decimal-a.ensures c.write_text-b.ensures (omega arith) in
    written_more l a.at (d ++ certificates_word) line_feed two c.write_octet.ensures (omega arith)
