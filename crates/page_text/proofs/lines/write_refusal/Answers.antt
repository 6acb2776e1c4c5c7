-- `page_text::lines::write_refusal` meets its contract: its pieces one behind the other. Assumes nothing.
use native.Mathlib.Omega.{arith}
use mathlib.Core.List.{◌++◌}
use Rattle.text.specs.Text.{decimal_of}
use Rattle.text.proofs.Texts.{written_more}
use Rattle.text.proofs.Decimals.{decimal_ten}
use Rattle.page_text.specs.Lines.{refused_word, line_feed, refused_of}
use Rattle.page_text.proofs.lines.write_refusal.Goals as goal

pub returns : goal.returns
unfolding refused_of
returns c =
    let a = c.args in
    let l = a.text.now in
    let d = decimal_of c.from.result in
    let short = decimal_ten c.from.result (omega arith) in
    let two = written_more l 0 refused_word d c.write_text-a.ensures c.write_decimal-b.ensures (omega arith) in
    rw (← c.number.ensures, ← c.from.ensures) (written_more l 0 (refused_word ++ d) line_feed two c.write_octet.ensures (omega arith))
