-- `page_text::lines::write_head` meets its contract: its pieces one behind the other. Assumes nothing.
use native.Mathlib.Omega.{arith}
use mathlib.Core.List.{◌++◌}
use Rattle.text.specs.Text.{hex_of, decimal_of}
use Rattle.text.proofs.Texts.{written_more}
use Rattle.text.proofs.Hex.{hex_long}
use Rattle.text.proofs.Decimals.{decimal_ten}
use Rattle.page_text.specs.Lines.{withdraw_word, at_word, line_feed, head_of}
use Rattle.page_text.proofs.lines.write_head.Goals as goal

pub returns : goal.returns
unfolding head_of
returns c =
    let a = c.args in
    let l = a.text.now in
    let x = hex_of a.id.now in
    let d = decimal_of a.second in
    let long = hex_long a.id.now in
    let short = decimal_ten a.second (omega arith) in
    let two = written_more l 0 withdraw_word x c.write_text-a.ensures c.write_hex-b.ensures (omega arith) in
    let three = written_more l 0 (withdraw_word ++ x) at_word two c.write_text-c.ensures (omega arith) in
    let four = written_more l 0 (withdraw_word ++ x ++ at_word) d three c.write_decimal-d.ensures (omega arith) in
    written_more l 0 (withdraw_word ++ x ++ at_word ++ d) line_feed four c.write_octet.ensures (omega arith)
