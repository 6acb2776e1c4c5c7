use Rattle.std.proofs.Common.{◌≡◌, ℕ, ◌+◌, List, length, arith}
use Rattle.std.specs.Io.KnownBytes.{Appends}
use Rattle.page_text.specs.Page.{input_length}
use Rattle.std.proofs.lemmas.Result.{on_ok_weaker}
use Rattle.page.proofs.Told.{value_told, holds_told}
use Rattle.page.proofs.WholeInput.{page_of_all}
use Rattle.page.proofs.answer.Goals as goal

pub returns : goal.returns
returns g c =
    let room : length c.read_input.new.buffer ≡ input_length + 1 = omega (arith, c.room_for_input-buffer.ensures, c.read_input.auto.buffer) in
    let written = λ (text : List ℕ). Appends (g.W.Write.contents c.args.writer.now) (g.W.Write.contents c.print_page.new.writer) text in
    let read = c.in_ok-n.ensures.cases in
    let said = c.read_input.ensures in
    let inside = value_told _ c.read_input.result c.in_ok-n.n _ read said.inside in
    let octets = value_told _ c.read_input.result c.in_ok-n.n _ read said.octets in
    let end = value_told _ c.read_input.result c.in_ok-n.n _ read said.end in
    holds_told _ c.print_page.result c.map_err-2.result _ c.map_err-2.ensures.cases
    (on_ok_weaker c.print_page.result (page_of_all _ _ c.read_input.new.buffer c.in_ok-n.n written room inside octets end) c.print_page.ensures)
