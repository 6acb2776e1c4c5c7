-- `field_words::fields::write_rectangles` meets its contract. Assumes nothing.
use mathlib.Core.Path.{◌≡◌, ◌∙◌}
use lib.ListN.{length}
use native.Mathlib.Omega.{arith}
use borrow.Author.Rules.{rules}
use Rattle.field_words.proofs.Rectangles.{rectangles_four}
use Rattle.field_words.proofs.fields.write_rectangles.Goals as goal

pub returns : goal.returns
returns c =
    let n : length c.args.rectangles ≡ 4 = search rules in
    c.loop-i.invariant ∙ rectangles_four c.args.at c.args.rectangles c.loop-i.i c.args.buffer.now (omega arith)
