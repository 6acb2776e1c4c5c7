-- Eight octets are one word. Assumes nothing.
use mathlib.Core.Path.{◌≡◌, ap, ◌∙◌}
use native.Mathlib.Omega.{arith}
use lib.ListN.{length}
use lib.Seq.{take_all}
use Rattle.bitfields.specs.Field.{number}
use Rattle.bitfields.specs.Words.{word_at}
use Rattle.bitfields.proofs.Window.{word_number}
use borrow.Author.Rules.{rules}
use Rattle.entries.proofs.as_number.Goals as goal
use Rattle.entries.proofs.as_number.Goals.{Start}

long : (c : Start) → length c.args.id ≡ 8
long c = search rules

pub returns : goal.returns
returns c = let n = long (goal.at.returns c).Start in
    let w : c.from_be_bytes.result ≡ word_at c.args.id 0 = search rules in
    w ∙ word_number c.args.id 0 (omega (arith, n)) ∙ ap number (take_all 8 c.args.id (omega (arith, n)))
