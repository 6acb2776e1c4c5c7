-- `answer_words::write_decision` meets its contract: its pieces one behind the other. Assumes nothing.
use native.Mathlib.Omega.{arith}
use mathlib.Core.Path.{◌≡◌, refl}
use lib.ListN.{length}
use Rattle.answer_words.specs.Answers.{with_decision}
use Rattle.answer_words.proofs.Joined.{decision_written}
use borrow.Author.Rules.{rules}
use Rattle.answer_words.proofs.write_decision.Goals as goal

pub returns : goal.returns
unfolding with_decision
returns c =
    let a = c.args in
    let o : length a.d.signer ≡ 8 = search (rules, c.well_formed.1.0) in
    rw (← c.from.ensures) (decision_written a.buffer.now _ a.d.signer _ c.write_words.ensures c.write_octets.ensures c.write_words-2.ensures refl o refl (omega arith))
