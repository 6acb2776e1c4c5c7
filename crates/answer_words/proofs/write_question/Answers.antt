-- `answer_words::write_question` meets its contract: its words, then its key. Assumes nothing.
use native.Mathlib.Omega.{arith}
use mathlib.Core.Path.{◌≡◌}
use lib.ListN.{length}
use Rattle.answer_words.proofs.Joined.{question_written}
use borrow.Author.Rules.{rules}
use Rattle.answer_words.proofs.write_question.Goals as goal

pub returns : goal.returns
returns c =
    let a = c.args in
    let o : length a.q.key ≡ 32 = search rules in
    rw (← c.from.ensures) (question_written a.buffer.now a.at _ a.q.key c.write_words.ensures c.write_octets.ensures (omega arith))
