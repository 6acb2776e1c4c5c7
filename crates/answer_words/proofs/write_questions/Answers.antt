use native.Mathlib.Omega.{arith}
use mathlib.Core.Path.{◌≡◌, ap, ◌∙◌}
use lib.ListN.{length}
use Rattle.std.specs.Prelude.{unwrap_or}
use Rattle.octets.specs.Buffers.{with_front}
use Rattle.verification.specs.Order.{Prepared, unasked}
use Rattle.verification.specs.declared.operations.Question.{Question}
use Rattle.answer_words.specs.Answers.{with_questions, questions_octets}
use Rattle.answer_words.proofs.Joined.{questions_written}
use borrow.Author.Rules.{rules}
use Rattle.answer_words.proofs.write_questions.Goals as goal

pub returns : goal.returns
unfolding with_questions unasked
returns c =
    let a = c.args in
    let asked : Question → Prepared = λ (q : Question). record { number = 0; message = a.q.message; certificate = q } in
    let certificate = c.unwrap_or-certificate.result in
    let e : certificate ≡ unwrap_or a.q.certificate unasked = c.unwrap_or-certificate.ensures in
    let m : length a.q.message.key ≡ 32 = search rules in
    let k : length certificate.key ≡ 32 = search rules in
    questions_written a.buffer.now (asked certificate) c.write_question.ensures c.write_question-2.ensures (omega arith) m k
    ∙ ap (λ (q : Question). with_front (questions_octets (asked q)) a.buffer.now) e
