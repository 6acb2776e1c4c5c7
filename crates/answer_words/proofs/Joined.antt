-- Words and octets that are written one behind the other. Assumes nothing.
use mathlib.Core.Path.{◌≡◌, ◌∙◌}
use mathlib.Core.List.{List, [], ◌∷◌, ◌++◌}
use Prim.Native.Nat.{ℕ, ◌+◌, ◌*◌, ◌≤◌}
use native.Mathlib.Omega.{arith}
use lib.ListN.{length, length-append}
use Rattle.octets.specs.Buffers.{with_front, with_octets}
use Rattle.octets.proofs.Buffered.{octets_front, octets_joined}
use Rattle.field_words.specs.Words.{words_octets, with_words}
use Rattle.field_words.proofs.Written.{words_length}
use Rattle.verification.specs.declared.operations.Question.{Question}
use Rattle.verification.specs.Order.{Prepared}
use Rattle.answer_words.specs.Answers.{id_start, aid_word, decision_length, question_length, certificate_word, questions_length, question_octets, questions_octets}

-- octets, and others where those end
joined : (l : List ℕ) (at : ℕ) (a b : List ℕ) {p : ℕ} {m out : List ℕ} → m ≡ with_octets l at a → out ≡ with_octets m p b → p ≡ at + length a
    → p + length b ≤ length l → out ≡ with_octets l at (a ++ b)
joined l at a b e f q room = f ∙ rw (e, q) (octets_joined l at a b (omega arith))

-- words, then octets
pub question_written : (l : List ℕ) (at : ℕ) (ws s : List ℕ) {m out : List ℕ} → m ≡ with_words at ws l
    → out ≡ with_octets m (4 * at + 4 * length ws) s → 4 * at + 4 * length ws + length s ≤ length l
    → out ≡ with_octets l (4 * at) (words_octets ws ++ s)
unfolding with_words
question_written l at ws s e f room = joined l (4 * at) (words_octets ws) s e f (omega (arith, words_length ws)) room

-- two words, eight octets, three words
pub decision_written : (l ws s vs : List ℕ) {m n out : List ℕ} → m ≡ with_words 0 ws l → n ≡ with_octets m id_start s → out ≡ with_words aid_word vs n
    → length ws ≡ 2 → length s ≡ 8 → length vs ≡ 3 → decision_length ≤ length l
    → out ≡ with_front (words_octets ws ++ s ++ words_octets vs) l
unfolding with_words
decision_written l ws s vs {m} {n} e f g two eight three room =
    let long : length (words_octets ws) ≡ 8 = omega (arith, words_length ws) in
    let both : n ≡ with_octets l 0 (words_octets ws ++ s) = joined l 0 (words_octets ws) s e f (omega arith) (omega arith) in
    joined l 0 (words_octets ws ++ s) (words_octets vs) both g (omega (arith, length-append (words_octets ws) s)) (omega (arith, words_length vs))
    ∙ octets_front l (words_octets ws ++ s ++ words_octets vs)

question_long : (q : Question) → length q.key ≡ 32 → length (question_octets q) ≡ question_length
question_long q e =
    let ws = q.signed.start ∷ q.signed.length ∷ q.signature.start ∷ q.signature.length ∷ q.form ∷ [] in
    omega (arith, length-append (words_octets ws) q.key, words_length ws)

-- one question, then the other
pub questions_written : (l : List ℕ) (q : Prepared) {m out : List ℕ} → m ≡ with_octets l 0 (question_octets q.message)
    → out ≡ with_octets m (4 * certificate_word) (question_octets q.certificate) → questions_length ≤ length l
    → length q.message.key ≡ 32 → length q.certificate.key ≡ 32 → out ≡ with_front (questions_octets q) l
questions_written l q e f room a b =
    joined l 0 (question_octets q.message) (question_octets q.certificate) e f (omega (arith, question_long q.message a)) (omega (arith, question_long q.certificate b))
    ∙ octets_front l (questions_octets q)
