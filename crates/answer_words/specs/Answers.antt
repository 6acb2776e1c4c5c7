-- A decision and the questions as octets: the layout of include/nattveldi.h. Words have four octets, the most significant first.
use Rattle.std.specs.Prelude.{ℕ, ◌+◌, ◌*◌, ◌/◌, ◌^◌, List, [], ◌∷◌, ◌++◌}
use Rattle.octets.specs.Buffers.{with_front}
use Rattle.field_words.specs.Words.{words_octets}
use Rattle.verification.specs.Order.{Decision}
use Rattle.verification.specs.declared.operations.Question.{Question}
use Rattle.verification.specs.Order.{Prepared}

-- a decision: the octet at which the signer's id starts, the word at which its_aid stands, and how many octets there are
abbrev pub id_start : ℕ
id_start = 8

abbrev pub aid_word : ℕ
aid_word = 4

abbrev pub decision_length : ℕ
decision_length = 4 * aid_word + 12

-- a question: the octet at which the key starts, and how many octets there are
abbrev pub key_start : ℕ
key_start = 20

abbrev pub question_length : ℕ
question_length = key_start + 32

-- both questions: the word at which the certificate's starts, and how many octets there are
abbrev pub certificate_word : ℕ
certificate_word = question_length / 4

abbrev pub questions_length : ℕ
questions_length = 2 * question_length

-- payload; the signer's id; its_aid, and the generation time in two words, of which the second holds its low 32 bits
abbrev pub decision_octets : Decision → List ℕ
decision_octets d =
    words_octets (d.payload.start ∷ d.payload.length ∷ [])
    ++ d.signer
    ++ words_octets (d.permission ∷ d.generation / 2 ^ 32 ∷ d.generation ∷ [])

-- signed range, signature, point type; the key
abbrev pub question_octets : Question → List ℕ
question_octets q =
    words_octets (q.signed.start ∷ q.signed.length ∷ q.signature.start ∷ q.signature.length ∷ q.form ∷ [])
    ++ q.key

-- the message's question, then the certificate's
abbrev pub questions_octets : Prepared → List ℕ
questions_octets q = question_octets q.message ++ question_octets q.certificate

-- a buffer with these octets first; those behind them stay
unfoldable pub with_decision : Decision → List ℕ → List ℕ
with_decision d l = with_front (decision_octets d) l

unfoldable pub with_questions : Prepared → List ℕ → List ℕ
with_questions q l = with_front (questions_octets q) l
