-- Prepare and decide (01, "Order of checks"): 1, 2, 3, reading, 14, then 8, 9 or 7, the walk with 10 first, 11; decide then 15 and 15.
use Rattle.std.specs.Prelude.{◌≡◌, not, ◌||◌, List, ℕ, ℤ, length, replicate, eqb, leb, Option, None, Some, Result, Ok, Err, unwrap_or, IfOk, IfSome}
use Rattle.order.specs.Steps.{Answer, gives, refused, Steps, done, need, take, follow, run}
use Rattle.octets.specs.Refusals.{ACCEPTED, BAD_CALL, BAD_STORE, OUT_OF_DATE, BAD_SIGNATURE}
use Rattle.octets.specs.Outcomes.{number_of}
use Rattle.octets.specs.Reading.{pick}
use Rattle.octets.specs.declared.refusals.Refusal.{Refusal}
use Rattle.octets.specs.Verdicts.{GOOD}
use Rattle.octets.specs.Vectors.{nowhere}
use Rattle.octets.specs.declared.vectors.Part.{Part}
use Rattle.bitfields.specs.Field.{number}
use Rattle.message.specs.Messages.{Message, whole_message}
use Rattle.records.specs.Records.{record_of}
use Rattle.records.specs.declared.Record.{Record}
use Rattle.store.specs.Slots.{store_length, slot_of}
use Rattle.store.specs.Search.{find}
use Rattle.validity.specs.Valid.{valid_store}
use Rattle.chain.specs.Stored.{answered}
use Rattle.geo.specs.declared.Position.{Position}
use Rattle.signing.specs.Fields.{generated, its_aid}
use Rattle.signing.specs.Times.{longest_age, in_time}
use Rattle.signing.specs.Places.{in_range}
use Rattle.signing.specs.declared.signers.PublicKey.{PublicKey}
use Rattle.signing.specs.Signers.{carries, signed, public_key}
use Rattle.verification.specs.declared.judging.Situation.{Situation}
use Rattle.verification.specs.declared.operations.Decision.{Decision as Decided}
use Rattle.verification.specs.declared.operations.Question.{Question}
use Rattle.verification.specs.declared.operations.Prepared.{Prepared as Questions}

abbrev pub situation : ℕ → ℤ → ℤ → ℕ → Situation
situation time latitude longitude age = record { time = time; position = record { latitude = latitude; longitude = longitude }; age = age }

abbrev pub own_position : Situation → Position
own_position x = x.position

-- what a message that passes gives
pub record Passed : Type 0 where
  pub message : Message
  pub signer : Record

abbrev pub passed : Message → Record → Passed
passed m r = record { message = m; signer = r }

-- what prepare and decide share
abbrev pub judging : List ℕ → List ℕ → Situation → Steps Passed
judging store octets x =
    need BAD_CALL (eqb (length store) store_length)
    (need BAD_CALL (in_range x.position.latitude x.position.longitude)
    (need BAD_CALL (leb x.age longest_age)
    (need BAD_STORE (valid_store store)
    (take (answered (whole_message octets)) (λ m.
    need OUT_OF_DATE (in_time m.headers.fields x.time x.age)
    (take (run (signed store octets m (own_position x))) (λ r.
    done (passed m r))))))))

-- ---- decide: the certificate's verdict, if there is one, and the message's

-- the number of the answer, the payload as a part of the message, the signer's id, its_aid and the generation time; zeros in a refusal
pub record Decision : Type 0 where
  pub number : ℕ
  pub payload : Part
  pub signer : List ℕ
  pub permission : ℕ
  pub generation : ℕ

abbrev pub decision_for : Passed → Decision
decision_for p =
    record {
      number = ACCEPTED;
      payload = p.message.payload;
      signer = p.signer.id;
      permission = its_aid p.message.headers.fields;
      generation = generated p.message.headers.fields;
    }

abbrev pub verified : Passed → ℕ → ℕ → Steps Decision
verified p verdict certified =
    need BAD_SIGNATURE (not (carries p.message) || eqb certified GOOD)
    (need BAD_SIGNATURE (eqb verdict GOOD)
    (done (decision_for p)))

abbrev pub deciding : List ℕ → List ℕ → Situation → ℕ → ℕ → Steps Decision
deciding store octets x verdict certified = follow (judging store octets x) (λ p. verified p verdict certified)

-- the number, an empty part at octet 0, and zeros
abbrev pub undecided : ℕ → Decision
undecided k = record { number = k; payload = nowhere; signer = replicate 8 0; permission = 0; generation = 0 }

abbrev pub decision_of : Answer Decision → Decision
decision_of (gives d) = d
decision_of (refused k) = undecided k

unfoldable pub decision : List ℕ → List ℕ → Situation → ℕ → ℕ → Decision
decision store octets x verdict certified = decision_of (run (deciding store octets x verdict certified))

-- what the code answers
abbrev pub decided_answer : Result Decided Refusal → Decision
decided_answer (Ok d) = record { number = ACCEPTED; payload = d.payload; signer = d.signer; permission = d.permission; generation = d.generation }
decided_answer (Err e) = undecided (number_of e)

-- ---- prepare: the two questions

-- the number of the answer, and the questions for the message and for the certificate that it carries; zeros where there is none
pub record Prepared : Type 0 where
  pub number : ℕ
  pub message : Question
  pub certificate : Question

-- the key that checks, what it covers, and the whole signature structure
abbrev pub question : Part → PublicKey → Part → Question
question range key signature = record { signed = range; form = key.form; key = key.octets; signature = signature }

-- no question: empty parts at octet 0 and zeros
unfoldable pub unasked : Question
unasked = record { signed = nowhere; form = 0; key = replicate 32 0; signature = nowhere }

-- the certificate's question, by the key of its issuer, which the walk found
abbrev pub issuer_question : List ℕ → Part → Part → Option ℕ → Question
issuer_question store range signature None = unasked
issuer_question store range signature (Some i) = question range (public_key (record_of (slot_of store i)).key) signature

unfoldable pub certificate_question : List ℕ → Message → ℕ → Question
certificate_question store m issuer =
    let c = m.headers.signer.certificate in
    pick (carries m) (issuer_question store c.signed c.signature.octets (find store issuer)) unasked

abbrev pub questions_for : List ℕ → Passed → Prepared
questions_for store p =
    record {
      number = ACCEPTED;
      message = question p.message.signed (public_key p.signer.key) p.message.signature.octets;
      certificate = certificate_question store p.message (number p.signer.issuer);
    }

abbrev pub preparing : List ℕ → List ℕ → Situation → Steps Prepared
preparing store octets x = follow (judging store octets x) (λ p. done (questions_for store p))

abbrev pub unprepared : ℕ → Prepared
unprepared k = record { number = k; message = unasked; certificate = unasked }

abbrev pub prepared_of : Answer Prepared → Prepared
prepared_of (gives q) = q
prepared_of (refused k) = unprepared k

unfoldable pub preparation : List ℕ → List ℕ → Situation → Prepared
preparation store octets x = prepared_of (run (preparing store octets x))

-- what the code answers
abbrev pub prepared_answer : Result Questions Refusal → Prepared
prepared_answer (Ok q) = record { number = ACCEPTED; message = q.message; certificate = unwrap_or q.certificate unasked }
prepared_answer (Err e) = unprepared (number_of e)

-- a question for a certificate is told only where there is one: a key has a point type, and `unasked` has none
abbrev pub CertificateAsked : Result Questions Refusal → Type 0
CertificateAsked r = IfOk r (λ q. IfSome q.certificate (λ a. ¬ (a.form ≡ 0)))
