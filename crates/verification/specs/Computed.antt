-- What the code answers on the way; no contract of an operation rests on it.
use Rattle.std.specs.Prelude.{◌≡◌, Bool, true, false, not, ◌||◌, List, ℕ, length, eqb, leb}
use Rattle.order.specs.Steps.{Answer, gives, refused, Steps, done, need, take, run}
use Rattle.octets.specs.Refusals.{ACCEPTED, BAD_CALL, BAD_STORE, OUT_OF_DATE, BAD_SIGNATURE}
use Rattle.octets.specs.Reading.{pick}
use Rattle.octets.specs.Verdicts.{GOOD}
use Rattle.message.specs.Messages.{Message, whole_message}
use Rattle.message.specs.Parts.{message_parts}
use Rattle.message.specs.declared.signers.SignerParts.{SignerParts}
use Rattle.message.specs.declared.signers.SignerParts.TheVariants as signer
use Rattle.message.specs.declared.messages.MessageParts.{MessageParts}
use Rattle.geo.specs.declared.Position.{Position}
use Rattle.store.specs.Slots.{store_length}
use Rattle.store.specs.Search.{find}
use Rattle.validity.specs.Valid.{valid_store}
use Rattle.chain.specs.Stored.{answered}
use Rattle.entries.specs.Standing.{certificate_in}
use Rattle.signing.specs.Fields.{generated, its_aid}
use Rattle.signing.specs.Times.{longest_age, in_time}
use Rattle.signing.specs.Places.{in_range}
use Rattle.signing.specs.Computed.{named_signer, carried_signer}
use Rattle.signing.specs.declared.signers.Identity.{Identity}
use Rattle.verification.specs.Order.{Decision, Prepared, question, unasked, issuer_question, unprepared, undecided}
use Rattle.verification.specs.Accepted.{Reads}
use Rattle.verification.specs.declared.judging.Situation.{Situation}
use Rattle.verification.specs.declared.operations.Question.{Question}

-- the rows of `judging` before the signer
abbrev pub opening : List ℕ → List ℕ → Situation → Steps Message
opening store octets x =
    need BAD_CALL (eqb (length store) store_length)
    (need BAD_CALL (in_range x.position.latitude x.position.longitude)
    (need BAD_CALL (leb x.age longest_age)
    (need BAD_STORE (valid_store store)
    (take (answered (whole_message octets)) (λ m.
    need OUT_OF_DATE (in_time m.headers.fields x.time x.age)
    (done m))))))

-- what is passed on of a message
abbrev pub parts_of : Answer Message → Answer MessageParts
parts_of (gives m) = gives (message_parts m)
parts_of (refused k) = refused k

unfoldable pub opened : List ℕ → List ℕ → Situation → Answer MessageParts
opened store octets x = parts_of (run (opening store octets x))

-- the parts are those of a message that was read in these octets
abbrev pub PartsIn : List ℕ → MessageParts → Type 0
PartsIn octets p = (m : Message) × Reads octets m × (message_parts m ≡ p)

-- what the tests of the signer answer, whom the parts name or whose certificate stands there
abbrev pub judged_by : List ℕ → List ℕ → MessageParts → Position → SignerParts → Answer Identity
judged_by store octets p own (signer.Named digest) = named_signer store octets digest p.fields own
judged_by store octets p own (signer.Carried signed signature) = carried_signer store octets (certificate_in octets signed.start) p.fields own

unfoldable pub judged : List ℕ → List ℕ → MessageParts → Position → Answer Identity
judged store octets p own = judged_by store octets p own p.signer

-- the certificate's question from the signer's parts
abbrev pub parts_question : List ℕ → ℕ → SignerParts → Question
parts_question store issuer (signer.Named digest) = unasked
parts_question store issuer (signer.Carried signed signature) = issuer_question store signed signature (find store issuer)

-- the questions and the decision from the parts of a message and what its signer's tests answered
unfoldable pub questions_from : List ℕ → MessageParts → Identity → Prepared
questions_from store p s =
    record {
      number = ACCEPTED;
      message = question p.signed s.key p.signature.octets;
      certificate = parts_question store s.issuer p.signer;
    }

abbrev pub prepared_from : List ℕ → MessageParts → Answer Identity → Prepared
prepared_from store p (gives s) = questions_from store p s
prepared_from store p (refused k) = unprepared k

abbrev pub carries_in : SignerParts → Bool
carries_in (signer.Named digest) = false
carries_in (signer.Carried signed signature) = true

abbrev pub decision_from : MessageParts → Identity → Decision
decision_from p s =
    record {
      number = ACCEPTED;
      payload = p.payload;
      signer = s.id;
      permission = its_aid p.fields;
      generation = generated p.fields;
    }

unfoldable pub verified_from : MessageParts → Identity → ℕ → ℕ → Decision
verified_from p s verdict certified =
    pick (not (carries_in p.signer) || eqb certified GOOD)
    (pick (eqb verdict GOOD) (decision_from p s) (undecided BAD_SIGNATURE))
    (undecided BAD_SIGNATURE)

abbrev pub decided_from : MessageParts → Answer Identity → ℕ → ℕ → Decision
decided_from p (gives s) verdict certified = verified_from p s verdict certified
decided_from p (refused k) verdict certified = undecided k
