-- Demand 2 on messages, over the definitions that the contracts of `prepare` and `decide` cite (proofs/Demand.antt). Its half on certificates
-- ("admitted exactly if its admission rules hold") is `installed-exactly`, `admitted-exactly`, `refused-first` and `issuer-first` of admission/specs/Laws.
use Rattle.std.specs.Prelude.{◌≡◌, ◌↔◌, ◌≢◌, List, [], ℕ, ◌+◌, ◌≤◌, length}
use Rattle.order.specs.Steps.{number as answerNumber, run, rows, First}
use Rattle.bitfields.specs.Field.{number, Octets}
use Rattle.message.specs.Messages.{Message}
use Rattle.records.specs.Records.{record_of}
use Rattle.records.specs.declared.Record.{Record}
use Rattle.store.specs.Slots.{slot_of}
use Rattle.store.specs.Laws.{Holds}
use Rattle.chain.specs.Chains.{Root, top}
use Rattle.chain.specs.Laws.{StoredIn}
use Rattle.geo.specs.declared.Position.{Position}
use Rattle.headers.specs.declared.fields.Fields.{Fields}
use Rattle.signing.specs.Copies.{copying}
use Rattle.signing.specs.Signers.{signing, entitling, signed, public_key}
use Rattle.verification.specs.Order.{Prepared, passed, question, unasked, decision_for, deciding, decision, undecided, preparation, unprepared}
use Rattle.entries.specs.Stored.{part_of}
use Rattle.verification.specs.Payloads.{payload_of}
use Rattle.verification.specs.Accepted.{Passing, Accepted}
use Rattle.verification.specs.declared.judging.Situation.{Situation}
use Rattle.message.specs.Signers.{CARRIED}

-- the questions of a message that passes: for the message the signer's key, for a certificate that it carries the issuer's, which is stored
pub record Asked (store octets : List ℕ) (x : Situation) (q : Prepared) : Type 0 where
  pub message : Message
  pub signer : Record
  pub rules : Passing store octets x message signer
  pub signers_key : q.message ≡ question message.signed (public_key signer.key) message.signature.octets
  pub issuers_key : message.headers.signer.form ≡ CARRIED → (i : ℕ) × Holds store (number signer.issuer) i
      × (q.certificate ≡ question message.headers.signer.certificate.signed (public_key (record_of (slot_of store i)).key) message.headers.signer.certificate.signature.octets)
  pub none_asked : message.headers.signer.form ≢ CARRIED → q.certificate ≡ unasked

pub record Demand2 : Type 1 where
  -- decide answers 0 exactly if the rules hold,
  pub accepted_exactly : (store octets : List ℕ) (x : Situation) (verdict certified : ℕ) → Octets store → Octets octets
      → ((decision store octets x verdict certified).number ≡ 0) ↔ Accepted store octets x verdict certified
  -- and then gives payload, signer's id, permission and generation time
  pub accepted_gives : (store octets : List ℕ) (x : Situation) (verdict certified : ℕ) → Octets store → Octets octets
      → (h : Accepted store octets x verdict certified) → decision store octets x verdict certified ≡ decision_for (passed h.message h.signer)
  -- it answers k exactly if each row before passes and the first that fails answers k,
  pub refused_first : (store octets : List ℕ) (x : Situation) (verdict certified k : ℕ) → k ≢ 0
      → ((decision store octets x verdict certified).number ≡ k) ↔ First (rows (deciding store octets x verdict certified)) k
  -- inside the row of the signer: who it is, then what it may; the stored copy of a carried certificate
  pub signer_first : (store octets : List ℕ) (m : Message) (own : Position) (k : ℕ) → k ≢ 0
      → (answerNumber (run (signed store octets m own)) ≡ k) ↔ First (rows (signed store octets m own)) k
  pub signing_first : (store octets : List ℕ) (m : Message) (k : ℕ) → k ≢ 0
      → (answerNumber (run (signing store octets m)) ≡ k) ↔ First (rows (signing store octets m)) k
  pub copy_first : (store : List ℕ) (r : Record) (k : ℕ) → k ≢ 0 → (answerNumber (run (copying store r)) ≡ k) ↔ First (rows (copying store r)) k
  pub entitled_first : (store : List ℕ) (f : Fields) (own : Position) (r : Record) (k : ℕ) → k ≢ 0
      → (answerNumber (run (entitling store f own r)) ≡ k) ↔ First (rows (entitling store f own r)) k
  -- a refusal gives zeros and the empty part at octet 0
  pub refused_zeros : (store octets : List ℕ) (x : Situation) (verdict certified : ℕ) → (decision store octets x verdict certified).number ≢ 0
      → decision store octets x verdict certified ≡ undecided (decision store octets x verdict certified).number
  -- prepare refuses exactly as decide with good verdicts
  pub prepares : (store octets : List ℕ) (x : Situation) → (preparation store octets x).number ≡ (decision store octets x 1 1).number
  pub unprepared_zeros : (store octets : List ℕ) (x : Situation) → (preparation store octets x).number ≢ 0
      → preparation store octets x ≡ unprepared (preparation store octets x).number
  -- the key asked for the message is the signer's, for the certificate its issuer's
  pub asked : (store octets : List ℕ) (x : Situation) → Octets store → Octets octets → (preparation store octets x).number ≡ 0
      → Asked store octets x (preparation store octets x)
  -- the chain ends with a stored root
  pub anchored : (store octets : List ℕ) (x : Situation) (m : Message) (r : Record) (h : Passing store octets x m r)
      → Root (top h.chain) × StoredIn store (top h.chain)
  -- the payload of an accepted message lies in the message
  pub payload_inside : (store octets : List ℕ) (x : Situation) (verdict certified : ℕ) → (decision store octets x verdict certified).number ≡ 0
      → (decision store octets x verdict certified).payload.start + (decision store octets x verdict certified).payload.length ≤ length octets
  -- so `payload` gives its octets; in a refusal none
  pub payload_octets_lem : (store octets : List ℕ) (x : Situation) (verdict certified : ℕ) → (decision store octets x verdict certified).number ≡ 0
      → payload_of octets (decision store octets x verdict certified).payload ≡ part_of octets (decision store octets x verdict certified).payload
  pub payload_empty : (store octets : List ℕ) (x : Situation) (verdict certified : ℕ) → (decision store octets x verdict certified).number ≢ 0
      → payload_of octets (decision store octets x verdict certified).payload ≡ []
