-- The rules of decide in the paper's words (01, "The signed message", "How a chain is walked", "Order of checks"): a message is accepted exactly
-- if this record holds.
use Rattle.std.specs.Prelude.{◌≡◌, false, ◌≢◌, List, ℕ, ◌+◌, ◌≤◌, ◌<◌, length, Some, IfSome}
use Rattle.octets.specs.Kinds.{TICKET}
use Rattle.octets.specs.Coordinates.{latitude_limit, longitude_limit}
use Rattle.octets.specs.Reading.{got}
use Rattle.octets.specs.Verdicts.{GOOD}
use Rattle.bitfields.specs.Field.{number}
use Rattle.message.specs.Messages.{Message, whole_message}
use Rattle.scope.specs.Issued.{listed, Among}
use Rattle.records.specs.Records.{record_of}
use Rattle.records.specs.declared.Record.{Record}
use Rattle.store.specs.Slots.{store_length, slot_of}
use Rattle.store.specs.Laws.{Holds}
use Rattle.validity.specs.Laws.{Valid}
use Rattle.layout.specs.WellFormed.{Within}
use Rattle.chain.specs.Chains.{Sound, Chain}
use Rattle.chain.specs.Stored.{issuer_in, followers}
use Rattle.store.specs.Withdrawn.{withdrawn_in}
use Rattle.entries.specs.Stored.{part_of, record_from}
use Rattle.signing.specs.Fields.{generated, its_aid}
use Rattle.signing.specs.Times.{longest_age, allowed_age, whole_second}
use Rattle.signing.specs.Places.{position_of}
use Rattle.signing.specs.Signers.{subject_of}
use Rattle.verification.specs.Order.{own_position}
use Rattle.verification.specs.declared.judging.Situation.{Situation}
use Rattle.message.specs.Signers.{CARRIED}

-- the octets are a message that says this
abbrev pub Reads : List ℕ → Message → Type 0
Reads octets m = (next : ℕ) × (whole_message octets ≡ got m next)

-- generation time and now differ by no more than the age
abbrev pub Fresh : ℕ → ℕ → ℕ → Type 0
Fresh generation time age = (generation ≤ time + age) × (time ≤ generation + age)

-- a stored certificate with the id of the one that the message carries is not withdrawn, and its record is the same
pub record Unchanged (store : List ℕ) (r : Record) : Type 0 where
  pub not_withdrawn : withdrawn_in store (number r.id) ≡ false
  pub same : (i : ℕ) → Holds store (number r.id) i → record_of (slot_of store i) ≡ r

-- who signs: the stored certificate that the message names, or the certificate that it carries
pub data Signs (store octets : List ℕ) (m : Message) : Record → Type 0 where
  by_id : (i : ℕ) → m.headers.signer.form ≢ CARRIED → Holds store (number (part_of octets m.headers.signer.digest)) i
      → Signs store octets m (record_of (slot_of store i))
  by_certificate : m.headers.signer.form ≡ CARRIED → Unchanged store (record_from octets m.headers.signer.certificate)
      → Signs store octets m (record_from octets m.headers.signer.certificate)

-- what prepare and decide both ask of a message, and its signer
pub record Passing (store octets : List ℕ) (x : Situation) (m : Message) (r : Record) : Type 0 where
  -- the call
  pub size : length store ≡ store_length
  pub position : Within latitude_limit x.position.latitude × Within longitude_limit x.position.longitude
  pub age_allowed : x.age ≤ longest_age
  pub valid : Valid store
  -- the message reads
  pub reads : Reads octets m
  -- its age and its expiration
  pub age : Fresh (generated m.headers.fields) x.time (allowed_age x.age)
  pub expiration : IfSome m.headers.fields.expiration (λ second. whole_second x.time < second)
  -- its signer: stored, or carried and, if a copy of it is stored, the same as that
  pub signs : Signs store octets m r
  -- a ticket
  pub kind : r.scope.kind ≡ TICKET
  -- a chain of at most eight up to a root: each certificate not withdrawn, in its period and in its region, each issued by the next
  pub chain : Chain (issuer_in store)
      (Sound (withdrawn_in store) (whole_second (generated m.headers.fields)) (Some (position_of m.headers.fields.location (own_position x))))
      followers (subject_of r)
  -- its_aid among the signer's permissions
  pub permitted : Among (its_aid m.headers.fields) (listed r.scope.permissions)

pub record Accepted (store octets : List ℕ) (x : Situation) (verdict certified : ℕ) : Type 0 where
  pub message : Message
  pub signer : Record
  pub rules : Passing store octets x message signer
  -- the verdicts: on the certificate that it carries, and on the message
  pub certificate_verified : message.headers.signer.form ≡ CARRIED → certified ≡ GOOD
  pub message_verified : verdict ≡ GOOD
