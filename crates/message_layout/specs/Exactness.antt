-- What is proved of the layout (proofs/Exactness.antt): a message is read exactly if it is written so.
use Rattle.std.specs.Prelude.{ℕ, ◌≡◌, List, ◌++◌, length, take, drop}
use Rattle.octets.specs.Reading.{got}
use Rattle.message.specs.Messages.{Message, whole_message}
use Rattle.writing.specs.Written.{Octets}
use Rattle.layout.specs.Contents as certificate
use Rattle.layout.specs.Layout as certificates
use Rattle.layout.specs.Layout.{signature_octets}
use Rattle.layout.specs.Fields.{fields_at}
use Rattle.message_layout.specs.Contents.{named, carried, Contents}
use Rattle.message_layout.specs.WellFormed.{WellFormed}
use Rattle.message_layout.specs.Layout.{written, signed_octets}
use Rattle.message_layout.specs.Fields.{fields_of}

-- a certificate stands in a message where its signed range starts, and is read as at that position
pub record Embedded (c : Contents) (x : certificate.Contents) : Type 0 where
  pub rest : List ℕ
  pub stands : drop (fields_of c).headers.signer.certificate.signed.start (written c) ≡ certificates.written x ++ rest
  pub reads : (fields_of c).headers.signer.certificate ≡ fields_at (fields_of c).headers.signer.certificate.signed.start x

pub record Exactness : Type 0 where
  -- what is written is octets, so that the two directions below speak of the same inputs
  pub octets : (c : Contents) → WellFormed c → Octets (written c)
  pub accepted : (c : Contents) → WellFormed c → whole_message (written c) ≡ got (fields_of c) (length (written c))
  pub only : (s : List ℕ) → Octets s → (m : Message) (next : ℕ) → whole_message s ≡ got m next → (c : Contents) × WellFormed c × (s ≡ written c) × (m ≡ fields_of c)
  -- the signed range of `fields_of` is what stands before the signature
  pub covered : (c : Contents) → written c ≡ signed_octets c ++ signature_octets c.signature
  -- the payload stands where `fields_of` says, and so does what names the signer: the id of a certificate, or a certificate
  pub payload : (c : Contents) → take (fields_of c).payload.length (drop (fields_of c).payload.start (written c)) ≡ c.payload
  pub named_id : (c : Contents) (id : List ℕ) → c.signer ≡ named id → length id ≡ 8
      → take (fields_of c).headers.signer.digest.length (drop (fields_of c).headers.signer.digest.start (written c)) ≡ id
  pub embedded : (c : Contents) (x : certificate.Contents) → c.signer ≡ carried x → Embedded c x
