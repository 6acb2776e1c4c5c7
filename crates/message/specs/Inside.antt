-- What is known of a message that was read: its parts lie inside it, and it names its signer.
use Rattle.std.specs.Prelude.{ℕ, ◌+◌, ◌≤◌, ◌≡◌, List, length, take, IsSome}
use Rattle.octets.specs.Reading.{got}
use Rattle.octets.specs.Vectors.{part, nowhere}
use Rattle.certificate.specs.Certificates.{certificate_at}
use Rattle.message.specs.Signers.{Signer, CARRIED, NAMED}
use Rattle.message.specs.Messages.{Message}

-- an id, of 8 octets of the message
pub record ById (s : List ℕ) (signer : Signer) : Type 0 where
  pub type : signer.form ≡ NAMED
  pub eight : signer.digest.length ≡ 8
  pub within : signer.digest.start + 8 ≤ length s

-- a certificate, which was read in the header vector: from octet `first` up to `after`; the vector ends at `end`
pub record ByCertificate (s : List ℕ) (signer : Signer) : Type 0 where
  pub type : signer.form ≡ CARRIED
  pub unnamed : signer.digest ≡ nowhere
  pub end : ℕ
  pub first : ℕ
  pub after : ℕ
  pub within : end ≤ length s
  pub read : certificate_at (take end s) first ≡ got signer.certificate after

pub data SignedBy (s : List ℕ) (signer : Signer) : Type 0 where
  id : ById s signer → SignedBy s signer
  certificate : ByCertificate s signer → SignedBy s signer

pub record Inside (s : List ℕ) (m : Message) : Type 0 where
  pub short : length s ≤ 2048
  pub payload : m.payload.start + m.payload.length ≤ length s
  pub signature : m.signature.octets.start + 66 ≤ length s
  pub whole : m.signature.octets.length ≡ 66
  pub signed : m.signed ≡ part 0 m.signature.octets.start
  pub signer : SignedBy s m.headers.signer
  pub dated : IsSome m.headers.fields.generation
  pub named : IsSome m.headers.fields.aid
