-- What a signed message says (01, "The signed message"): octets and numbers, no positions. Required headers are fields, and optional
-- ones are options; that the signer stands first and the others follow once and in ascending order is in the layout.
use Rattle.std.specs.Prelude.{ℕ, List, ℤ}
use Rattle.std.proofs.Math.Option.{Option}
use Rattle.layout.specs.Contents as certificate
use Rattle.layout.specs.Contents.{Signature}

-- the certificate with this id, or one that the message carries
pub data Signer : Type 0 where
  named : List ℕ → Signer
  carried : certificate.Contents → Signer

-- a time in microseconds, and an octet that says how far off it may be
pub record Deviation : Type 0 where
  pub time : ℕ
  pub confidence : ℕ

pub record Location : Type 0 where
  pub latitude : ℤ
  pub longitude : ℤ
  pub elevation : List ℕ

pub record Contents : Type 0 where
  pub signer : Signer
  -- in microseconds
  pub generation : ℕ
  pub deviation : Option Deviation
  -- in seconds
  pub expiration : Option ℕ
  pub location : Option Location
  -- of certificates that are asked for
  pub digests : Option (List (List ℕ))
  pub aid : ℕ
  pub payload : List ℕ
  pub signature : Signature
