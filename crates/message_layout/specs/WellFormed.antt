-- The rules that a message's contents keep (01, "The signed message").
use Rattle.std.specs.Prelude.{ℕ, ◌^◌, ◌≤◌, ◌<◌, List, length}
use Rattle.octets.specs.Coordinates.{latitude_limit, longitude_limit}
use Rattle.writing.specs.Written.{Octets}
use Rattle.writing.specs.Elements.{IfThere}
use Rattle.writing.specs.Items.{Each}
use Rattle.layout.specs.WellFormed as certificate
use Rattle.layout.specs.WellFormed.{Opaque, Time32, Within, WellFormedSignature}
use Rattle.message_layout.specs.Contents.{Signer, named, carried, Deviation, Location, Contents}
use Rattle.message_layout.specs.Layout.{written}

-- the 8 octets of an id, or a certificate under its own rules
abbrev pub WellFormedSigner : Signer → Type 0
WellFormedSigner (named id) = Opaque 8 id
WellFormedSigner (carried x) = certificate.WellFormed x

-- microseconds in 64 bits (001, clause 4.2.15)
abbrev pub Time64 : ℕ → Type 0
Time64 t = t < 2 ^ 64

-- a time, and one octet of deviation
pub record WellFormedDeviation (d : Deviation) : Type 0 where
  pub time : Time64 d.time
  pub confidence : d.confidence < 256

-- a place, and two octets
pub record WellFormedLocation (l : Location) : Type 0 where
  pub latitude : Within latitude_limit l.latitude
  pub longitude : Within longitude_limit l.longitude
  pub elevation : Opaque 2 l.elevation

-- 3 octets each; there may be none
abbrev pub WellFormedDigests : List (List ℕ) → Type 0
WellFormedDigests ds = Each (Opaque 3) ds

-- Nothing is asked of required headers and of their order: contents and layout have no others.
pub record WellFormed (c : Contents) : Type 0 where
  pub signer : WellFormedSigner c.signer
  pub generation : Time64 c.generation
  pub deviation : IfThere WellFormedDeviation c.deviation
  pub expiration : IfThere Time32 c.expiration
  pub location : IfThere WellFormedLocation c.location
  pub digests : IfThere WellFormedDigests c.digests
  -- an IntX
  pub aid : c.aid < 2 ^ 28
  -- it may be empty
  pub payload : Octets c.payload
  pub signature : WellFormedSignature c.signature
  -- "at most 2,048 octets"
  pub size : length (written c) ≤ 2048
