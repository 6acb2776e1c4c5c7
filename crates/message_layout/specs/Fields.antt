-- What is read of a message: its contents, with parts of the input for octets. Of a header 1, of digests and of the elevation
-- nothing is kept.
use Rattle.std.specs.Prelude.{ℕ, ◌+◌, length, Some, None, Option as OptionRead}
use Rattle.std.proofs.Math.Option.{Option, none, some}
use Rattle.octets.specs.Vectors.{part, nowhere}
use Rattle.certificate.specs.Certificates.{blank}
use Rattle.geo.specs.declared.Position.{Position}
use Rattle.headers.specs.declared.fields.Fields.{Fields}
use Rattle.message.specs.Signers.{Signer as SignerRead}
use Rattle.message.specs.Messages.{Message}
use Rattle.writing.specs.Written.{intx_octets, vector_octets}
use Rattle.layout.specs.Fields as certificate
use Rattle.layout.specs.Fields.{signature_fields}
use Rattle.message_layout.specs.Contents.{Signer, named, carried, Location, Contents}
use Rattle.message_layout.specs.Layout.{header_octets, signed_octets}

-- a signer whose type octet stands here
abbrev pub signer_fields : ℕ → Signer → SignerRead
signer_fields at (named id) = record { form = 1; digest = part (at + 1) 8; certificate = blank }
signer_fields at (carried x) = record { form = 2; digest = nowhere; certificate = certificate.fields_at (at + 1) x }

-- a header that may be missing, by what is read of it where it is there
abbrev pub option_fields : {X A : Type 0} → (X → OptionRead A) → Option X → OptionRead A
option_fields value none = None
option_fields value (some x) = value x

-- a time, or an its_aid
abbrev pub number_fields : ℕ → OptionRead ℕ
number_fields n = Some n

abbrev pub place_fields : Location → Position
place_fields l = record { latitude = l.latitude; longitude = l.longitude }

abbrev pub location_fields : Location → OptionRead Position
location_fields l = Some (place_fields l)

-- of the headers after the signer
abbrev pub header_fields : Contents → Fields
header_fields c =
    record {
      generation = number_fields c.generation;
      expiration = option_fields number_fields c.expiration;
      location = option_fields location_fields c.location;
      aid = number_fields c.aid;
    }

-- before the signer's type stand the version, the length of the headers and the type 128; before the payload's length its type 1
unfoldable pub fields_of : Contents → Message
fields_of c =
    let start = 1 + length (intx_octets (length (header_octets c))) in
    let end = 1 + length (vector_octets (header_octets c)) in
    record {
      headers = record { signer = signer_fields (start + 1) c.signer; fields = header_fields c };
      payload = part (end + 1 + length (intx_octets (length c.payload))) (length c.payload);
      signed = part 0 (length (signed_octets c));
      signature = signature_fields (length (signed_octets c)) c.signature;
    }
