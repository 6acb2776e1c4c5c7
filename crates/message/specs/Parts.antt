-- What the code passes on of a message: where its parts stand. The values of a certificate that it carries are read again where they are
-- needed, so that no copy of them waits on the stack.
use Rattle.std.specs.Prelude.{Bool, ◌&&◌, eqb, Option, Some, None, is_some}
use Rattle.octets.specs.Reading.{pick}
use Rattle.message.specs.Signers.{Signer, CARRIED}
use Rattle.message.specs.Vectors.{Headers}
use Rattle.message.specs.Messages.{Message}
use Rattle.message.specs.declared.signers.SignerParts.{SignerParts}
use Rattle.message.specs.declared.signers.SignerParts.TheVariants as signer
use Rattle.message.specs.declared.vectors.HeaderParts.{HeaderParts}
use Rattle.message.specs.declared.messages.MessageParts.{MessageParts}

-- a signer that is there
abbrev pub given_parts : Signer → SignerParts
given_parts g =
    pick (eqb g.form CARRIED) (signer.Carried g.certificate.signed g.certificate.signature.octets) (signer.Named g.digest)

-- form 0: nobody is named
abbrev pub signer_parts : Signer → Option SignerParts
signer_parts g = pick (eqb g.form 0) None (Some (given_parts g))

abbrev pub header_parts : Headers → HeaderParts
header_parts h = record { signer = signer_parts h.signer; fields = h.fields }

abbrev pub message_parts : Message → MessageParts
message_parts m =
    record {
      signer = given_parts m.headers.signer;
      fields = m.headers.fields;
      payload = m.payload;
      signed = m.signed;
      signature = m.signature;
    }

-- the test of `complete_headers`
abbrev pub complete_parts : HeaderParts → Bool
complete_parts h = is_some h.signer && is_some h.fields.generation && is_some h.fields.aid
