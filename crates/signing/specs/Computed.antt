-- What the code answers on the way; no contract of an operation rests on it.
use Rattle.std.specs.Prelude.{List, ℕ}
use Rattle.order.specs.Steps.{Answer, gives, refused, number as answerNumber, take, run}
use Rattle.octets.specs.declared.vectors.Part.{Part}
use Rattle.bitfields.specs.Field.{number}
use Rattle.headers.specs.declared.fields.Fields.{Fields}
use Rattle.message.specs.Messages.{Message}
use Rattle.certificate.specs.declared.certificates.Certificate.{Certificate}
use Rattle.records.specs.declared.Record.{Record}
use Rattle.geo.specs.declared.Position.{Position}
use Rattle.signing.specs.Copies.{copying}
use Rattle.signing.specs.Signers.{carried, named, entitling, allowed, signed, public_key}
use Rattle.signing.specs.declared.signers.Identity.{Identity}

-- the numbers of tests, 0 if all pass
unfoldable pub copy_number : List ℕ → Record → ℕ
copy_number store r = answerNumber (run (copying store r))

unfoldable pub entitled_number : List ℕ → Fields → Position → Record → ℕ
entitled_number store f own r = answerNumber (run (entitling store f own r))

-- what is left of the signer
abbrev pub identity_of : Record → Identity
identity_of r = record { id = r.id; key = public_key r.key; issuer = number r.issuer }

abbrev pub signer_judged : Answer Record → Answer Identity
signer_judged (gives r) = gives (identity_of r)
signer_judged (refused k) = refused k

unfoldable pub named_signer : List ℕ → List ℕ → Part → Fields → Position → Answer Identity
named_signer store octets digest f own = signer_judged (run (take (run (named store octets digest)) (allowed store f own)))

unfoldable pub carried_signer : List ℕ → List ℕ → Certificate → Fields → Position → Answer Identity
carried_signer store octets c f own = signer_judged (run (take (run (carried store octets c)) (allowed store f own)))

unfoldable pub signer_of : List ℕ → List ℕ → Message → Position → Answer Identity
signer_of store octets m own = signer_judged (run (signed store octets m own))
