-- The first header, the signer (001, clauses 4.2.10, 4.2.11, 5.4 and 5.5): an id, or a certificate.
use Rattle.std.specs.Prelude.{ℕ, ◌+◌, List, length, get_or, ltb, eqb}
use Rattle.octets.specs.Refusals.{UNSUPPORTED}
use Rattle.octets.specs.Reading.{Out, got, bind, need, pick}
use Rattle.octets.specs.Numbers.{octet_at}
use Rattle.octets.specs.Vectors.{run_at, part, nowhere}
use Rattle.certificate.specs.Certificates.{certificate_at, blank}
use Rattle.headers.specs.Fields.{stray_of}
use Rattle.octets.specs.declared.vectors.Part.{Part}
use Rattle.certificate.specs.declared.certificates.Certificate.{Certificate}

-- the forms of a signer that are read (001, clause 4.2.11): an id, or a certificate
abbrev pub NAMED : ℕ
NAMED = 1

abbrev pub CARRIED : ℕ
CARRIED = 2

-- who signed: the certificate with the id whose 8 octets are named, or the certificate that stands here; form 0: nobody is named
pub record Signer : Type 0 where
  pub form : ℕ
  pub digest : Part
  pub certificate : Certificate

-- no signer
unfoldable pub unsigned : Signer
unsigned = record { form = 0; digest = nowhere; certificate = blank }

-- the 8 octets of an id
unfoldable pub named_at : List ℕ → ℕ → Out Signer
named_at s at = bind (run_at 8 s at) (λ start end. got (record { form = NAMED; digest = part start 8; certificate = blank }) end)

-- a certificate, ending with its signature; its container is the header vector
unfoldable pub carried_at : List ℕ → ℕ → Out Signer
carried_at s at = bind (certificate_at s at) (λ certificate end. got (record { form = CARRIED; digest = nowhere; certificate = certificate }) end)

unfoldable pub signer_info_at : List ℕ → ℕ → Out Signer
signer_info_at s at =
    bind (octet_at s at) (λ type a.
    pick (eqb type NAMED) (named_at s a)
    (need UNSUPPORTED (eqb type CARRIED) (carried_at s a)))

-- "The first header is 128, signer": another one stands out of order, or is unsupported; an empty vector lacks it
unfoldable pub signer_at : List ℕ → ℕ → Out Signer
signer_at s at =
    pick (ltb at (length s))
    (need (stray_of (get_or s at 0)) (eqb (get_or s at 0) 128) (signer_info_at s (at + 1)))
    (got unsigned at)
