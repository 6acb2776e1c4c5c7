-- The signer is read exactly. Assumes nothing.
use Prim.Native.Nat.{ℕ}
use mathlib.Core.Path.{refl}
use mathlib.Core.Logic.{◌⊎◌, inl, inr}
use mathlib.Core.List.{List}
use native.Mathlib.Omega.{arith}
use Rattle.octets.specs.Vectors.{part, nowhere}
use Rattle.certificate.specs.Certificates.{blank}
use Rattle.headers.specs.Fields.{stray_of}
use Rattle.message.specs.Signers.{unsigned, named_at, carried_at, signer_info_at, signer_at}
use Rattle.writing.specs.Elements.{IfThere, element_octets, element_value, NothingFollows}
use Rattle.writing.specs.Exactly.{Exact, ExactBefore}
use Rattle.writing.proofs.Vectors.{run_exact}
use Rattle.writing.proofs.Alternatives.{first_exact}
use Rattle.writing.proofs.Sequences.{last}
use Rattle.writing.proofs.Shapes.{before, exactly, reshape}
use Rattle.layout.specs.Contents as certificate
use Rattle.layout.specs.WellFormed as certificates
use Rattle.layout.specs.WellFormed.{Opaque}
use Rattle.layout.specs.Layout as layout
use Rattle.layout.specs.Fields.{fields_at}
use Rattle.layout.proofs.Choices.{choice_exact}
use Rattle.layout.proofs.Exactness.{exactness}
use Rattle.message_layout.specs.Contents.{Signer, named, carried}
use Rattle.message_layout.specs.WellFormed.{WellFormedSigner}
use Rattle.message_layout.specs.Layout.{signer_octets}
use Rattle.message_layout.specs.Fields.{signer_fields}

named_exact : Exact (Opaque 8) (λ id. id) (λ at id. record { form = 1; digest = part at 8; certificate = blank }) named_at
unfolding named_at
named_exact = exactly (last (λ a start n. record { form = 1; digest = part start 8; certificate = blank }) (before (run_exact 8 (omega arith)))) (λ x rest g. tt)

carried_exact : Exact certificates.WellFormed layout.written (λ at x. record { form = 2; digest = nowhere; certificate = fields_at at x }) carried_at
unfolding carried_at
carried_exact = exactly (last (λ a x n. record { form = 2; digest = nowhere; certificate = x }) (before exactness.anywhere)) (λ x rest g. tt)

by_type : Signer → List ℕ ⊎ certificate.Contents
by_type (named id) = inl id
by_type (carried x) = inr x

signer_info_exact : Exact WellFormedSigner signer_octets signer_fields signer_info_at
unfolding signer_info_at by_type
signer_info_exact =
    reshape (choice_exact 1 2 (omega arith) (omega arith) refl named_exact carried_exact)
    (record {
      to = by_type;
      good = elim [ named id ↦ λ g. g | carried x ↦ λ g. g ];
      writes = elim [ named id ↦ λ g. refl | carried x ↦ λ g. refl ];
      values = λ at. elim [ named id ↦ λ g. refl | carried x ↦ λ g. refl ];
      onto = elim [ inl id ↦ λ g. (named id, g, refl) | inr x ↦ λ g. (carried x, g, refl) ];
    })

-- a vector that may lack it is empty then
pub signer_exact : ExactBefore (IfThere WellFormedSigner) (element_octets 128 signer_octets) (element_value unsigned signer_fields) NothingFollows signer_at
unfolding signer_at
signer_exact = first_exact 128 stray_of unsigned signer_info_exact
