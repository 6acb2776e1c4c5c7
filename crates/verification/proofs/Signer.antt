-- The signer of a message of which the parts were passed on. Assumes nothing.
use Rattle.std.proofs.Common.{◌≡◌, ◌∙◌, ap, sym, List, ℕ, ◌+◌, ◌≤◌, length}
use mathlib.Core.Path.{refl, subst}
use borrow.Author.Tests.{eq-eqb, ne_eqb}
use Rattle.octets.specs.declared.vectors.Part.{Part}
use Rattle.bitfields.specs.Field.{Octets}
use Rattle.certificate.specs.declared.certificates.Certificate.{Certificate}
use Rattle.message.specs.Parts.{given_parts}
use Rattle.message.specs.declared.signers.SignerParts.{SignerParts}
use Rattle.message.specs.declared.signers.SignerParts.TheVariants.{Named, Carried}
use Rattle.message.specs.declared.messages.MessageParts.{MessageParts}
use Rattle.message.proofs.Parts.{carried_from, named_from}
use Rattle.geo.specs.declared.Position.{Position}
use Rattle.entries.specs.Standing.{StandsAt}
use Rattle.entries.proofs.Standing.{stands_in}
use Rattle.signing.specs.Computed.{named_signer, carried_signer, signer_of}
use Rattle.signing.proofs.Signed.{signer_carried, signer_named}
use Rattle.verification.specs.Computed.{PartsIn, judged_by, judged}
use Rattle.verification.proofs.Reading.{carried_standing, digest_in}

module _ (octets : List ℕ) (p : MessageParts) (h : PartsIn octets p) where
  signer_is : given_parts h.0.headers.signer ≡ p.signer
  signer_is = ap (λ (x : MessageParts). x.signer) h.2

  -- the id that it names
  pub named_inside : (digest : Part) → p.signer ≡ Named digest → (digest.start + 8 ≤ length octets) × (digest.length ≡ 8)
  named_inside digest e =
      let n = named_from h.0.headers.signer digest (signer_is ∙ e) in
      subst (λ (x : Part). (x.start + 8 ≤ length octets) × (x.length ≡ 8)) n.1 (digest_in octets h.0 h.1 n.0)

  module _ (o : Octets octets) where
    -- a certificate that it carries
    pub carried_stands : (signed signature : Part) → p.signer ≡ Carried signed signature → StandsAt octets signed.start
    carried_stands signed signature e =
        let c = carried_from h.0.headers.signer signed signature (signer_is ∙ e) in
        (h.0.headers.signer.certificate, carried_standing octets h.0 o h.1 c.0, ap (λ (x : Part). x.start) c.1)

    pub judged_signs : (store : List ℕ) (own : Position) → judged store octets p own ≡ signer_of store octets h.0 own
    unfolding judged
    judged_signs store own = by p.signer refl
      where
        by : (g : SignerParts) → p.signer ≡ g → judged_by store octets p own g ≡ signer_of store octets h.0 own
        by (Named digest) e =
            let n = named_from h.0.headers.signer digest (signer_is ∙ e) in
            ap (λ (x : Part). named_signer store octets x p.fields own) (sym n.1)
            ∙ ap (λ (x : MessageParts). named_signer store octets h.0.headers.signer.digest x.fields own) (sym h.2)
            ∙ signer_named store octets h.0 own (ne_eqb _ _ n.0)
        by (Carried signed signature) e =
            let c = carried_from h.0.headers.signer signed signature (signer_is ∙ e) in
            ap (λ (x : Certificate). carried_signer store octets x p.fields own)
            (stands_in octets h.0.headers.signer.certificate (carried_standing octets h.0 o h.1 c.0) signed.start (ap (λ (x : Part). x.start) c.1))
            ∙ ap (λ (x : MessageParts). carried_signer store octets h.0.headers.signer.certificate x.fields own) (sym h.2)
            ∙ signer_carried store octets h.0 own (eq-eqb _ _ c.0)
