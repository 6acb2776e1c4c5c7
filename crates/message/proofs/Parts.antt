-- What the parts of a signer that is there say of it. Assumes nothing.
use mathlib.Core.Path.{◌≡◌, refl}
use mathlib.Core.Bool.{Bool, true, false}
use borrow.Author.Tests.{eqb-true, eq-eqb}
use lib.Dec.{eqb}
use Rattle.octets.specs.Reading.{pick}
use Rattle.octets.specs.declared.vectors.Part.{Part}
use Rattle.message.specs.Signers.{Signer, CARRIED}
use Rattle.message.specs.Parts.{given_parts}
use Rattle.message.specs.declared.signers.SignerParts.TheVariants.{Named, Carried}

carried_by : (t : Bool) (a b c d e : Part) → pick t (Carried a b) (Named c) ≡ Carried d e → (t ≡ true) × (a ≡ d) × (b ≡ e)
carried_by true a b c d e h = (refl, cc, cc)
carried_by false a b c d e h = absurd cc

named_by : (t : Bool) (a b c d : Part) → pick t (Carried a b) (Named c) ≡ Named d → (t ≡ false) × (c ≡ d)
named_by true a b c d h = absurd cc
named_by false a b c d h = (refl, cc)

module _ (g : Signer) where
  pub carried_from : (signed signature : Part) → given_parts g ≡ Carried signed signature
      → (g.form ≡ CARRIED) × (g.certificate.signed ≡ signed) × (g.certificate.signature.octets ≡ signature)
  carried_from signed signature h = let p = carried_by (eqb g.form CARRIED) _ _ _ _ _ h in (eqb-true _ _ p.0, p.1, p.2)

  pub named_from : (digest : Part) → given_parts g ≡ Named digest → ¬ (g.form ≡ CARRIED) × (g.digest ≡ digest)
  named_from digest h = let p = named_by (eqb g.form CARRIED) _ _ _ _ h in ((λ e. let t = eq-eqb g.form CARRIED e in let f = p.0 in absurd cc), p.1)
