-- What prepare and decide make of a message that was opened, by what its signer's tests answer. Assumes nothing.
use Rattle.std.proofs.Common.{◌≡◌, ◌∙◌, ap, sym, List, ℕ}
use Rattle.order.specs.Steps.{Answer}
use Rattle.bitfields.specs.Field.{Octets}
use Rattle.message.specs.declared.messages.MessageParts.{MessageParts}
use Rattle.signing.specs.Computed.{signer_of}
use Rattle.signing.specs.declared.signers.Identity.{Identity}
use Rattle.verification.specs.Order.{preparation, decision}
use Rattle.verification.specs.Computed.{judged, prepared_from, decided_from}
use Rattle.verification.specs.declared.judging.Situation.{Situation}
use Rattle.verification.proofs.Opened.{Opened, prepared_signed, decided_signed}
use Rattle.verification.proofs.Signer.{judged_signs}

module _ (store octets : List ℕ) (x : Situation) (p : MessageParts) (o : Opened store octets x p) (oo : Octets octets) (a : Answer Identity) (e : a ≡ judged store octets p x.position) where
  signs : a ≡ signer_of store octets o.parts.0 x.position
  signs = e ∙ judged_signs octets p o.parts oo store x.position

  pub prepared_judged : prepared_from store p a ≡ preparation store octets x
  prepared_judged =
      ap (λ (b : Answer Identity). prepared_from store p b) signs
      ∙ ap (λ (q : MessageParts). prepared_from store q (signer_of store octets o.parts.0 x.position)) (sym o.parts.2)
      ∙ prepared_signed store octets x o.parts.0 o.given

  pub decided_judged : (verdict certified : ℕ) → decided_from p a verdict certified ≡ decision store octets x verdict certified
  decided_judged verdict certified =
      ap (λ (b : Answer Identity). decided_from p b verdict certified) signs
      ∙ ap (λ (q : MessageParts). decided_from q (signer_of store octets o.parts.0 x.position) verdict certified) (sym o.parts.2)
      ∙ decided_signed store octets x verdict certified o.parts.0 o.given
