-- What a certificate that stands in a message would be stored as. Assumes nothing.
use Rattle.std.proofs.Common.{◌≡◌, ◌∙◌, ap, sym, ℕ, List}
use Rattle.octets.specs.Reading.{got, refused, kept}
use Rattle.octets.proofs.Laws.{clash}
use Rattle.certificate.specs.Certificates.{certificate_at}
use Rattle.certificate.specs.Outlines.{outline_at, certificate_from}
use Rattle.certificate.specs.declared.certificates.Certificate.{Certificate}
use Rattle.certificate.specs.declared.outlines.Outline.{Outline}
use Rattle.certificate.proofs.Filled.{certificate_filled}
use Rattle.entries.specs.Stored.{record_from}
use Rattle.entries.specs.Standing.{StandsAt, value_of, certificate_in}

module _ (s : List ℕ) (at : ℕ) where
  -- it is read
  pub unread : (k : ℕ) → refused k ≡ outline_at s at → ¬ StandsAt s at
  unread k e h =
      clash (sym (certificate_filled s at ∙ ap (kept (certificate_from s)) (sym e)) ∙ ap (certificate_at s) (sym h.2) ∙ h.1.reads)

  pub recorded : (o : Outline) (next : ℕ) → got o next ≡ outline_at s at → record_from s (certificate_from s o) ≡ record_from s (certificate_in s at)
  recorded o next e =
      ap (λ (c : Certificate). record_from s c) (sym (ap value_of (certificate_filled s at ∙ ap (kept (certificate_from s)) (sym e))))
