use Rattle.std.proofs.Common.{sym}
use Rattle.octets.proofs.Outcomes.{passed_on}
use Rattle.certificate.proofs.Filled.{reading_filled, wholly_outlined}
use Rattle.certificate.proofs.operations.read.Goals as goal

pub returns-in_err-outline : goal.returns-in_err-outline
returns-in_err-outline c = rw (passed_on c.from_residual.result _ c.from_residual.ensures.1) (reading_filled _ _ c.in_err-outline.ensures)

pub certificate_of-requires : goal.certificate_of-requires
certificate_of-requires c = wholly_outlined _ _ _ (sym c.in_ok-outline.ensures)

pub returns : goal.returns
returns c = rw c.certificate_of.ensures (reading_filled _ _ c.in_ok-outline.ensures)
