use Rattle.std.proofs.Common.{arith, sym, ap, ◌∙◌}
use Rattle.octets.specs.Reading.{kept}
use Rattle.octets.proofs.Outcomes.{passed_on}
use Rattle.certificate.specs.Operations.{certificate_id}
use Rattle.certificate.specs.Outlines.{certificate_from}
use Rattle.certificate.proofs.Filled.{whole_filled, id_filled}
use Rattle.certificate.proofs.Inside.{whole_inside}
use Rattle.certificate.proofs.operations.id.Goals as goal

pub returns-in_err-outline : goal.returns-in_err-outline
returns-in_err-outline c = rw (passed_on c.from_residual.result _ c.from_residual.ensures.1) (id_filled _ _ c.in_err-outline.ensures)

pub overflow_add-at : goal.overflow_add-at
overflow_add-at c =
    let i = whole_inside _ _ _ (whole_filled _ ∙ ap (kept (certificate_from _)) (sym c.in_ok-outline.ensures)) in
    omega (arith, i.0, i.1)

pub returns : goal.returns
unfolding certificate_id
returns c = rw c.short_digest_with_zero_at.ensures (id_filled _ _ c.in_ok-outline.ensures)
