use Rattle.std.proofs.Common.{◌∙◌, ap, sym}
use Rattle.octets.proofs.Outcomes.{passed_on, number_no_zero}
use Rattle.chain.specs.Computed.{up_of}
use Rattle.chain.proofs.Walked.{up_unknown, up_linked, linked_refused, linked_on}
use Rattle.chain.proofs.signers.step_from.Goals as goal

pub returns-in-None : goal.returns-in-None
returns-in-None c = up_unknown _ _ (sym c.find_id.ensures ∙ c.in-None.is)

pub returns-in_err-issued_by-in-Some : goal.returns-in_err-issued_by-in-Some
returns-in_err-issued_by-in-Some c =
    ap up_of (passed_on c.from_residual.result _ c.from_residual.ensures.1)
    ∙ linked_refused _ _ _ _ (rw c.scope_at.ensures at (sym c.in_err-issued_by-in-Some.ensures)) (number_no_zero _)
    ∙ up_linked _ _ _ (sym c.find_id.ensures ∙ c.in-Some.is)

pub returns-in_ok-issued_by-in-Some : goal.returns-in_ok-issued_by-in-Some
returns-in_ok-issued_by-in-Some c =
    linked_on _ _ _ (rw c.scope_at.ensures at (sym c.in_ok-issued_by-in-Some.ensures))
    ∙ up_linked _ _ _ (sym c.find_id.ensures ∙ c.in-Some.is)
