use Rattle.std.proofs.Common.{◌∙◌, ap, sym}
use Rattle.octets.proofs.Outcomes.{passed_on, number_no_zero}
use Rattle.store.specs.Search.{find}
use Rattle.chain.specs.Computed.{up_of}
use Rattle.chain.specs.Stored.{subject_at}
use Rattle.chain.proofs.Walked.{up_unknown, up_linked, linked_refused, linked_on}
use Rattle.chain.proofs.steps.step_up.Goals as goal

pub returns-in-None : goal.returns-in-None
unfolding subject_at
returns-in-None c = up_unknown _ _ (sym (ap (find c.args.store.now) c.issuer_at.ensures) ∙ sym c.find_id.ensures ∙ c.in-None.is)

pub returns-in_err-issued_at-in-Some : goal.returns-in_err-issued_at-in-Some
unfolding subject_at
returns-in_err-issued_at-in-Some c =
    ap up_of (passed_on c.from_residual.result _ c.from_residual.ensures.1)
    ∙ linked_refused _ _ _ _ (sym c.in_err-issued_at-in-Some.ensures) (number_no_zero _)
    ∙ up_linked _ _ _ (sym (ap (find c.args.store.now) c.issuer_at.ensures) ∙ sym c.find_id.ensures ∙ c.in-Some.is)

pub returns-in_ok-issued_at-in-Some : goal.returns-in_ok-issued_at-in-Some
unfolding subject_at
returns-in_ok-issued_at-in-Some c =
    linked_on _ _ _ (sym c.in_ok-issued_at-in-Some.ensures)
    ∙ up_linked _ _ _ (sym (ap (find c.args.store.now) c.issuer_at.ensures) ∙ sym c.find_id.ensures ∙ c.in-Some.is)
