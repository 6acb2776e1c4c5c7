use Rattle.std.proofs.Common.{◌∙◌, sym}
use Rattle.octets.proofs.Outcomes.{passed_on, number_no_zero}
use Rattle.chain.proofs.Walked.{at_own, at_root, at_last, at_up}
use Rattle.chain.proofs.signers.first_step.Goals as goal

pub returns-in_err-own : goal.returns-in_err-own
returns-in_err-own c =
    rw (passed_on c.from_residual.result _ c.from_residual.ensures.1)
    (tt, c.in_err-own.ensures ∙ at_own _ _ _ _ _ _ (λ e. number_no_zero _ (c.in_err-own.ensures ∙ e)))

pub returns-then-subject-eq-ROOT : goal.returns-then-subject-eq-ROOT
returns-then-subject-eq-ROOT c = (tt, at_root _ _ _ _ _ _ (sym c.in_ok-own.ensures) c.if-subject-eq-ROOT.true)

pub returns-then-left-eq0 : goal.returns-then-left-eq0
returns-then-left-eq0 c = (tt, at_last _ _ _ _ _ _ (sym c.in_ok-own.ensures) c.if-subject-eq-ROOT.false c.if-left-eq0.true)

pub returns : goal.returns
returns c = at_up _ _ _ _ _ _ _ (sym c.in_ok-own.ensures) c.if-subject-eq-ROOT.false c.if-left-eq0.false c.step_from.ensures
