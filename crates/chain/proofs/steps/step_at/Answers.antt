use Rattle.std.proofs.Common.{◌∙◌, ap, sym, ℕ}
use Rattle.order.specs.Steps.{refused}
use Rattle.octets.proofs.Outcomes.{passed_on, number_no_zero}
use Rattle.chain.specs.Computed.{up_of}
use Rattle.chain.proofs.Walked.{kind_of, step_own, step_root, step_last, step_upward}
use Rattle.chain.proofs.steps.step_at.Goals as goal

pub returns-in_err-own_at : goal.returns-in_err-own_at
returns-in_err-own_at c =
    ap up_of (passed_on c.from_residual.result _ c.from_residual.ensures.1)
    ∙ ap (λ (k : ℕ). refused k) c.in_err-own_at.ensures
    ∙ step_own _ _ _ _ _ _ (λ e. number_no_zero _ (c.in_err-own_at.ensures ∙ e))

pub returns-then-kind_at-eq-ROOT : goal.returns-then-kind_at-eq-ROOT
returns-then-kind_at-eq-ROOT c =
    step_root _ _ _ _ _ _ (sym c.in_ok-own_at.ensures) (sym (kind_of _ _) ∙ sym c.kind_at.ensures ∙ c.if-kind_at-eq-ROOT.true)

pub returns-then-left-eq0 : goal.returns-then-left-eq0
returns-then-left-eq0 c =
    step_last _ _ _ _ _ _ (sym c.in_ok-own_at.ensures) (λ r. c.if-kind_at-eq-ROOT.false (c.kind_at.ensures ∙ kind_of _ _ ∙ r)) c.if-left-eq0.true

pub returns : goal.returns
returns c =
    c.step_up.ensures
    ∙ step_upward _ _ _ _ _ _ (sym c.in_ok-own_at.ensures) (λ r. c.if-kind_at-eq-ROOT.false (c.kind_at.ensures ∙ kind_of _ _ ∙ r)) c.if-left-eq0.false
