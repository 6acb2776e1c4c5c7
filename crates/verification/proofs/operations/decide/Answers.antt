-- By what was opened, and then by the signer. Assumes nothing.
use Rattle.std.proofs.Common.{◌∙◌, ap, arith}
use borrow.Author.Tests.{ne_eqb}
use Rattle.octets.proofs.Outcomes.{passed_on}
use Rattle.verification.specs.Order.{decided_answer}
use Rattle.verification.proofs.Opened.{Opened, opened_to, opened_length, decided_stops}
use Rattle.verification.proofs.Judged.{decided_judged}
use Rattle.verification.proofs.operations.decide.Goals as goal
use Rattle.verification.proofs.operations.decide.Goals.{In_ok-m}

-- the message that was opened
abbrev message : (c : In_ok-m) → let a = c.args in Opened a.store.now a.message.now a.x.now c.in_ok-m.m
message c = opened_to _ _ _ _ (rw c.in-Ok.ensures.1.same at c.in_ok-m.ensures)

pub returns-in_default : goal.returns-in_default
returns-in_default c = decided_stops _ _ _ _ _ _ (opened_length _ _ _ (ne_eqb _ _ c.in_default.ensures.1))

pub returns-in_err-m : goal.returns-in_err-m
returns-in_err-m c =
    ap decided_answer (passed_on c.from_residual.result _ c.from_residual.ensures.1)
    ∙ decided_stops _ _ _ _ _ _ (rw c.in-Ok.ensures.1.same at c.in_err-m.ensures)

pub judged-requires : goal.judged-requires
judged-requires c = (message (goal.at.judged-requires c).In_ok-m).parts

pub returns-in_err-signer : goal.returns-in_err-signer
returns-in_err-signer c =
    ap decided_answer (passed_on c.from_residual-in_err-signer.result _ c.from_residual-in_err-signer.ensures.1)
    ∙ decided_judged _ _ _ _ (message (goal.at.returns-in_err-signer c).In_ok-m) (λ i. omega (arith, c.type_inv.message i)) _
    (rw c.in-Ok.ensures.1.same at c.in_err-signer.ensures) _ _

pub returns : goal.returns
returns c =
    c.decision_for.ensures
    ∙ decided_judged _ _ _ _ (message (goal.at.returns c).In_ok-m) (λ i. omega (arith, c.type_inv.message i)) _
    (rw c.in-Ok.ensures.1.same at c.in_ok-signer.ensures) _ _
