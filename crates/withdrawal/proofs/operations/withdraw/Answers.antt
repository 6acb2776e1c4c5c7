use Rattle.std.proofs.Common.{sym}
use Rattle.octets.proofs.Outcomes.{passed_on}
use Rattle.withdrawal.proofs.Asked.{asked_short, withdrawal_asked}
use Rattle.withdrawal.proofs.operations.withdraw.Goals as goal

pub returns-in_default : goal.returns-in_default
returns-in_default c = withdrawal_asked _ _ _ (sym (asked_short _ _ c.in_default.ensures.cases))

pub returns-in_err-c : goal.returns-in_err-c
returns-in_err-c c =
    let same = c.in-Some.ensures.cases.same in
    rw (passed_on c.from_residual.result _ c.from_residual.ensures.1, same) (withdrawal_asked _ _ _ (sym (rw same at c.in_err-c.ensures)))

pub returns : goal.returns
returns c =
    let same = c.in-Some.ensures.cases.same in
    rw (c.mark_withdrawn.ensures, same) (withdrawal_asked _ _ _ (sym (rw same at c.in_ok-c.ensures)))
