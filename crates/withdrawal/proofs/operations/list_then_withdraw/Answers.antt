use Rattle.withdrawal.proofs.Demand.{kept3}
use Rattle.withdrawal.proofs.operations.list_then_withdraw.Goals as goal

pub returns : goal.returns
returns c =
    let drawn = c.list-page.ensures in
    let done = c.withdraw-withdrew.ensures in
    (drawn, done, kept3 _ _ _ _ _ _ drawn done)
