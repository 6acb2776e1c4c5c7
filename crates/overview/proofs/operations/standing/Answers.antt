use Rattle.std.proofs.Common.{◌∙◌, sym, arith}
use Rattle.overview.proofs.Tests.{look_set}
use Rattle.overview.proofs.operations.standing.Goals as goal

pub returns : goal.returns
returns c =
    let cases = c.in-Some.ensures.cases in
    let same = cases.same in
    look_set _ _ _ (omega arith) cases.long (rw same at (sym c.valid.ensures ∙ c.if-not-valid.false)) _ _
    (rw (same, c.from.ensures) at c.standing_set-set.ensures) c.write_slots.ensures
