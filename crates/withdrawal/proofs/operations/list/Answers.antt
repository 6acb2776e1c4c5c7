use Rattle.std.proofs.Common.{◌∙◌, sym, arith}
use Rattle.octets.proofs.Outcomes.{passed_on}
use Rattle.store.proofs.Found.{find_finds}
use Rattle.withdrawal.proofs.Asked.{asked_short, asked_held, page_short, page_asked, page_refused}
use Rattle.withdrawal.proofs.operations.list.Goals as goal

pub returns-then-lent-lt-SLOTS : goal.returns-then-lent-lt-SLOTS
returns-then-lent-lt-SLOTS c = page_short _ _ _ _ (omega arith)

pub returns-in_default : goal.returns-in_default
returns-in_default c = page_refused _ _ _ _ _ (omega arith) (sym (asked_short _ _ c.in_default.ensures.cases))

pub returns-in_err-c : goal.returns-in_err-c
returns-in_err-c c =
    let same = c.in-Some.ensures.cases.same in
    rw (passed_on c.from_residual.result _ c.from_residual.ensures.1) (page_refused _ _ _ _ _ (omega arith) (sym (rw same at c.in_err-c.ensures)))

pub draw-requires : goal.draw-requires
draw-requires c =
    let h = asked_held _ _ _ (sym c.in_ok-c.ensures) in
    (h.good, (find_finds _ _ _ h.found).1, omega arith)

pub returns : goal.returns
returns c =
    let same = c.in-Some.ensures.cases.same in
    (rw (same, c.from.ensures) at c.draw.ensures) ∙ page_asked _ _ _ _ _ (omega arith) (sym (rw same at c.in_ok-c.ensures))
