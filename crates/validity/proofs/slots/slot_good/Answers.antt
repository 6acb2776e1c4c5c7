-- By the state. Assumes nothing.
use mathlib.Core.Path.{refl, ◌∙◌}
use native.Mathlib.Omega.{arith}
use borrow.Author.Tests.{eq-eqb, ne_eqb}
use Rattle.store.specs.Slots.{EMPTY}
use Rattle.validity.specs.Good.{NO_STATE}
use Rattle.validity.proofs.Parts.{slot_tests}
use Rattle.validity.proofs.slots.slot_good.Goals as goal

pub returns-then-state-eq-EMPTY_STATE : goal.returns-then-state-eq-EMPTY_STATE
returns-then-state-eq-EMPTY_STATE c =
    let g = c.get_in-state in
    c.all_empty.ensures ∙ slot_tests c.args.s.now g.result g.ensures (eq-eqb g.result EMPTY (omega arith)) refl

pub returns-then-state-eq-NO_STATE : goal.returns-then-state-eq-NO_STATE
returns-then-state-eq-NO_STATE c =
    let g = c.get_in-state in
    slot_tests c.args.s.now g.result g.ensures (ne_eqb g.result EMPTY c.if-state-eq-EMPTY_STATE.false) (eq-eqb g.result NO_STATE (omega arith))

pub returns : goal.returns
returns c =
    let g = c.get_in-state in
    c.record_good.ensures
    ∙ slot_tests c.args.s.now g.result g.ensures (ne_eqb g.result EMPTY c.if-state-eq-EMPTY_STATE.false) (ne_eqb g.result NO_STATE c.if-state-eq-NO_STATE.false)
