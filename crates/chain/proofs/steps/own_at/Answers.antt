use Rattle.std.proofs.Common.{◌∙◌, sym, arith}
use Rattle.records.specs.Records.{scope_of}
use Rattle.chain.specs.Stored.{subject_at}
use Rattle.chain.proofs.Own.{own_gone, own_early, own_late, own_place, slot_gone, slot_other}
use Rattle.chain.proofs.steps.own_at.Goals as goal

pub returns-then-withdraws : goal.returns-then-withdraws
returns-then-withdraws c = own_gone _ _ _ _ (slot_gone _ _ _ c.requires (sym c.withdraws.ensures ∙ c.if-withdraws.true))

pub returns-then-withdrawn : goal.returns-then-withdrawn
returns-then-withdrawn c = own_gone _ _ _ _ (slot_other _ _ _ c.requires (sym c.withdraws.ensures ∙ c.if-withdraws.false) ∙ sym c.withdrawn.ensures ∙ c.if-withdrawn.true)

pub returns-then-asked-start_at : goal.returns-then-asked-start_at
unfolding subject_at scope_of
returns-then-asked-start_at c =
    own_early _ _ _ _ (slot_other _ _ _ c.requires (sym c.withdraws.ensures ∙ c.if-withdraws.false) ∙ sym c.withdrawn.ensures ∙ c.if-withdrawn.false) (omega (arith, c.if-asked-start_at.true, c.start_at.ensures))

pub returns-then-end_at-asked : goal.returns-then-end_at-asked
unfolding subject_at scope_of
returns-then-end_at-asked c =
    own_late _ _ _ _ (slot_other _ _ _ c.requires (sym c.withdraws.ensures ∙ c.if-withdraws.false) ∙ sym c.withdrawn.ensures ∙ c.if-withdrawn.false) (omega (arith, c.if-asked-start_at.false, c.start_at.ensures)) (omega (arith, c.if-end_at-asked.true, c.end_at.ensures))

pub returns : goal.returns
unfolding subject_at scope_of
returns c =
    c.place_at.ensures
    ∙ own_place _ _ _ _ (slot_other _ _ _ c.requires (sym c.withdraws.ensures ∙ c.if-withdraws.false) ∙ sym c.withdrawn.ensures ∙ c.if-withdrawn.false) (omega (arith, c.if-asked-start_at.false, c.start_at.ensures)) (omega (arith, c.if-end_at-asked.false, c.end_at.ensures))
