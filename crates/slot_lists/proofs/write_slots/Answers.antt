-- The invariant is `Writing`: what is written, with what the rest of the set holds, is the whole set's list. Assumes nothing.
use Rattle.slot_lists.proofs.write_slots.Goals.{then-rest-eq1, else-rest-eq1}
use native.Mathlib.Omega.{arith}
use Rattle.slot_lists.proofs.Writes.{pass, put, done, all_passed, none_left}
use Rattle.slot_lists.proofs.write_slots.Goals as goal

pub returns-then-rest-eq0 : goal.returns-then-rest-eq0
returns-then-rest-eq0 c = done _ _ _ _ _ _ c.loop-slot.invariant (none_left _ _ c.if-rest-eq0.true) c.requires

pub loop-slot-preserved : goal.loop-slot-preserved
loop-slot-preserved c =
    elim c.if-rest-eq1.branch [
      | then-rest-eq1 w ↦ rw (w.lent-is, w.k-is) (put _ _ _ _ _ _ c.loop-slot.invariant (omega arith) c.requires w.if-rest-eq1.true)
      | else-rest-eq1 w ↦ rw (w.lent-is, w.k-is) (pass _ _ _ _ _ _ c.loop-slot.invariant (omega arith) w.if-rest-eq1.false)
    ]

pub returns : goal.returns
returns c = done _ _ _ _ _ _ c.loop-slot.invariant (all_passed _ _ (omega arith)) c.requires
