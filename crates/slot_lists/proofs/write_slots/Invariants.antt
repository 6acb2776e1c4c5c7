-- The invariant is `Writing`: what is written, with what the rest of the set holds, is the whole set's list. Assumes nothing.
use Rattle.slot_lists.proofs.Writes.{Writing}
use Rattle.slot_lists.proofs.write_slots.Given as goal

abbrev pub invariant-loop-slot : goal.invariant-loop-slot
invariant-loop-slot l = Writing l.set l.initial.lent l.lent l.rest l.k l.slot
