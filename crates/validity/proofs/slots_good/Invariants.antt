-- One slot a turn. Assumes nothing.
use mathlib.Core.Path.{◌≡◌}
use mathlib.Core.Bool.{true}
use Rattle.validity.specs.Each.{each_below}
use Rattle.validity.specs.Valid.{slot_good}
use Rattle.validity.proofs.slots_good.Given as goal

abbrev pub invariant-loop-i : goal.invariant-loop-i
invariant-loop-i l = each_below l.i (slot_good l.store) ≡ true
