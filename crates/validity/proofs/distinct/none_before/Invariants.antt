-- One slot a turn. Assumes nothing.
use mathlib.Core.Path.{◌≡◌}
use mathlib.Core.Bool.{true}
use Rattle.validity.specs.Each.{each_below}
use Rattle.validity.specs.Valid.{differs}
use Rattle.validity.proofs.distinct.none_before.Given as goal

abbrev pub invariant-loop-j : goal.invariant-loop-j
invariant-loop-j l = each_below l.j (differs l.store l.id) ≡ true
