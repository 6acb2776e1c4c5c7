-- What the slots so far say. Assumes nothing.
use Prim.Native.Nat.{◌-◌}
use mathlib.Core.Path.{◌≡◌}
use Rattle.store.proofs.Eight.{some_from}
use Rattle.store.proofs.search.some_of_eight.Given as goal

abbrev pub invariant-loop-i : goal.invariant-loop-i
invariant-loop-i l = l.some ≡ some_from l.store l.id l.first (l.i - l.first)
