-- One slot a turn, and one mark. Assumes nothing.
use mathlib.Core.Path.{◌≡◌}
use mathlib.Core.Bool.{true}
use lib.ListN.{length}
use Rattle.validity.specs.Each.{each_below}
use Rattle.validity.specs.Valid.{fresh}
use Rattle.validity.specs.Marks.{places}
use Rattle.validity.proofs.Marks.{Marked}
use Rattle.validity.proofs.distinct.distinct.Given as goal

abbrev pub invariant-loop-i : goal.invariant-loop-i
invariant-loop-i l = (length l.seen ≡ places) × (each_below l.i (fresh l.store) ≡ true) × Marked l.store l.seen l.i
