-- What is left to search holds the answer. Assumes nothing.
use Prim.Native.Nat.{◌-◌}
use mathlib.Core.Path.{◌≡◌}
use mathlib.Core.Bool.{not}
use Rattle.store.specs.Slots.{filled_at}
use Rattle.store.specs.Search.{lowest_from, lowest_empty}
use Rattle.store.proofs.search.empty_slot.Given as goal

abbrev pub invariant-loop-i : goal.invariant-loop-i
invariant-loop-i l = lowest_from (λ j. not (filled_at l.store j)) l.i (64 - l.i) ≡ lowest_empty l.store
