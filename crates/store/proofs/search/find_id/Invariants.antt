-- Eight slots a turn, or one by one: what is left to search holds the answer. Assumes nothing.
use Prim.Native.Nat.{◌-◌, ◌*◌}
use mathlib.Core.Path.{◌≡◌}
use Rattle.store.specs.Search.{has_id, lowest_from, find}
use Rattle.store.proofs.search.find_id.Given as goal

abbrev pub invariant-loop-i : goal.invariant-loop-i
invariant-loop-i l = lowest_from (has_id l.store l.id) l.i (64 - l.i) ≡ find l.store l.id

abbrev pub invariant-loop-eight : goal.invariant-loop-eight
invariant-loop-eight l = lowest_from (has_id l.store l.id) (8 * l.eight) (64 - 8 * l.eight) ≡ find l.store l.id
