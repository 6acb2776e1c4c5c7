-- after so many rounds the set has the slots from which a chain of at most as many certificates reaches a root
use Rattle.std.proofs.Common.{◌≡◌}
use Rattle.slot_lists.specs.Computed.{bits_from}
use Rattle.overview.specs.Computed.{reaches}
use Rattle.overview.proofs.levels.standing_set.Given as goal

abbrev pub invariant-loop : goal.invariant-loop
invariant-loop l = l.set ≡ bits_from (reaches l.store l.second l.counter) 0 64
