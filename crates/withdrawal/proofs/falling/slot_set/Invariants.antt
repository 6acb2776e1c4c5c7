-- the set has the slots below i
use Rattle.std.proofs.Common.{◌≡◌}
use Rattle.slot_lists.specs.Computed.{bits_from}
use Rattle.withdrawal.specs.Computed.{falls_with}
use Rattle.withdrawal.proofs.falling.slot_set.Given as goal

abbrev pub invariant-loop-i : goal.invariant-loop-i
invariant-loop-i l = l.set ≡ bits_from (falls_with l.store l.second l.c) 0 l.i
