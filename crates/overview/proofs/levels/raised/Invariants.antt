-- the set has the slots from i on
use Rattle.std.proofs.Common.{◌≡◌, get_or, ◌-◌}
use Rattle.slot_lists.specs.Computed.{bits_from}
use Rattle.overview.specs.Computed.{leads_to}
use Rattle.overview.specs.declared.links.Link.TheVariants.{NoWay}
use Rattle.overview.proofs.levels.raised.Given as goal

abbrev pub invariant-loop-i : goal.invariant-loop-i
invariant-loop-i l = l.next ≡ bits_from (λ k. leads_to l.set (get_or l.links k NoWay)) l.i (64 - l.i)
