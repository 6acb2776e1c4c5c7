-- the links of the slots below i are there
use Rattle.std.proofs.Common.{◌≡◌, ℕ, ◌<◌, length}
use lib.ListN.{get_or}
use Rattle.overview.specs.Computed.{link_at}
use Rattle.overview.specs.declared.links.Link.TheVariants.{NoWay}
use Rattle.overview.proofs.links.write_links.Given as goal

abbrev pub invariant-loop-i : goal.invariant-loop-i
invariant-loop-i l = (length l.links ≡ 64) × ((k : ℕ) → k < l.i → get_or l.links k NoWay ≡ link_at l.store l.second k)
