-- The invariant is `Reading`; what can be read has room and is not refused. Assumes nothing.
use Rattle.attributes.specs.Permissions.{unused, permission_at}
use Rattle.octets.proofs.Turns.{Reading}
use Rattle.octets.specs.Numbers.{intx_at}
use Rattle.attributes.proofs.lists.permissions_in.Given as goal

abbrev pub invariant-loop-count : goal.invariant-loop-count
invariant-loop-count l = Reading (permission_at l.ssp) intx_at 16 unused l.s l.start l.values l.count l.at
