-- The invariant: some permissions are read, and what is left to read decides. Assumes nothing.
use Rattle.attributes.specs.Permissions.{unused, permission_at}
use Rattle.attributes.specs.declared.permissions.Permission.{Permission}
use Rattle.octets.proofs.Turns.{Reading}
use Rattle.octets.specs.Numbers.{intx_at}
use mathlib.Core.List.{List}
use Rattle.attributes.proofs.lists.check_permissions.Given as goal

abbrev pub invariant-loop : goal.invariant-loop
invariant-loop l = (values : List Permission) × Reading (permission_at l.ssp) intx_at 16 unused l.s l.start values l.counter l.at
