-- The invariant: some permissions are read, and their ITS-AIDs are kept. Assumes nothing.
use mathlib.Core.Path.{◌≡◌}
use mathlib.Core.List.{List, map}
use Rattle.octets.specs.Numbers.{intx_at}
use Rattle.octets.proofs.Turns.{Reading}
use Rattle.attributes.specs.Permissions.{unused, permission_at}
use Rattle.attributes.specs.declared.permissions.Permission.{Permission}
use Rattle.entries.specs.Stored.{aid_of}
use Rattle.entries.proofs.aids_in.Given as goal

abbrev pub invariant-loop-count : goal.invariant-loop-count
invariant-loop-count l =
    (read : List Permission) × Reading (permission_at l.ssp) intx_at 16 unused l.s l.start read l.count l.at × (l.values ≡ map aid_of read)
