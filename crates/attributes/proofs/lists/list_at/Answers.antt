use Rattle.std.proofs.Common.{sym}
use lib.Seq.{length-take-le}
use Rattle.octets.proofs.Inside.{span_inside}
use Rattle.attributes.proofs.lists.list_at.Goals as goal

pub slice_bounds-check_permissions-end : goal.slice_bounds-check_permissions-end
slice_bounds-check_permissions-end c = sym (length-take-le _ _ (span_inside _ _ _ _ (sym c.in_ok-start.ensures)).1)
