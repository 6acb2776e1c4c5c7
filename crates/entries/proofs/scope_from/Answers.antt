-- What a scope takes from s stands there. Assumes nothing.
use mathlib.Core.Path.{sym}
use lib.Seq.{length-take-le}
use Rattle.attributes.proofs.Filled.{list_given}
use Rattle.certificate.proofs.Filled.{stands}
use Rattle.entries.proofs.Facts.{outlined_facts}
use Rattle.entries.proofs.scope_from.Goals as goal

pub restrictions_of-restrictions-requires : goal.restrictions_of-restrictions-requires
restrictions_of-restrictions-requires c = (stands _ _ c.requires).2

pub unwrap-list-requires : goal.unwrap-list-requires
unwrap-list-requires c = list_given _ _ _ (outlined_facts _ _ c.type_inv.s c.requires).permissions_given

pub slice_bounds-aids_in-end : goal.slice_bounds-aids_in-end
slice_bounds-aids_in-end c = let h = rw c.unwrap-list.ensures at (stands _ _ c.requires).1 in sym (length-take-le _ _ h.0)

pub aids_in-permissions-requires : goal.aids_in-permissions-requires
aids_in-permissions-requires c = (rw c.unwrap-list.ensures at (stands _ _ c.requires).1).1

pub unwrap-period-requires : goal.unwrap-period-requires
unwrap-period-requires c = rw c.restrictions_of-restrictions.ensures (outlined_facts _ _ c.type_inv.s c.requires).period_given
