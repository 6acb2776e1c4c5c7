use Rattle.validity.proofs.Laws.{filled_below}
use Rattle.withdrawal.proofs.Fallen.{fallen_set}
use Rattle.withdrawal.proofs.operations.draw.Goals as goal

pub returns : goal.returns
returns c =
    fallen_set _ _ _ c.fits-store c.requires.0 (filled_below _ _ c.told-store c.requires.1) c.requires.1 _ _ _ c.slot_set-set.ensures c.write_slots.ensures
