-- Row by row. Assumes nothing.
use Rattle.validity.specs.Masks.{mask_rows}
use Rattle.validity.proofs.rooms.masks.Goals as goal

pub invariant_of-result : goal.invariant_of-result
unfolding mask_rows
invariant_of-result c = record { right = rw (c.put_row-4.ensures, c.put_row-3.ensures, c.put_row-2.ensures, c.put_row.ensures) }
