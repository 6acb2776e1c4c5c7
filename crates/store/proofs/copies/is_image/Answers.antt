-- Arrays are compared octet by octet. Assumes nothing.
use Rattle.store.proofs.Copied.{pointwise_same}
use Rattle.store.proofs.copies.is_image.Goals as goal

pub returns : goal.returns
returns c = rw (c.eq.ensures, c.octets_at.ensures) (pointwise_same _ _)
