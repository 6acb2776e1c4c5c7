-- A word of the store. Assumes nothing.
use native.Mathlib.Omega.{arith}
use Rattle.store.proofs.Places.{id_word}
use Rattle.store.proofs.slots.id_at.Goals as goal

pub returns : goal.returns
returns c = rw (c.window.ensures, c.index.ensures.0) (id_word _ _ c.fits-store c.told-store (omega arith))
