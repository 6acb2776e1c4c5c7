-- A word of the store. Assumes nothing.
use native.Mathlib.Omega.{arith}
use Rattle.store.proofs.Places.{issuer_word}
use Rattle.store.proofs.fields.issuer_at.Goals as goal

pub returns : goal.returns
returns c = rw (c.window.ensures, c.index.ensures.0) (issuer_word _ _ c.fits-store c.told-store (omega arith))
