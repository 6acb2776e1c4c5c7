-- A field of the store. Assumes nothing.
use native.Mathlib.Omega.{arith}
use Rattle.store.proofs.Places.{permission_field}
use Rattle.store.proofs.fields.permission_at.Goals as goal

pub returns : goal.returns
returns c =
    rw (c.get32.ensures, c.index.ensures.0) (permission_field _ _ c.fits-store c.told-store (omega arith) _ c.requires)
