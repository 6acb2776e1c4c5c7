-- A field of the store. Assumes nothing.
use mathlib.Core.Path.{◌≡◌, sym}
use native.Mathlib.Omega.{arith}
use Rattle.bitfields.specs.Field.{field}
use Rattle.bitfields.proofs.Law.{field_lt}
use Rattle.store.specs.Slots.{slot_of}
use Rattle.store.proofs.Places.{slot_field}
use Rattle.store.proofs.fields.field_at.Goals as goal

pub returns : goal.returns
returns c =
    let a = c.args in
    let e : c.get_in.result ≡ field (slot_of a.store.now a.slot) a.bit a.width =
    rw (c.get_in.ensures, c.index-slot.ensures.0) (sym (slot_field _ _ _ _ c.fits-store c.told-store (omega arith) (omega arith))) in
    (e, rw e (field_lt (slot_of a.store.now a.slot) a.bit a.width))
