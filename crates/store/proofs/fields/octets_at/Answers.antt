-- All of the slot's octets. Assumes nothing.
use mathlib.Core.Path.{◌≡◌}
use Prim.Native.Nat.{◌+◌, ◌-◌, ◌*◌}
use native.Mathlib.Omega.{arith}
use Rattle.records.specs.Layout.{slot_length}
use Rattle.store.proofs.fields.octets_at.Goals as goal

pub returns : goal.returns
returns c =
    let whole = rw c.unwrap.ensures at c.as_array.ensures.cases in
    let e : c.args.slot * slot_length + slot_length - c.args.slot * slot_length ≡ slot_length = omega arith in
    rw (whole.same, c.index-at.ensures.0, e)
