-- By the count. Assumes nothing.
use Prim.Native.Nat.{ℕ, ◌-◌}
use mathlib.Core.Path.{ap, ◌∙◌}
use mathlib.Core.List.{List}
use native.Mathlib.Omega.{arith}
use borrow.Author.Tests.{lt-leb}
use Rattle.bitfields.specs.Zero.{zero_bits}
use Rattle.records.specs.Layout.{PERMISSIONS, slot_bits}
use Rattle.validity.proofs.Parts.{permissions_first, permissions_tests, permissions_many}
use Rattle.validity.proofs.slots.permissions_good.Goals as goal

pub room_zero-requires : goal.room_zero-requires
room_zero-requires c = (omega arith, omega arith, omega arith, omega arith, omega arith, omega arith, omega arith)

pub returns-then-n-le-PERMISSION_ROOM : goal.returns-then-n-le-PERMISSION_ROOM
returns-then-n-le-PERMISSION_ROOM c =
    let g = c.get_in-n in
    let l : List ℕ = c.args.s.now in
    c.room_zero.ensures ∙ ap (λ (b : ℕ). zero_bits l b (slot_bits - b)) (permissions_first g.result) ∙ permissions_tests l g.result (omega arith) c.if-n-le-PERMISSION_ROOM.true g.ensures

pub returns : goal.returns
returns c =
    let g = c.get_in-n in
    permissions_many c.args.s.now g.result g.ensures (lt-leb g.result PERMISSIONS.count c.if-n-le-PERMISSION_ROOM.false)
