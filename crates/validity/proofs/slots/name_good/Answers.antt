-- By the length. Assumes nothing.
use Prim.Native.Nat.{ℕ, ◌+◌, ◌-◌, ◌*◌, ◌/◌, ◌%◌, ◌^◌}
use mathlib.Core.Path.{◌≡◌, refl, sym, ap, ◌∙◌}
use mathlib.Core.Bool.{Bool, ◌&&◌, ◌||◌}
use mathlib.Core.List.{List}
use native.Mathlib.Omega.{arith}
use borrow.Author.Tests.{le-leb, lt-leb}
use lib.Dec.{eqb, ltb}
use lib.ListN.{get_or}
use Rattle.bitfields.specs.Zero.{zero_bits}
use Rattle.records.specs.Layout.{NAME, bit_at}
use Rattle.validity.specs.Good.{unused_zero}
use Rattle.validity.proofs.Parts.{end_octet, room_tests}
use Rattle.validity.proofs.slots.name_good.Goals as goal

pub returns-then-n-le-NAME_ROOM : goal.returns-then-n-le-NAME_ROOM
returns-then-n-le-NAME_ROOM c =
    let a = c.args in
    let l : List ℕ = a.s.now in
    let f : (NAME.bit / 8 + a.n) * 8 + NAME.bit % 8 ≡ bit_at NAME a.n = omega arith in
    ap (λ (z : Bool). z && (eqb a.n NAME.count || ltb (get_or l (end_octet NAME) 0) (2 ^ (8 - NAME.bit % 8)))) (c.room_zero.ensures ∙ ap (λ (b : ℕ). zero_bits l b (end_octet NAME * 8 - b)) f)
    ∙ room_tests NAME l a.n (λ j. omega (arith, c.fits-s j)) (omega arith) refl (λ h. omega arith) (omega arith)
    ∙ sym (ap (λ (t : Bool). t && unused_zero l NAME a.n) (le-leb a.n NAME.count (omega arith)))

pub returns : goal.returns
returns c =
    let a = c.args in
    sym (ap (λ (t : Bool). t && unused_zero a.s.now NAME a.n) (lt-leb a.n NAME.count c.if-n-le-NAME_ROOM.false))
