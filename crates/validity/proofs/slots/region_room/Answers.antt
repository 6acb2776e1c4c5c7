-- The octets, and the bits behind them. Assumes nothing.
use Prim.Native.Nat.{ℕ, ◌+◌, ◌-◌, ◌*◌, ◌/◌, ◌%◌, ◌^◌}
use mathlib.Core.Path.{◌≡◌, refl, ap, ◌∙◌}
use mathlib.Core.Bool.{Bool, ◌&&◌, ◌||◌}
use mathlib.Core.List.{List}
use native.Mathlib.Omega.{arith}
use lib.Dec.{eqb, ltb}
use lib.ListN.{get_or}
use Rattle.bitfields.specs.Zero.{zero_bits}
use Rattle.records.specs.Layout.{RECTANGLES, bit_at}
use Rattle.validity.proofs.Parts.{end_octet, room_tests}
use Rattle.validity.proofs.slots.region_room.Goals as goal

pub returns : goal.returns
returns c =
    let a = c.args in
    let l : List ℕ = a.s.now in
    let f : (RECTANGLES.bit / 8 + RECTANGLES.width / 8 * a.n) * 8 + RECTANGLES.bit % 8 ≡ bit_at RECTANGLES a.n = omega arith in
    ap (λ (z : Bool). z && (eqb a.n RECTANGLES.count || ltb (get_or l (end_octet RECTANGLES) 0) (2 ^ (8 - RECTANGLES.bit % 8)))) (c.room_zero.ensures ∙ ap (λ (b : ℕ). zero_bits l b (end_octet RECTANGLES * 8 - b)) f)
    ∙ room_tests RECTANGLES l a.n (λ j. omega (arith, c.fits-s j)) (omega arith) refl (λ h. omega arith) (omega arith)
