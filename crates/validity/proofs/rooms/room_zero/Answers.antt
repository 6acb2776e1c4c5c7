-- Eight octets a turn. Assumes nothing.
use Prim.Native.Nat.{ℕ, ◌+◌, ◌-◌, ◌*◌, ◌/◌}
use mathlib.Core.Path.{◌≡◌, sym, ap, ap₂, ◌∙◌}
use mathlib.Core.Bool.{Bool, ◌&&◌}
use mathlib.Core.List.{List}
use native.Mathlib.Omega.{arith}
use lib.Bits.{bit_and}
use lib.Dec.{eqb}
use lib.ListN.{length}
use Rattle.bitfields.specs.Words.{word_at}
use Rattle.bitfields.specs.Zero.{zero_bits}
use Rattle.bitfields.proofs.Zero.{zero_none}
use Rattle.validity.specs.Masks.{widest, row_length, mask_rows, skip_of}
use Rattle.validity.proofs.Unused.{masks_long, first_is, skip_is, skip_below, room_more}
use Rattle.validity.proofs.rooms.room_zero.Goals as goal

pub loop-word-init : goal.loop-word-init
loop-word-init c =
    let a = c.args in
    let from : ℕ = a.first * 8 + skip_of a.row in
    let z : (a.at + 0) * 8 - from ≡ 0 = omega arith in
    sym (zero_none a.s.now from) ∙ ap (zero_bits a.s.now from) (sym z)

pub window-requires-in-loop-word : goal.window-requires-in-loop-word
window-requires-in-loop-word c = omega (arith, ap length c.args.masks.now.right ∙ masks_long)

pub loop-word-preserved : goal.loop-word-preserved
loop-word-preserved c =
    let a = c.args in
    let i : ℕ = 8 * c.loop-word.word in
    let from : ℕ = a.first * 8 + skip_of a.row in
    let f : a.first ≡ from / 8 = first_is a.first a.row in
    let b : ℕ = a.row * row_length + widest - (a.first - a.at) + i in
    let next : i + 8 ≡ 8 * (c.loop-word.word + 1) = omega arith in
    ap (λ (z : Bool). z && eqb (bit_and c.window.result c.window-in-loop-word.result) 0) c.loop-word.invariant
    ∙ ap₂ (λ (x y : ℕ). zero_bits a.s.now from ((a.at + i) * 8 - from) && eqb (bit_and x y) 0) c.window.ensures (c.window-in-loop-word.ensures ∙ ap (λ (m : List ℕ). word_at m b) a.masks.now.right)
    ∙ ap (λ (n : ℕ). zero_bits a.s.now from ((a.at + i) * 8 - from) && eqb (bit_and (word_at a.s.now (a.at + i)) (word_at mask_rows (a.row * row_length + widest - (n - a.at) + i))) 0) f
    ∙ room_more a.s.now a.at a.row from i (λ j. omega (arith, c.type_inv.s j)) (omega arith) (skip_is a.first a.row) (omega arith) (skip_below a.first a.at a.row (omega arith)) (omega arith) (omega arith)
    ∙ ap (λ (n : ℕ). zero_bits a.s.now from ((a.at + n) * 8 - from)) next

pub returns : goal.returns
returns c =
    let a = c.args in
    let e : 8 * c.loop-word.word ≡ a.count = omega arith in
    c.loop-word.invariant ∙ ap (λ (n : ℕ). zero_bits a.s.now (a.first * 8 + skip_of a.row) ((a.at + n) * 8 - (a.first * 8 + skip_of a.row))) e
