-- `bitfields::reading::get_in` meets its contract. Assumes nothing.
use Prim.Native.Nat.{ℕ, ◌-◌, ◌+◌, ◌*◌}
use mathlib.Core.Path.{ap, ◌∙◌}
use native.Mathlib.Omega.{arith}
use Rattle.bitfields.specs.Field.{digits_at}
use Rattle.bitfields.proofs.Window.{word_field}
use Rattle.bitfields.proofs.Word.{shr_mask}
use Rattle.bitfields.proofs.reading.get_in.Goals as goal

pub returns : goal.returns
returns c =
    let a = c.args in
    let k : ℕ = a.first * 8 + 64 - (a.bit + a.width) in
    shr_mask c.window-word.result k a.width (omega arith)
    ∙ ap (λ (n : ℕ). digits_at n k a.width) c.window-word.ensures
    ∙ word_field a.s.now a.first a.bit a.width (λ i. omega (arith, c.type_inv.s i))
    (omega arith) (omega arith) (omega arith)
