-- Octets, then words. Assumes nothing.
use Prim.Native.Nat.{ℕ}
use mathlib.Core.Path.{ap, ◌∙◌}
use mathlib.Core.Bool.{Bool, ◌&&◌}
use native.Mathlib.Omega.{arith}
use lib.Dec.{eqb}
use Rattle.validity.proofs.Parts.{empty_tests}
use Rattle.validity.proofs.slots.all_empty.Goals as goal

pub returns : goal.returns
returns c =
    let x : ℕ = c.window.result in
    let y : ℕ = c.window-2.result in
    let z : ℕ = c.window-3.result in
    ap (λ (t : Bool). t && eqb x 0 && eqb y 0 && eqb z 0) c.octets_zero.ensures
    ∙ empty_tests c.args.s.now x y z (λ i. omega (arith, c.fits-s i)) (omega arith) c.window.ensures c.window-2.ensures c.window-3.ensures
