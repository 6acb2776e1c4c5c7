-- What the slots so far say. Assumes nothing.
use mathlib.Core.Path.{◌≡◌, sym, ap, ap₂, ◌∙◌}
use mathlib.Core.Bool.{Bool, ◌||◌}
use Prim.Native.Nat.{ℕ, ◌-◌}
use native.Mathlib.Omega.{arith}
use lib.Dec.{eqb}
use Rattle.store.proofs.Eight.{some_from, some_none, some_more, all_eight}
use Rattle.store.proofs.search.some_of_eight.Goals as goal

pub loop-i-init : goal.loop-i-init
loop-i-init c = sym (some_none c.args.store.now c.args.id c.args.first)

pub loop-i-preserved : goal.loop-i-preserved
loop-i-preserved c =
    let e = rw c.at.ensures at c.id_at.ensures in
    ap₂ (λ (b : Bool) (n : ℕ). b || eqb n c.args.id) c.loop-i.invariant e
    ∙ sym (some_more c.args.store.now c.args.id c.args.first c.loop-i.i c.loop-i.auto.i)

pub returns : goal.returns
returns c =
    let e : c.loop-i.i - c.args.first ≡ 8 = omega (arith, c.loop-i.auto.i, c.loop-i.auto.i-end) in
    c.loop-i.invariant ∙ ap (some_from c.args.store.now c.args.id c.args.first) e ∙ all_eight c.args.store.now c.args.id c.args.first
