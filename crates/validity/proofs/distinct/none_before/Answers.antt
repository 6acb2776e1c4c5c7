-- One slot a turn. Assumes nothing.
use Prim.Native.Nat.{ℕ}
use mathlib.Core.Path.{◌≡◌, sym, ap, ◌∙◌}
use mathlib.Core.Bool.{not, ◌&&◌}
use native.Mathlib.Omega.{arith}
use lib.Dec.{eqb}
use Rattle.validity.specs.Each.{each_below}
use Rattle.validity.specs.Valid.{differs}
use Rattle.validity.proofs.Each.{each_none, each_more, each_fails}
use Rattle.validity.proofs.distinct.none_before.Goals as goal
use Rattle.validity.proofs.distinct.none_before.Goals.{After-id_at}

-- what the test finds of slot j
judged : (c : After-id_at)
    → not (c.filled.result && eqb c.id_at.result c.args.id)
    ≡ differs c.args.store.now c.args.id c.loop-j.j
unfolding differs
judged c = rw (c.filled.ensures, c.id_at.ensures, c.at-other.ensures)

pub loop-j-init : goal.loop-j-init
loop-j-init c = each_none (differs c.args.store.now c.args.id)

pub returns-then-filled-id_at : goal.returns-then-filled-id_at
returns-then-filled-id_at c =
    let a = c.args in
    sym (each_fails (differs a.store.now a.id) c.loop-j.j a.slot (omega arith) (sym (judged (goal.at.returns-then-filled-id_at c).After-id_at) ∙ ap not c.if-filled-id_at.true))

pub loop-j-preserved : goal.loop-j-preserved
loop-j-preserved c =
    each_more (differs c.args.store.now c.args.id) c.loop-j.j c.loop-j.invariant (sym (judged (goal.at.loop-j-preserved c).After-id_at) ∙ ap not c.if-filled-id_at.false)

pub returns : goal.returns
returns c =
    let e : c.loop-j.j ≡ c.args.slot = omega arith in
    sym c.loop-j.invariant ∙ ap (λ (n : ℕ). each_below n (differs c.args.store.now c.args.id)) e
