-- Eight slots a turn, or one by one: what is left to search holds the answer. Assumes nothing.
use Prim.Native.Nat.{ℕ, ◌+◌, ◌*◌}
use mathlib.Core.Path.{◌≡◌, refl, sym, ◌∙◌}
use Rattle.store.proofs.search.find_id.Goals.{then-some_of_eight+else-loop-i-test, else-some_of_eight}
use native.Mathlib.Omega.{arith}
use Rattle.store.specs.Search.{has_id, find}
use Rattle.store.proofs.Lowest.{lowest_here, lowest_more, lowest_end}
use Rattle.store.proofs.Eight.{skip_eight}
use Rattle.store.proofs.search.find_id.Goals as goal

pub loop-eight-init : goal.loop-eight-init
unfolding find
loop-eight-init c = refl

pub returns-then-has_id : goal.returns-then-has_id
returns-then-has_id c =
    let e = rw c.at-slot.ensures at c.has_id.ensures in
    rw c.at-slot.ensures (lowest_here (has_id c.args.store.now c.args.id) _ 64 (omega arith) (sym e ∙ c.if-has_id.true) ∙ c.loop-i.invariant)

pub loop-i-preserved : goal.loop-i-preserved
loop-i-preserved c =
    let e = rw c.at-slot.ensures at c.has_id.ensures in
    sym (lowest_more (has_id c.args.store.now c.args.id) c.loop-i.i 64 (omega arith) (sym e ∙ c.if-has_id.false)) ∙ c.loop-i.invariant

pub loop-eight-preserved : goal.loop-eight-preserved
loop-eight-preserved c =
    let first : ℕ = 8 * c.loop-eight.eight in
    let next : 8 * (c.loop-eight.eight + 1) ≡ first + 8 = omega arith in
    rw next (elim c.if-some_of_eight.branch [
      | then-some_of_eight+else-loop-i-test w ↦
          let e : w.loop-i.i ≡ first + 8 = omega (arith, w.loop-i.auto.i-end, w.loop-i-test.false) in
          rw e at w.loop-i.invariant
      | else-some_of_eight w ↦
          sym (skip_eight c.args.store.now c.args.id first (omega arith) (sym c.some_of_eight.ensures ∙ w.if-some_of_eight.false)) ∙ c.loop-eight.invariant
    ])

pub returns : goal.returns
returns c = sym (lowest_end (has_id c.args.store.now c.args.id) (8 * c.loop-eight.eight) 64 (omega arith)) ∙ c.loop-eight.invariant
