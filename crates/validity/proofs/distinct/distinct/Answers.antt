-- One slot a turn, and one mark. Assumes nothing.
use Prim.Native.Nat.{ℕ}
use mathlib.Core.Path.{◌≡◌, sym, ap, ◌∙◌}
use mathlib.Core.Bool.{false}
use Rattle.validity.proofs.distinct.distinct.Goals.{else-marked-via-then-marked+else-not-fresh_at, else-marked-via-else-marked}
use mathlib.Core.List.{List}
use native.Mathlib.Omega.{arith}
use borrow.Author.Rules.{rules}
use lib.ListN.{get_or}
use Rattle.store.specs.Slots.{slot_count}
use Rattle.validity.specs.Each.{each_below}
use Rattle.validity.specs.Valid.{fresh}
use Rattle.validity.proofs.Each.{each_none, each_more, each_fails}
use Rattle.validity.proofs.Marks.{unmarked, marked_more}
use Rattle.validity.proofs.distinct.distinct.Goals as goal

pub loop-i-init : goal.loop-i-init
loop-i-init c = (search rules, each_none (fresh c.args.store.now), λ j h. let z : ⊥ = omega arith in absurd z)

pub returns-then-not-fresh_at : goal.returns-then-not-fresh_at
returns-then-not-fresh_at c =
    sym (each_fails (fresh c.args.store.now) c.loop-i.i slot_count (omega arith) (rw c.at-slot.ensures at (sym c.fresh_at.ensures ∙ c.if-not-fresh_at.true)))

pub loop-i-preserved : goal.loop-i-preserved
loop-i-preserved c =
    let l : List ℕ = c.args.store.now in
    let t = c.loop-i in
    let x = rw c.at-slot.ensures at c.mark_place-place.ensures.0 in (
      search rules,
      each_more (fresh l) t.i t.invariant.1
          (elim c.else-marked.branch [
            | else-marked-via-then-marked+else-not-fresh_at w ↦ rw c.at-slot.ensures at (sym w.fresh_at.ensures ∙ w.if-not-fresh_at.false)
            | else-marked-via-else-marked w ↦ unmarked l t.seen t.i t.invariant.2 (ap (λ (y : ℕ). get_or t.seen y false) (sym x) ∙ w.if-marked.false)
          ]),
      marked_more l t.seen t.i c.mark_place-place.result x (omega (arith, c.mark_place-place.ensures.1)) t.invariant.2,
    )

pub returns : goal.returns
returns c =
    let e : c.loop-i.i ≡ slot_count = omega arith in
    sym c.loop-i.invariant.1 ∙ ap (λ (n : ℕ). each_below n (fresh c.args.store.now)) e
