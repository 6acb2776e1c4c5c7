-- One slot a turn. Assumes nothing.
use mathlib.Core.Path.{◌≡◌, sym, ap, ◌∙◌}
use Prim.Native.Nat.{ℕ}
use native.Mathlib.Omega.{arith}
use Rattle.store.specs.Slots.{slot_count}
use Rattle.validity.specs.Each.{each_below}
use Rattle.validity.specs.Valid.{slot_good}
use Rattle.validity.proofs.Each.{each_none, each_more, each_fails}
use Rattle.validity.proofs.slots_good.Goals.{After-slot_good}
use Rattle.validity.proofs.slots_good.Goals as goal

-- what is found of slot i
judged : (c : After-slot_good) → c.slot_good.result ≡ slot_good c.args.store.now c.loop-i.i
unfolding slot_good
judged c = rw (c.slot_good.ensures, c.octets_at.ensures, c.at.ensures)

pub loop-i-init : goal.loop-i-init
loop-i-init c = each_none (slot_good c.args.store.now)

pub returns-then-not-slot_good : goal.returns-then-not-slot_good
returns-then-not-slot_good c =
    sym (each_fails (slot_good c.args.store.now) c.loop-i.i slot_count (omega arith) (sym (judged (goal.at.returns-then-not-slot_good c).After-slot_good) ∙ c.if-not-slot_good.true))

pub loop-i-preserved : goal.loop-i-preserved
loop-i-preserved c =
    each_more (slot_good c.args.store.now) c.loop-i.i c.loop-i.invariant (sym (judged (goal.at.loop-i-preserved c).After-slot_good) ∙ c.if-not-slot_good.false)

pub returns : goal.returns
returns c =
    let e : c.loop-i.i ≡ slot_count = omega arith in
    sym c.loop-i.invariant ∙ ap (λ (n : ℕ). each_below n (slot_good c.args.store.now)) e
