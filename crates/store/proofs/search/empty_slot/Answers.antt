-- What is left to search holds the answer. Assumes nothing.
use mathlib.Core.Path.{refl, sym, ap, ◌∙◌}
use mathlib.Core.Bool.{not}
use native.Mathlib.Omega.{arith}
use Rattle.store.specs.Slots.{filled_at}
use Rattle.store.specs.Search.{lowest_empty}
use Rattle.store.proofs.Lowest.{lowest_here, lowest_more, lowest_end}
use Rattle.store.proofs.search.empty_slot.Goals as goal

pub loop-i-init : goal.loop-i-init
unfolding lowest_empty
loop-i-init c = refl

pub returns-then-not-filled : goal.returns-then-not-filled
returns-then-not-filled c =
    let e = rw c.at-slot.ensures at c.filled.ensures in
    rw c.at-slot.ensures (lowest_here (λ j. not (filled_at c.args.store.now j)) _ 64 (omega arith) (ap not (sym e ∙ c.if-not-filled.true)) ∙ c.loop-i.invariant)

pub loop-i-preserved : goal.loop-i-preserved
loop-i-preserved c =
    let e = rw c.at-slot.ensures at c.filled.ensures in
    sym (lowest_more (λ j. not (filled_at c.args.store.now j)) c.loop-i.i 64 (omega arith) (ap not (sym e ∙ c.if-not-filled.false))) ∙ c.loop-i.invariant

pub returns : goal.returns
returns c = sym (lowest_end (λ j. not (filled_at c.args.store.now j)) c.loop-i.i 64 (omega arith)) ∙ c.loop-i.invariant
