-- By the length, then the slots, then the ids. Assumes nothing.
use mathlib.Core.Path.{◌≡◌, ap, ◌∙◌}
use lib.ListN.{length}
use borrow.Author.Tests.{eq-eqb, ne_eqb}
use Rattle.store.specs.Slots.{store_length}
use Rattle.validity.specs.Valid.{valid_store}
use Rattle.validity.proofs.valid.Goals as goal

pub returns-in_default : goal.returns-in_default
unfolding valid_store
returns-in_default c = rw (ne_eqb (length c.args.store.now) store_length c.in_default.ensures.1)

pub returns-then-slots_good : goal.returns-then-slots_good
unfolding valid_store
returns-then-slots_good c =
    let chunk = c.in-Ok.ensures.1 in
    let long : length c.in-Ok.store.now ≡ store_length = ap length chunk.same ∙ chunk.long in
    rw (← chunk.same, eq-eqb _ store_length long, ← c.slots_good.ensures, c.if-slots_good.true, c.distinct.ensures)

pub returns-else-slots_good : goal.returns-else-slots_good
unfolding valid_store
returns-else-slots_good c =
    let chunk = c.in-Ok.ensures.1 in
    let long : length c.in-Ok.store.now ≡ store_length = ap length chunk.same ∙ chunk.long in
    rw (← chunk.same, eq-eqb _ store_length long, ← c.slots_good.ensures, c.if-slots_good.false)
