-- By whether a filled slot before it has the id. Assumes nothing.
use mathlib.Core.Path.{sym}
use Rattle.validity.specs.Valid.{fresh}
use Rattle.std.proofs.Math.Bool.{or-true, or-false}
use Rattle.validity.proofs.distinct.fresh_at.Goals as goal

pub returns-then-none_before : goal.returns-then-none_before
unfolding fresh
returns-then-none_before c =
    let e = rw c.id_at.ensures at c.none_before.ensures in
    rw (← e, c.if-none_before.true) (sym (or-true _))

pub returns-else-none_before : goal.returns-else-none_before
unfolding fresh
returns-else-none_before c =
    let e = rw c.id_at.ensures at c.none_before.ensures in
    rw (← e, c.if-none_before.false, c.filled.ensures) (sym (or-false _))
