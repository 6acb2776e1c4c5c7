-- By the state. Assumes nothing.
use mathlib.Core.Path.{sym, ◌∙◌}
use native.Mathlib.Omega.{arith}
use Rattle.validity.specs.Marks.{mark_place}
use Rattle.validity.proofs.distinct.mark_place.Goals as goal

pub returns-then-filled : goal.returns-then-filled
unfolding mark_place
returns-then-filled c = (rw (c.id_at.ensures, sym c.filled.ensures ∙ c.if-filled.true), omega arith)

pub returns-else-filled : goal.returns-else-filled
unfolding mark_place
returns-else-filled c = (rw (c.index.ensures.0, sym c.filled.ensures ∙ c.if-filled.false), omega arith)
