-- The slot that the id finds. Assumes nothing.
use mathlib.Core.Path.{sym, ap, ◌∙◌}
use Rattle.store.proofs.Found.{find_finds, found_again, withdrawn_absent}
use Rattle.store.specs.Withdrawn.{withdrawn_in}
use Rattle.store.proofs.withdrawals.withdrawn_id.Goals as goal

pub withdrawn-requires : goal.withdrawn-requires
withdrawn-requires c = found_again _ _ _ (sym c.find_id.ensures ∙ c.in-Some.is)

pub returns-in-None : goal.returns-in-None
returns-in-None c = sym (withdrawn_absent _ _ (sym c.find_id.ensures ∙ c.in-None.is))

pub returns-in-Some : goal.returns-in-Some
returns-in-Some c = c.withdrawn.ensures ∙ ap (withdrawn_in _) (find_finds _ _ _ (sym c.find_id.ensures ∙ c.in-Some.is)).2
