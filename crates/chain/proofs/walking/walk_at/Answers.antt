use Rattle.std.proofs.Common.{◌∙◌}
use Rattle.chain.proofs.Walked.{step_led, step_walked}
use Rattle.chain.proofs.walking.walk_at.Goals as goal

pub walk_on-requires : goal.walk_on-requires
walk_on-requires c = step_led _ _ _ _ _ _ _ c.step_at-first.ensures

pub returns : goal.returns
returns c = c.walk_on.ensures ∙ step_walked _ _ _ _ _ _ _ c.step_at-first.ensures
