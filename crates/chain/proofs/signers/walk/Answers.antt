use Rattle.std.proofs.Common.{◌∙◌}
use Rattle.chain.proofs.Own.{none_also}
use Rattle.chain.proofs.signers.walk.Goals as goal

pub returns : goal.returns
returns c = (rw none_also at c.walk_on.ensures) ∙ c.first_step-first.ensures.1
