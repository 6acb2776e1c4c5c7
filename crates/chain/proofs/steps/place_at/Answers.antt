use Rattle.std.proofs.Common.{◌∙◌}
use Rattle.records.specs.Records.{scope_of}
use Rattle.chain.proofs.Own.{place_none, place_asked}
use Rattle.chain.proofs.steps.place_at.Goals as goal

pub returns-in-None : goal.returns-in-None
returns-in-None c = place_none _ _ c.in-None.is

pub returns-in-Some : goal.returns-in-Some
unfolding scope_of
returns-in-Some c = c.place_in.ensures ∙ place_asked _ _ _ _ c.in-Some.is c.region_at.ensures
