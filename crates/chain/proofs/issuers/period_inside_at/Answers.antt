use Rattle.records.specs.Records.{scope_of}
use Rattle.chain.proofs.issuers.period_inside_at.Goals as goal

pub returns : goal.returns
unfolding scope_of
returns c = simp (c.start_at.ensures, c.start_at-2.ensures, c.end_at.ensures, c.end_at-2.ensures)
