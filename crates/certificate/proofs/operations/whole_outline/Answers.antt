use Rattle.certificate.proofs.Inside.{whole_ends}
use Rattle.certificate.proofs.operations.whole_outline.Goals as goal

pub returns : goal.returns
returns c = whole_ends _ _ _ c.if-s-gt1024.false c.if-next-s.false c.in_ok-outline.ensures
