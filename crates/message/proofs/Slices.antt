-- What the bounds of a vector's content need. Assumes nothing.
use Rattle.octets.proofs.Inside.{span_inside}
use lib.Seq.{length-take-le}

pub ruleset sliced = (span_inside, length-take-le)
