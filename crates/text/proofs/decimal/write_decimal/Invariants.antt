-- `text::decimal::write_decimal` meets its contract. The invariant: the digits behind start are found. Assumes nothing.
use Rattle.text.proofs.Decimals.{Found}
use Rattle.text.proofs.decimal.write_decimal.Given as goal

abbrev pub invariant-loop-rest : goal.invariant-loop-rest
invariant-loop-rest l = Found l.value l.rest l.start l.digits

abbrev pub decreases-loop-rest : goal.decreases-loop-rest
decreases-loop-rest l = l.rest
