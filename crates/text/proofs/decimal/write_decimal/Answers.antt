-- `text::decimal::write_decimal` meets its contract. Assumes nothing.
use Rattle.text.proofs.Decimals.{found_room, found_more}
use native.Mathlib.Omega.{arith}
use Rattle.text.proofs.decimal.write_decimal.Goals as goal

pub loop-rest-preserved : goal.loop-rest-preserved
loop-rest-preserved c = found_more c.loop-rest.invariant (omega arith) (found_room c.loop-rest.invariant (omega arith) (omega arith))
