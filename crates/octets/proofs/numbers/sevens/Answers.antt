-- `octets::numbers::sevens` meets its contract: the shift loses no bit. Assumes nothing.
use native.Mathlib.Omega.{arith}
use Prim.Native.Nat.{◌*◌}
use native.Mathlib.Nat.{one-mul}
use mathlib.Core.Path.{◌∙◌}
use lib.Pow.{shl_exact}
use lib.Dec.{lit<}
use Rattle.octets.proofs.numbers.sevens.Goals as goal

pub returns : goal.returns
returns c = shl_exact 1 (7 * c.args.n) 64 (lit< tt) (omega arith) ∙ one-mul _
