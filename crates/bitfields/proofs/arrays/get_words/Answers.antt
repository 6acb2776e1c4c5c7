-- `bitfields::arrays::get_words` meets its contract. Assumes nothing.
use Rattle.std.proofs.Common.{refl, length-set, arith}
use Rattle.bitfields.specs.Runs.{fields_of}
use Rattle.bitfields.proofs.Runs.{read_more}
use Rattle.bitfields.proofs.arrays.get_words.Goals as goal

pub loop-i-init : goal.loop-i-init
unfolding fields_of
loop-i-init c = (refl, refl)

pub loop-i-preserved : goal.loop-i-preserved
loop-i-preserved c =
    let t = c.loop-i in
    let a = c.args in
    (simp length-set t.invariant.0, read_more t.out a.s.now a.bit a.width t.i _ (omega arith) t.invariant.1 c.get32.ensures)
