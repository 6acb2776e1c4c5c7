use Rattle.std.proofs.Common.{rules, sym, subst}
use Rattle.std.specs.Io.KnownBytes.{Consumes}
use Rattle.std.proofs.KnownBytes.{Consumes-trans}
use Rattle.page.proofs.WholeInput.{read_behind}
use Rattle.page.proofs.read_input.Goals as goal

-- what this read gave stands behind what the reads before it gave
pub loop-n-preserved : goal.loop-n-preserved
loop-n-preserved g c =
    let read = c.read.ensures.bytes in
    let behind = read_behind c.loop-n.n c.in_ok-k.k c.loop-n.buffer c.read.new.buf _ c.loop-n.invariant.inside (search rules) in
    let both = Consumes-trans _ _ _ _ _ c.loop-n.invariant.octets (search rules) in
    record { inside = search rules; octets = subst (Consumes _ _) (sym behind) both }
