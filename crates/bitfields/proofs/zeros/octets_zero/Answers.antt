-- `bitfields::zeros::octets_zero` meets its contract. Assumes nothing.
use Rattle.std.proofs.Common.{◌∙◌, sym, ap, arith, ◌-◌, ◌*◌}
use mathlib.Core.Bool.{Bool, ◌&&◌}
use lib.ListN.{get_or, take, drop}
use lib.Dec.{eqb}
use Rattle.bitfields.proofs.Zero.{zero_none, zero_more}
use Rattle.bitfields.proofs.zeros.octets_zero.Goals as goal

pub loop-octet-init : goal.loop-octet-init
loop-octet-init c = sym (zero_none c.args.s.now (c.args.from * 8))

pub loop-octet-preserved : goal.loop-octet-preserved
loop-octet-preserved c =
    let a = c.args in
    let i = c.loop-octet.octet-index in
    ap (λ (t : Bool). t && eqb (get_or (take (a.to - a.from) (drop a.from a.s.now)) i 0) 0) c.loop-octet.invariant
    ∙ zero_more a.s.now a.from (a.to - a.from) i (λ j. omega (arith, c.type_inv.s j)) (omega arith) (omega arith)
