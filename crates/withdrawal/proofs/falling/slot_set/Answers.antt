use Rattle.std.proofs.Common.{◌∙◌, refl, ap, arith}
use Rattle.slot_lists.specs.Computed.{bits_from}
use Rattle.slot_lists.proofs.SlotSets.{bits_lt, bits_joined}
use Rattle.withdrawal.specs.Computed.{falls_with}
use Rattle.withdrawal.proofs.falling.slot_set.Goals as goal

pub loop-i-init : goal.loop-i-init
unfolding bits_from
loop-i-init c = refl

pub joined-set-requires : goal.joined-set-requires
joined-set-requires c =
    let a = c.args in
    (omega arith, rw c.loop-i.invariant (bits_lt (falls_with a.store.now a.second a.c) 0 c.loop-i.i))

pub loop-i-preserved : goal.loop-i-preserved
loop-i-preserved c = let a = c.args in bits_joined _ _ _ _ _ c.loop-i.invariant (c.falls_at.ensures ∙ ap (falls_with a.store.now a.second a.c) c.at.ensures) c.joined-set.ensures
