use Rattle.std.proofs.Common.{◌≡◌, ◌∙◌, ap, refl, arith, Bool, true, false, ℕ, ◌+◌, ◌*◌, ◌<◌, ◌≤◌, ◌^◌}
use Rattle.slot_lists.specs.Computed.{bit, bits_from}
use Rattle.slot_lists.proofs.SlotSets.{bits_top, bits_down, bits_zero, bit_small}
use Rattle.overview.proofs.levels.raised.Goals as goal

-- a Bool as a number
as_bit : (b : Bool) → mir.Val.bool_byte b ≡ bit b
unfolding bit
as_bit true = refl
as_bit false = refl

pub loop-i-init : goal.loop-i-init
unfolding bits_from
loop-i-init c = refl

pub overflow_mul-next : goal.overflow_mul-next
overflow_mul-next c =
    let h : c.loop-i.next < 2 ^ 63 = bits_top _ _ _ (omega arith) (omega arith) c.loop-i.invariant in
    omega arith

pub overflow_add-next : goal.overflow_add-next
overflow_add-next c =
    let h : c.loop-i.next < 2 ^ 63 = bits_top _ _ _ (omega arith) (omega arith) c.loop-i.invariant in
    let b : c.from.result ≤ 1 = bit_small _ _ (c.from.ensures ∙ as_bit _) in
    omega arith

pub loop-i-preserved : goal.loop-i-preserved
loop-i-preserved c =
    ap (λ (n : ℕ). c.loop-i.next * 2 + n) (c.from.ensures ∙ as_bit _ ∙ ap bit c.leads.ensures)
    ∙ bits_down _ _ _ (omega arith) (omega arith) c.loop-i.invariant

pub returns : goal.returns
returns c = bits_zero _ _ _ (omega arith) c.loop-i.invariant
