use Rattle.std.proofs.Common.{arith, sym, ap, ◌∙◌}
use Rattle.attributes.specs.Outlines.{attributes_from}
use Rattle.octets.specs.Reading.{kept}
use Rattle.octets.proofs.Forward.{forward_got}
use Rattle.certificate.proofs.Filled.{attributes_at_filled}
use Rattle.certificate.proofs.Forward.{head_forward, attributes_at_forward, restrictions_at_forward}
use Rattle.certificate.proofs.outlines.outline_at.Goals as goal

pub overflow_sub-outline : goal.overflow_sub-outline
overflow_sub-outline c =
    let h = forward_got _ _ _ _ (head_forward _ _) (sym c.in_ok-head.ensures) in
    let a = forward_got _ _ _ _ (attributes_at_forward _ _ _) (attributes_at_filled _ _ _ ∙ ap (kept (attributes_from _ _)) (sym c.in_ok-attributes.ensures)) in
    let r = forward_got _ _ _ _ (restrictions_at_forward _ _ _) (sym c.in_ok-restrictions.ensures) in
    omega (arith, h, a, r)
