use Rattle.std.proofs.Common.{◌≡◌, ◌∙◌, ap, arith, Ok, Some}
use Rattle.chain.specs.Computed.{up_of}
use Rattle.chain.proofs.Walked.{led, step_led, step_walked}
use Rattle.chain.proofs.walking.+walk_on.Goals as goal

pub walk_on-requires : goal.walk_on-requires
walk_on-requires t c =
    let on : c.args.up ≡ Ok (Some c.in-Some.issuer) = c.in_ok-up.was ∙ ap Ok c.in-Some.is in
    let lead = led _ _ _ _ (ap up_of on) c.requires in
    (omega (arith, lead.0), step_led _ _ _ _ _ _ _ c.step_at-next.ensures)

pub returns-in-Some : goal.returns-in-Some
returns-in-Some t c =
    let on : c.args.up ≡ Ok (Some c.in-Some.issuer) = c.in_ok-up.was ∙ ap Ok c.in-Some.is in
    c.walk_on.ensures ∙ step_walked _ _ _ _ _ _ _ c.step_at-next.ensures ∙ rw on
