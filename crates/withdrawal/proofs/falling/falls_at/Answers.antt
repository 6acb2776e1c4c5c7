use Rattle.std.proofs.Common.{◌≡◌, ◌∙◌, sym}
use Rattle.octets.specs.Outcomes.{answer_of}
use Rattle.octets.proofs.Outcomes.{accepted, not_accepted}
use Rattle.validity.proofs.Laws.{filled_found}
use Rattle.withdrawal.proofs.Fallen.{falls_empty, falls_not, falls_by}
use Rattle.withdrawal.proofs.falling.falls_at.Goals as goal

pub returns-then-not-filled : goal.returns-then-not-filled
returns-then-not-filled c = falls_empty _ _ _ _ (sym c.filled.ensures ∙ c.if-not-filled.true)

pub walk_at-requires : goal.walk_at-requires
walk_at-requires c = filled_found _ _ c.requires (sym c.filled.ensures ∙ c.if-not-filled.false)

pub returns-then-is_ok : goal.returns-then-is_ok
returns-then-is_ok c =
    falls_not _ _ _ _ (sym c.filled.ensures ∙ c.if-not-filled.false) (sym c.walk_at.ensures ∙ accepted _ (sym c.is_ok.ensures.value ∙ c.if-is_ok.true))

pub walk_at-requires-2 : goal.walk_at-requires-2
walk_at-requires-2 c = filled_found _ _ c.requires (sym c.filled.ensures ∙ c.if-not-filled.false)

pub returns : goal.returns
returns c =
    let filled = sym c.filled.ensures ∙ c.if-not-filled.false in
    let fell : ¬ (answer_of c.walk_at.result ≡ 0) = not_accepted _ (sym c.is_ok.ensures.value ∙ c.if-is_ok.false) in
    falls_by _ _ _ _ filled (λ e. fell (c.walk_at.ensures ∙ e)) _ c.walk_at-2.ensures _ c.is_ok-2.ensures.value
