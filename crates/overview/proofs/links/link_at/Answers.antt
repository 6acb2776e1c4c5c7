use Rattle.std.proofs.Common.{◌∙◌, sym, ap, ℕ}
use Rattle.order.specs.Steps.{gives, refused}
use Rattle.octets.proofs.Outcomes.{number_no_zero}
use Rattle.validity.proofs.Laws.{filled_found}
use Rattle.overview.specs.declared.links.Link.TheVariants.{To}
use Rattle.overview.proofs.Rounds.{link_empty, link_stepped, refused_on}
use Rattle.overview.proofs.links.link_at.Goals as goal

pub returns-then-not-filled : goal.returns-then-not-filled
returns-then-not-filled c = sym (link_empty _ _ _ (sym c.filled.ensures ∙ c.if-not-filled.true))

pub step_at-requires : goal.step_at-requires
step_at-requires c = filled_found _ _ c.requires (sym c.filled.ensures ∙ c.if-not-filled.false)

pub returns-in-Ok-Some : goal.returns-in-Ok-Some
returns-in-Ok-Some c =
    ap (λ (j : ℕ). To j) c.index.ensures.0 ∙ link_stepped _ _ _ (sym c.filled.ensures ∙ c.if-not-filled.false) (gives c.in-Ok-Some.issuer) (rw c.in-Ok-Some.field-0-is at c.in-Ok-Some.ensures)

pub returns-in-Ok-None : goal.returns-in-Ok-None
returns-in-Ok-None c = link_stepped _ _ _ (sym c.filled.ensures ∙ c.if-not-filled.false) (refused 0) (rw c.in-Ok-None.field-0-is at c.in-Ok-None.ensures)

pub returns-in-Err : goal.returns-in-Err
returns-in-Err c =
    sym (refused_on _ (number_no_zero c.in-Err.field-0)) ∙ link_stepped _ _ _ (sym c.filled.ensures ∙ c.if-not-filled.false) _ c.in-Err.ensures
