use Rattle.std.proofs.Common.{◌∙◌, ap, sym, take, ℕ}
use Rattle.geo.proofs.Regions.{inside_everywhere}
use Rattle.geo.specs.Area.{inside_of, rectangles_of}
use Rattle.records.specs.Records.{region_of}
use Rattle.store.specs.Slots.{slot_of}
use Rattle.chain.proofs.issuers.region_inside_at.Goals as goal

pub returns-then-region_count_at-eq0 : goal.returns-then-region_count_at-eq0
unfolding region_of
returns-then-region_count_at-eq0 c =
    let a = c.args in
    let inner = rectangles_of (region_of (slot_of a.store.now a.subject)) in
    let outer = region_of (slot_of a.store.now a.issuer) in
    sym (inside_everywhere inner)
    ∙ ap (λ (n : ℕ). inside_of inner (take n outer.rectangles)) (sym c.if-region_count_at-eq0.true ∙ c.region_count_at.ensures)
