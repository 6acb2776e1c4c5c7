-- `restrictions::rectangles::rectangles_in` meets its contract: the loop over the elements of a vector. Assumes nothing.
use Prim.Native.Nat.{ℕ}
use Rattle.geo.specs.declared.Region.{Region}
use Rattle.octets.proofs.Laws.{then, stop}
use Rattle.octets.proofs.Outcomes.{passed_on}
use Rattle.octets.proofs.Turns.{again, full, stopped, done}
use Rattle.octets.specs.Items.{overfull_of}
use Rattle.octets.specs.Numbers.{unsigned_at}
use Rattle.octets.specs.Outcomes.{read_of}
use Rattle.octets.specs.Reading.{Out, got, refused}
use Rattle.restrictions.proofs.Laws.{kept}
use Rattle.restrictions.specs.Rectangles.{rectangle_at, rectangles_in}
use mathlib.Core.Path.{◌≡◌, ap, sym, ◌∙◌}
use native.Mathlib.Omega.{arith}
use Rattle.restrictions.proofs.rectangles.rectangles_in.Goals as goal

pub returns-then-s-at : goal.returns-then-s-at
unfolding rectangles_in
returns-then-s-at c = let r = c.loop-count.invariant in
    sym (then (done rectangle_at (unsigned_at 4) r c.if-s-at.true) _ ∙ ap (λ (g : Region). got g c.loop-count.at) (kept r))

pub returns-in_err-rectangle : goal.returns-in_err-rectangle
unfolding rectangles_in
returns-in_err-rectangle c = ap read_of (passed_on c.from_residual.result _ c.from_residual.ensures.1)
    ∙ sym (stop (stopped rectangle_at (unsigned_at 4) c.loop-count.invariant _ c.if-s-at.false (omega arith) (sym c.in_err-rectangle.ensures)) _)

pub loop-count-preserved : goal.loop-count-preserved
loop-count-preserved c = again rectangle_at (unsigned_at 4) c.loop-count.invariant _ _ c.if-s-at.false (omega arith) (sym c.in_ok-rectangle.ensures)

pub returns-then-at-s : goal.returns-then-at-s
unfolding rectangles_in
returns-then-at-s c = let last : c.loop-count.count ≡ 4 = omega arith in
    ap refused (c.overfull.ensures ∙ ap (λ (o : Out ℕ). overfull_of o) c.unsigned_at.ensures)
    ∙ sym (stop (full rectangle_at (unsigned_at 4) c.loop-count.invariant c.if-at-s.true last) _)

pub returns : goal.returns
unfolding rectangles_in
returns c = let r = c.loop-count.invariant in
    let last : c.loop-count.count ≡ 4 = omega arith in
    sym (then (done rectangle_at (unsigned_at 4) r c.if-at-s.false) _ ∙ ap (λ (g : Region). got g c.loop-count.at) (kept r ∙ ap (λ (k : ℕ). record { count = k; rectangles = c.loop-count.rectangles }) last))
