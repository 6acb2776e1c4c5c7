-- `records::images::put_region` meets its contract. Assumes nothing.
use Rattle.std.proofs.Common.{◌≡◌, refl, ap, sym, ◌∙◌, ℕ, List, get_or, arith}
use Rattle.bitfields.specs.Items.{built}
use Rattle.bitfields.specs.Runs.{with_fields}
use Rattle.geo.specs.Area.{unused}
use Rattle.records.specs.Layout.{EDGES}
use Rattle.records.specs.Records.{edges_of}
use Rattle.records.proofs.Placed.{placed, placed_more}
use Rattle.records.proofs.images.put_region.Goals as goal

pub loop-i-init : goal.loop-i-init
unfolding placed
loop-i-init c = refl

pub loop-i-preserved : goal.loop-i-preserved
loop-i-preserved c =
    let rs = c.args.region.now.rectangles in
    let i = c.loop-i.i in
    c.put_edges.ensures
    ∙ ap (λ (l : List ℕ). with_fields l (EDGES i).bit (EDGES i).width (edges_of (get_or rs i unused))) c.loop-i.invariant
    ∙ sym (placed_more rs i c.put.new.s)

pub returns : goal.returns
unfolding placed built with_fields
returns c =
    let rs = c.args.region.now.rectangles in
    let e : c.loop-i.i ≡ 4 = omega arith in
    c.loop-i.invariant ∙ ap (λ (n : ℕ). placed rs n c.put.new.s) e ∙ ap (placed rs 4) c.put.ensures
