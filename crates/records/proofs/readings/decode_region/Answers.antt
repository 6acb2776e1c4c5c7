-- Count and rectangles. Assumes nothing.
use Rattle.std.proofs.Common.{◌≡◌, List, get_or}
use borrow.Author.Rules.{rules}
use Rattle.geo.specs.Area.{unused}
use Rattle.geo.specs.declared.Rectangle.{Rectangle}
use Rattle.records.specs.Layout.{EDGES}
use Rattle.records.specs.Records.{region_of, rectangle_of}
use Rattle.records.proofs.Placed.{four}
use Rattle.records.proofs.readings.decode_region.Goals as goal

pub returns : goal.returns
unfolding region_of
returns c =
    let l = c.args.s.now in
    let q : List Rectangle = c.from_fn-rectangles.result in
    let first : get_or q 0 unused ≡ rectangle_of l (EDGES 0).bit = search rules in
    let second : get_or q 1 unused ≡ rectangle_of l (EDGES 1).bit = search rules in
    let third : get_or q 2 unused ≡ rectangle_of l (EDGES 2).bit = search rules in
    let fourth : get_or q 3 unused ≡ rectangle_of l (EDGES 3).bit = search rules in
    let all = four q c.from_fn-rectangles.ensures.items.long in
    cc
