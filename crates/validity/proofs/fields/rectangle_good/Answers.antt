-- Three tests for each pair of edges. Assumes nothing.
use mir.Facts.{to_z-of_z}
use mir.Syntax.{w32}
use mir.Val.{SFits}
use borrow.Author.Rules.{rules}
use Rattle.validity.proofs.Edges.{edges_tests}
use Rattle.validity.proofs.fields.rectangle_good.Goals as goal

pub returns : goal.returns
returns c =
    let a = c.args in
    let north : SFits w32 a.north = search rules in
    let west : SFits w32 a.west = search rules in
    let south : SFits w32 a.south = search rules in
    let east : SFits w32 a.east = search rules in
    simp (to_z-of_z north, to_z-of_z west, to_z-of_z south, to_z-of_z east) (edges_tests a.north a.west a.south a.east)
