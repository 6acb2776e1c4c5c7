-- Its four edges. Assumes nothing.
use mathlib.Core.Path.{◌≡◌}
use Prim.Native.Nat.{ℕ, ◌+◌, ◌*◌, ◌/◌, ◌%◌}
use native.Mathlib.Omega.{arith}
use mir.Facts.{to_z-of_z}
use mir.Syntax.{w32}
use mir.Val.{SFits}
use borrow.Author.Rules.{rules}
use Rattle.records.specs.Layout.{EDGES, RECTANGLES, edge_width}
use Rattle.validity.specs.Good.{rectangle_good}
use Rattle.validity.proofs.fields.rectangle_good_at.Goals as goal

-- the octet in which rectangle i starts
abbrev at : ℕ → ℕ
at i = RECTANGLES.bit / 8 + RECTANGLES.width / 8 * i

pub returns : goal.returns
unfolding rectangle_good
returns c =
    let a = c.args in
    let n : (at a.i) * 8 + RECTANGLES.bit % 8 ≡ (EDGES a.i).bit = omega arith in
    let w : (at a.i + edge_width / 8) * 8 + RECTANGLES.bit % 8 ≡ (EDGES a.i).bit + edge_width = omega arith in
    let s : (at a.i + 2 * edge_width / 8) * 8 + RECTANGLES.bit % 8 ≡ (EDGES a.i).bit + 2 * edge_width = omega arith in
    let e : (at a.i + 3 * edge_width / 8) * 8 + RECTANGLES.bit % 8 ≡ (EDGES a.i).bit + 3 * edge_width = omega arith in
    let north : SFits w32 c.edge-north.result = search rules in
    let west : SFits w32 c.edge-west.result = search rules in
    let south : SFits w32 c.edge-south.result = search rules in
    let east : SFits w32 c.edge-east.result = search rules in
    rw (
      c.rectangle_good.ensures,
      to_z-of_z north,
      to_z-of_z west,
      to_z-of_z south,
      to_z-of_z east,
      c.edge-north.ensures,
      c.edge-west.ensures,
      c.edge-south.ensures,
      c.edge-east.ensures,
      n,
      w,
      s,
      e,
    )
