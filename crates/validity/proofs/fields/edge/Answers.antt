-- A field, in two's complement. Assumes nothing.
use mathlib.Core.Path.{ap, ◌∙◌}
use Prim.Native.Nat.{◌+◌, ◌*◌, ◌%◌}
use native.Mathlib.Omega.{arith}
use mir.Facts.{to_z-of_z}
use mir.Syntax.{w32}
use mir.Val.{SFits}
use borrow.Author.Rules.{rules}
use Rattle.octets.specs.Coordinates.{signed_of}
use Rattle.bitfields.proofs.Law.{field_lt}
use Rattle.records.specs.Layout.{RECTANGLES, edge_width}
use Rattle.validity.proofs.fields.edge.Goals as goal

pub overflow_cast-get_in : goal.overflow_cast-get_in
overflow_cast-get_in c =
    let a = c.args in
    record { fits = omega (arith, field_lt a.s.now (a.first * 8 + RECTANGLES.bit % 8) edge_width) }

pub returns : goal.returns
returns c =
    let fits : SFits w32 c.as_i32.result = search rules in
    simp (to_z-of_z fits) (c.as_i32.ensures ∙ ap signed_of c.get_in.ensures)
