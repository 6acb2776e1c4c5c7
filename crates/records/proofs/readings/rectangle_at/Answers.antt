-- Edge by edge, each in two's complement. Assumes nothing.
use mir.Facts.{to_z-of_z}
use mir.Syntax.{w32}
use mir.Val.{SFits}
use mathlib.Core.Path.{◌≡◌, ◌∙◌, ap}
use Prim.Native.Nat.{ℕ, ◌+◌, ◌*◌, ◌<◌}
use mathlib.Core.List.{List}
use lib.Dec.{lit<}
use lib.ListN.{get_or}
use native.Mathlib.Omega.{arith}
use borrow.Author.Rules.{rules}
use Rattle.bitfields.specs.Field.{field}
use Rattle.bitfields.proofs.Runs.{fields_at}
use Rattle.records.specs.Layout.{edge_width}
use Rattle.records.proofs.readings.rectangle_at.Goals as goal

pub returns : goal.returns
returns c =
    let a = c.args in
    let north : SFits w32 c.as_i32.result = search rules in
    let west : SFits w32 c.as_i32-2.result = search rules in
    let south : SFits w32 c.as_i32-3.result = search rules in
    let east : SFits w32 c.as_i32-4.result = search rules in
    let edge : (i at : ℕ) → i < 4 → a.bit + edge_width * i ≡ at → get_or c.word_array.result i 0 ≡ field a.s.now at edge_width =
    λ i at h e. ap (λ (l : List ℕ). get_or l i 0) c.word_array.ensures ∙ fields_at a.s.now a.bit edge_width 4 i h ∙ ap (λ (b : ℕ). field a.s.now b edge_width) e in
    rw (
      to_z-of_z north,
      to_z-of_z west,
      to_z-of_z south,
      to_z-of_z east,
      c.as_i32.ensures,
      c.as_i32-2.ensures,
      c.as_i32-3.ensures,
      c.as_i32-4.ensures,
      edge 0 a.bit (lit< tt) (omega arith),
      edge 1 (a.bit + edge_width) (lit< tt) (omega arith),
      edge 2 (a.bit + 2 * edge_width) (lit< tt) (omega arith),
      edge 3 (a.bit + 3 * edge_width) (lit< tt) (omega arith),
    )
