-- Each rectangle is asked. Assumes nothing.
use mathlib.Core.Path.{◌≡◌}
use mathlib.Core.Bool.{true}
use Prim.Native.Nat.{ℕ, ◌<◌}
use Rattle.std.proofs.Common.{rules}
use Rattle.std.proofs.iter.runs.Sources.{ranges}
use Rattle.validity.specs.Good.{rectangle_good}
use Rattle.validity.proofs.Each.{each_test}
use Rattle.validity.proofs.fields.rectangles_good.Goals as goal

pub returns : goal.returns
returns c =
    let to : c.all.result ≡ true → (i : ℕ) → i < c.args.n → rectangle_good c.args.s.now i ≡ true = search (rules, ranges) in
    let from : ((i : ℕ) → i < c.args.n → rectangle_good c.args.s.now i ≡ true) → c.all.result ≡ true = search (rules, ranges) in
    each_test (rectangle_good c.args.s.now) c.args.n c.all.result to from
