-- Part by part. Assumes nothing.
use Prim.Native.Nat.{ℕ}
use mathlib.Core.Path.{◌≡◌, refl, sym, ap, ◌∙◌}
use mathlib.Core.Bool.{◌&&◌}
use mathlib.Core.List.{List}
use native.Mathlib.Omega.{arith}
use borrow.Author.Tests.{le-leb, lt-leb}
use lib.Dec.{leb}
use Rattle.records.specs.Layout.{NAME, RECTANGLES}
use Rattle.validity.specs.Good.{unused_zero, good_name}
use Rattle.validity.proofs.Parts.{region_tests, record_tests, region_fails}
use Rattle.validity.proofs.slots.record_good.Goals as goal
use Rattle.validity.proofs.slots.record_good.Goals.{After-name_good}

-- the name's length is a call's
name_is : (c : After-name_good) → c.name_good.result ≡ good_name c.args.s.now
name_is c = c.name_good.ensures ∙ ap (λ (n : ℕ). leb n NAME.count && unused_zero c.args.s.now NAME n) c.get_in-length.ensures

pub returns-then-n-gt-RECTANGLE_ROOM : goal.returns-then-n-gt-RECTANGLE_ROOM
returns-then-n-gt-RECTANGLE_ROOM c =
    let g = c.get_in-n in
    let l : List ℕ = c.args.s.now in
    region_fails l (sym (region_tests l g.result g.ensures (lt-leb g.result RECTANGLES.count c.if-n-gt-RECTANGLE_ROOM.true) refl refl))

pub returns-then-not-head_good : goal.returns-then-not-head_good
returns-then-not-head_good c = record_tests c.args.s.now (sym c.head_good.ensures ∙ c.if-not-head_good.true) refl refl refl

pub returns-then-not-name_good : goal.returns-then-not-name_good
returns-then-not-name_good c =
    let h = c.head_good in
    record_tests c.args.s.now (sym h.ensures ∙ c.if-not-head_good.false)
    (sym (name_is (goal.at.returns-then-not-name_good c).After-name_good) ∙ c.if-not-name_good.true) refl refl

pub returns-then-not-rectangles_good : goal.returns-then-not-rectangles_good
returns-then-not-rectangles_good c =
    let g = c.get_in-n in
    let l : List ℕ = c.args.s.now in
    let r = c.rectangles_good in
    region_fails l
    (sym (region_tests l g.result g.ensures (le-leb g.result RECTANGLES.count (omega arith)) (sym r.ensures ∙ c.if-not-rectangles_good.true) refl))

pub returns-then-not-region_room : goal.returns-then-not-region_room
returns-then-not-region_room c =
    let g = c.get_in-n in
    let l : List ℕ = c.args.s.now in
    let r = c.rectangles_good in
    let m = c.region_room in
    region_fails l
    (sym (region_tests l g.result g.ensures (le-leb g.result RECTANGLES.count (omega arith)) (sym r.ensures ∙ c.if-not-rectangles_good.false)
    (sym m.ensures ∙ c.if-not-region_room.true)))

pub returns : goal.returns
returns c =
    let g = c.get_in-n in
    let l : List ℕ = c.args.s.now in
    let h = c.head_good in
    let r = c.rectangles_good in
    let m = c.region_room in
    c.permissions_good.ensures
    ∙ record_tests l (sym h.ensures ∙ c.if-not-head_good.false)
    (sym (name_is (goal.at.returns c).After-name_good) ∙ c.if-not-name_good.false)
    (sym (region_tests l g.result g.ensures (le-leb g.result RECTANGLES.count (omega arith)) (sym r.ensures ∙ c.if-not-rectangles_good.false)
    (sym m.ensures ∙ c.if-not-region_room.false)))
    refl
