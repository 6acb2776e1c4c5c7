-- The row is filled, then its first mask is set. Assumes nothing.
use mathlib.Core.Path.{◌≡◌, sym, ap, ap₂, ◌∙◌}
use mathlib.Core.List.{List, ◌++◌, append_assoc}
use Prim.Native.Nat.{ℕ, ◌+◌, ◌-◌}
use native.Mathlib.Omega.{arith}
use lib.ListN.{take, drop, set, replicate, length-drop}
use lib.Seq.{length-take-le, drop-drop}
use Rattle.validity.specs.Masks.{widest, with_row}
use Rattle.validity.proofs.rooms.put_row.Goals as goal

pub returns : goal.returns
unfolding with_row
returns c =
    let a = c.args in
    let n : a.at + widest - a.at ≡ widest = omega arith in
    let long = length-take-le (a.at + widest - a.at) (drop a.at a.t.now) (omega (arith, length-drop a.at a.t.now)) in
    let row : c.fill.new.self ≡ replicate widest 255 = c.fill.ensures.after (λ y e. e) ∙ ap (λ (k : ℕ). replicate k 255) (long ∙ n) in
    let rest = ap (λ (k : ℕ). drop k (drop a.at a.t.now)) n ∙ drop-drop widest a.at a.t.now in
    ap₂ (λ (x y : List ℕ). set (take a.at a.t.now ++ (x ++ y)) a.at a.mask) row rest
    ∙ ap (λ (l : List ℕ). set l a.at a.mask) (sym (append_assoc (take a.at a.t.now) (replicate widest 255) (drop (a.at + widest) a.t.now)))
