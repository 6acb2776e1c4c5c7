-- `bitfields::writing::gather` meets its contract. Assumes nothing.
use Rattle.std.proofs.Common.{ℕ, List, ◌≡◌, refl, ◌+◌, ◌-◌, ap, ◌∙◌, get_or, take, drop, get_or-drop, length-drop, arith}
use native.Mathlib.Nat.{sub_self}
use Rattle.bitfields.specs.Field.{number, Octets}
use Rattle.bitfields.proofs.Octets.{octets_drop, number_part, number_more}
use Rattle.bitfields.proofs.writing.gather.Goals as goal

none : (l : List ℕ) → number (take 0 l) ≡ 0
unfolding number
none l = refl

pub loop-i-init : goal.loop-i-init
loop-i-init c = simp (sub_self, none)

pub loop-i-preserved : goal.loop-i-preserved
loop-i-preserved c =
    let a = c.args in
    let k : ℕ = c.loop-i.i - a.first in
    let rest : List ℕ = drop a.first a.s.now in
    let are : Octets rest = octets_drop a.first a.s.now (λ j. omega (arith, c.type_inv.s j)) in
    let here : get_or rest k 0 ≡ get_or a.s.now c.loop-i.i 0 =
    get_or-drop a.first a.s.now k 0 ∙ ap (λ (n : ℕ). get_or a.s.now n 0) (omega arith) in
    let next : number (take (c.loop-i.i + 1 - a.first) rest) ≡ number (take (k + 1) rest) = ap (λ (n : ℕ). number (take n rest)) (omega arith) in
    omega (arith, here, next, number_part k 56 rest are (omega arith), number_more k rest (omega (arith, length-drop a.first a.s.now)))

pub returns : goal.returns
returns c =
    let e : c.loop-i.i ≡ c.args.end = omega arith in
    c.loop-i.invariant ∙ ap (λ (n : ℕ). number (take (n - c.args.first) (drop c.args.first c.args.s.now))) e
