-- `bitfields::writing::scatter` meets its contract. Assumes nothing.
use Rattle.std.proofs.Common.{ℕ, List, ◌≡◌, ◌-◌, ◌+◌, ◌*◌, ◌^◌, ◌%◌, ◌/◌, sym, ap, ap₂, ◌∙◌, arith}
use native.Mathlib.Nat.{sub_self, div-one}
use lib.ListN.{set}
use lib.Bits.{and_mask}
use lib.Pow.{shr-shr}
use Rattle.bitfields.proofs.Octets.{scattered, scattered_none, scattered_more}
use Rattle.bitfields.proofs.writing.scatter.Goals as goal

pub loop-i-init : goal.loop-i-init
loop-i-init c =
    let a = c.args in
    (omega arith, sym (ap (λ (n : ℕ). a.x / 2 ^ (8 * n)) (sub_self a.end) ∙ div-one a.x), sym (scattered_none a.s.now a.end a.x))

pub loop-i-preserved : goal.loop-i-preserved
loop-i-preserved c =
    let t = c.loop-i in
    let a = c.args in
    let more : 8 * (a.end - t.i) + 8 ≡ 8 * (a.end - (t.i - 1)) = omega arith in (
      omega arith,
      ap (λ (n : ℕ). n / 2 ^ 8) t.invariant.1 ∙ shr-shr a.x (8 * (a.end - t.i)) 8 ∙ ap (λ (n : ℕ). a.x / 2 ^ n) more,
      ap₂ (λ (l : List ℕ) (v : ℕ). set l (t.i - 1) v) t.invariant.2 (and_mask t.rest 8 ∙ ap (λ (n : ℕ). n % 2 ^ 8) t.invariant.1)
          ∙ scattered_more a.s.now a.end a.x t.i (omega arith) (omega arith) (omega arith),
    )

pub returns : goal.returns
returns c =
    let a = c.args in
    let e : c.loop-i.i ≡ a.first = omega arith in
    c.loop-i.invariant.2 ∙ ap (scattered a.s.now a.end a.x) e
