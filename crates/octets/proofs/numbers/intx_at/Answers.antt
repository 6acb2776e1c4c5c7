use borrow.Author.Tests.{le-ltb, lt-ltb, le-leb, lt-leb}
use native.Mathlib.Omega.{arith}
use native.Mathlib.Nat.{mod-lt}
use mathlib.Core.Path.{◌≡◌}
use Prim.Native.Nat.{◌-◌, ◌^◌, ◌<◌, ◌≤◌}
use lib.ListN.{get_or}
use lib.Count.{leading_le, count_leading_zeros}
use lib.Pow.{pow_pos, pow_mono}
use Rattle.octets.specs.Numbers.{intx_at, intx_of}
use Rattle.octets.proofs.Leading.{intx_lead}
use Rattle.octets.proofs.numbers.intx_at.Goals as goal
use Rattle.octets.proofs.numbers.intx_at.Goals.{After-sevens, After-shared_slice_known-2-1}

-- the definition, once the first octet is known
lead : (c : After-shared_slice_known-2-1) → let a = c.args in
    intx_at a.s.now a.at ≡ intx_of a.s.now a.at (count_leading_zeros 8 (255 - get_or a.s.now a.at 0))
lead c =
    let a = c.args in
    intx_lead a.s.now a.at c.if-s-at.false (omega (arith, c.shared_slice_known-2-1.given a.at))

pub returns-then-s-at : goal.returns-then-s-at
unfolding intx_at
returns-then-s-at c = simp (le-ltb _ _ c.if-s-at.true)

pub overflow_cast-k : goal.overflow_cast-k
overflow_cast-k c = omega (arith, leading_le 8 (255 - get_or c.args.s.now c.args.at 0))

pub returns-then-k-ge4 : goal.returns-then-k-ge4
returns-then-k-ge4 c = simp (lead (goal.at.returns-then-k-ge4 c).After-shared_slice_known-2-1, le-ltb _ _ c.if-k-ge4.true)

pub returns-then-s-at-2 : goal.returns-then-s-at-2
returns-then-s-at-2 c = simp (lead (goal.at.returns-then-s-at-2 c).After-shared_slice_known-2-1, lt-ltb _ _ c.if-k-ge4.false, le-ltb _ _ c.if-s-at-2.true)

-- the modulus is no 0, and at most 2 ^ 28
modulus_pos : (c : After-sevens) → 0 < c.sevens.result
modulus_pos c = rw c.sevens.ensures (pow_pos _)

modulus_le : (c : After-sevens) → c.sevens.result ≤ 2 ^ 28
modulus_le c = rw c.sevens.ensures (pow_mono {j = 28} (omega arith))

pub nonzero_rem-v : goal.nonzero_rem-v
nonzero_rem-v c = modulus_pos (goal.at.nonzero_rem-v c).After-sevens

pub returns-then-v-least : goal.returns-then-v-least
returns-then-v-least c =
    simp (
      lead (goal.at.returns-then-v-least c).After-shared_slice_known-2-1,
      lt-ltb _ _ c.if-k-ge4.false,
      lt-ltb _ _ c.if-s-at-2.false,
      ← c.big_endian.ensures.0,
      ← c.sevens.ensures,
      ← c.least.ensures,
      lt-leb _ _ c.if-v-least.true,
    )

pub overflow_cast-result : goal.overflow_cast-result
overflow_cast-result c = omega (arith, modulus_le (goal.at.overflow_cast-result c).After-sevens, mod-lt c.big_endian.result (modulus_pos (goal.at.overflow_cast-result c).After-sevens))

pub returns : goal.returns
returns c =
    simp (
      lead (goal.at.returns c).After-shared_slice_known-2-1,
      lt-ltb _ _ c.if-k-ge4.false,
      lt-ltb _ _ c.if-s-at-2.false,
      ← c.big_endian.ensures.0,
      ← c.sevens.ensures,
      ← c.least.ensures,
      le-leb _ _ c.if-v-least.false,
    )
