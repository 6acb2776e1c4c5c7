use Rattle.std.proofs.Common.{◌≡◌, arith, ℕ, ◌*◌, ◌%◌, ◌^◌, ◌≤◌}
use lib.Pow.{shl_exact, pow_mono}
use lib.Dec.{lit<}
use Rattle.slot_lists.specs.Computed.{bit}
use Rattle.slot_lists.proofs.joined.Goals as goal

-- slot i as a set
alone : (i : ℕ) → i ≤ 63 → 1 * 2 ^ i % 18446744073709551616 ≡ 1 * 2 ^ i
alone i h = shl_exact 1 i 64 (lit< tt) (omega arith)

pub overflow_add-result : goal.overflow_add-result
overflow_add-result c =
    let i = c.args.i in
    let below : i ≤ 63 = omega arith in
    omega (arith, alone i below, pow_mono below)

pub returns-then-member : goal.returns-then-member
unfolding bit
returns-then-member c = rw (alone c.args.i (omega arith), c.if-member.true)

pub returns-else-member : goal.returns-else-member
unfolding bit
returns-else-member c = rw c.if-member.false (omega arith)
