-- `bitfields::writing::put` meets its contract. Assumes nothing.
use Prim.Native.Nat.{ℕ, ◌<◌, ◌-◌, ◌+◌, ◌*◌, ◌^◌, ◌%◌, ◌/◌}
use mathlib.Core.Path.{ap, ◌∙◌}
use mathlib.Core.List.{List, ◌++◌}
use native.Mathlib.Omega.{arith}
use lib.ListN.{take, drop}
use lib.Bits.{bit_and}
use Rattle.bitfields.specs.Field.{octets, with_digits}
use Rattle.bitfields.proofs.Law.{with_field_scatter}
use Rattle.bitfields.proofs.Word.{word_with, word_fits}
use Rattle.bitfields.proofs.writing.put.Goals as goal
use Rattle.bitfields.proofs.writing.put.Goals.{After-gather-acc, Start}

-- the place of the field in the octets gathered, counted from their end
shift : Start → ℕ
shift c = (c.args.bit + c.args.width + 7) / 8 * 8 - (c.args.bit + c.args.width)

top_lt : (c : Start) → c.args.width + shift c < 64
unfolding shift
top_lt c = omega arith

acc_lt : (c : After-gather-acc) → c.gather-acc.result < 2 ^ 64
acc_lt c = omega (arith, c.gather-acc.type_inv)

-- the number written fits
new_lt : (c : After-gather-acc) →
    let k = shift c.before.before in
    let a = c.args in
    let x = c.gather-acc.result in
    x / 2 ^ (a.width + k) * 2 ^ (a.width + k) % 2 ^ 64 + (a.value * 2 ^ k % 2 ^ 64 + bit_and x (1 * 2 ^ k % 2 ^ 64 - 1)) < 2 ^ 64
new_lt c =
    let a = c.args in
    word_fits c.gather-acc.result (shift c.before.before) a.width a.value (acc_lt c) (top_lt c.before.before) (omega arith)

pub overflow_add-low : goal.overflow_add-low
unfolding shift
overflow_add-low c = record { fits = omega (arith, new_lt (goal.at.overflow_add-low c).After-gather-acc) }

pub overflow_add-acc : goal.overflow_add-acc
unfolding shift
overflow_add-acc c = record { fits = new_lt (goal.at.overflow_add-acc c).After-gather-acc }

pub returns : goal.returns
unfolding shift
returns c =
    let a = c.args in
    let f : ℕ = a.bit / 8 in
    let e : ℕ = (a.bit + a.width + 7) / 8 in
    let l : List ℕ = a.s.now in
    let k : ℕ = shift (goal.at.returns c).Start in
    c.scatter.ensures
    ∙ ap (λ (n : ℕ). take f l ++ octets (e - f) n ++ drop e l)
    (word_with c.gather-acc.result k a.width a.value (acc_lt (goal.at.returns c).After-gather-acc) (top_lt (goal.at.returns c).Start) (omega arith)
    ∙ ap (λ (n : ℕ). with_digits n k a.width a.value) c.gather-acc.ensures)
    ∙ with_field_scatter l f e a.bit a.width a.value (λ i. omega (arith, c.slice_known-1.given i))
    (omega arith) (omega arith) (omega arith) (omega arith) (omega arith)
