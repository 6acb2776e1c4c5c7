use Rattle.std.proofs.Common.{◌≡◌, ◌∙◌, refl, arith, length, take, drop, take_all, get_or, get_or-take, get_or-drop, length-take-le, length-drop, ◌+◌, ◌-◌, ◌≤◌, ◌<◌, ℕ, List}
use Rattle.octets.proofs.Digits.{be_more, be_grow, be_below}
use Rattle.octets.specs.Numbers.{big_endian_on}
use Rattle.octets.proofs.numbers.big_endian.Goals as goal

-- the n octets that are gone through
module _ (s : List ℕ) (at n : ℕ) (h : at + n ≤ length s) where
  cut : at + n - at ≡ n
  cut = omega arith

  long : length (take n (drop at s)) ≡ n
  long = length-take-le n (drop at s) (omega (arith, length-drop at s))

  inside : {i : ℕ} → i < length (take (at + n - at) (drop at s)) → i < n
  inside k = rw (cut, long) at k

  ended : {i : ℕ} → i ≤ length (take (at + n - at) (drop at s)) → length (take (at + n - at) (drop at s)) ≤ i → i ≡ n
  ended {i} j k =
      let x : i ≤ n = rw (cut, long) at j in
      let y : n ≤ i = rw (cut, long) at k in
      omega arith

  nth : {x : ℕ} (i : ℕ) → i < n → x ≡ get_or (take (at + n - at) (drop at s)) i 0 → x ≡ get_or s (at + i) 0
  nth i k e = (rw cut at e) ∙ get_or-take n (drop at s) i 0 k ∙ get_or-drop at s i 0

small : (c : goal.After-from) → c.from.result < 256
small c =
    let a = c.args in
    let i = c.loop-octet.octet-index in
    let e = nth a.s.now a.at a.n c.requires.1 i (inside a.s.now a.at a.n c.requires.1 c.loop-octet-test.true) c.from.ensures in
    let b = c.type_inv.s (a.at + i) in
    omega (arith, b, e)

pub loop-octet-init : goal.loop-octet-init
unfolding big_endian_on
loop-octet-init c = (omega arith, refl)

pub overflow_mul-value : goal.overflow_mul-value
overflow_mul-value c =
    let a = c.args in
    let l = c.loop-octet in
    let k = inside a.s.now a.at a.n c.requires.1 c.loop-octet-test.true in
    omega (arith, be_below l.octet-index 7 (omega (arith, k)) l.invariant.0)

pub overflow_add-value : goal.overflow_add-value
overflow_add-value c =
    let a = c.args in
    let l = c.loop-octet in
    let k = inside a.s.now a.at a.n c.requires.1 c.loop-octet-test.true in
    omega (arith, small c, be_below l.octet-index 7 (omega (arith, k)) l.invariant.0)

pub loop-octet-preserved : goal.loop-octet-preserved
loop-octet-preserved c =
    let a = c.args in
    let l = c.loop-octet in
    let k = inside a.s.now a.at a.n c.requires.1 c.loop-octet-test.true in
    let e = rw (cut a.s.now a.at a.n c.requires.1) at c.from.ensures in
    let xs : List ℕ = take a.n (drop a.at a.s.now) in (
      be_grow l.octet-index l.value c.from.result l.invariant.0 (small c),
      rw (be_more 0 xs l.octet-index (omega (arith, k, long a.s.now a.at a.n c.requires.1)), ← l.invariant.1, ← e) refl,
    )

pub returns : goal.returns
returns c =
    let a = c.args in
    let l = c.loop-octet in
    let e = ended a.s.now a.at a.n c.requires.1 l.auto.octet-index-end c.loop-octet-test.false in
    let whole : take a.n (take a.n (drop a.at a.s.now)) ≡ take a.n (drop a.at a.s.now) = take_all a.n (take a.n (drop a.at a.s.now)) (omega (arith, long a.s.now a.at a.n c.requires.1)) in
    (rw (e, whole) at l.invariant.1, rw e at l.invariant.0)
