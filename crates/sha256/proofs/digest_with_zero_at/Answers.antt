-- The loop keeps the hash value after i blocks. Assumes nothing.
use Rattle.std.proofs.Common.{◌≡◌, ◌/◌, length, set, refl, ap, ◌∙◌, add-one, arith, length-set}
use Rattle.sha256.specs.Constants.{initial}
use Rattle.sha256.specs.Hash.{padded, hash_at, digest_of, sha256}
use Rattle.sha256.proofs.Padding.{padded_length}
use Rattle.sha256.proofs.digest_with_zero_at.Goals as goal

pub loop-i-init : goal.loop-i-init
unfolding hash_at initial
loop-i-init c = refl

pub loop-i-preserved : goal.loop-i-preserved
unfolding hash_at
loop-i-preserved c = rw (add-one, ← c.loop-i.invariant, ← c.new-m.ensures) c.step-h.ensures

pub returns : goal.returns
unfolding sha256
returns c =
    let a = c.args in
    let m = set a.s.now a.zero 0 in
    let e : c.loop-i.i ≡ length (padded m) / 64 = omega (arith, padded_length m, length-set a.s.now a.zero 0) in
    c.digest_octets.ensures ∙ ap digest_of (c.loop-i.invariant ∙ ap (hash_at (padded m)) e)
