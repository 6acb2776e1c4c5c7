-- A block is read where it stands, or made. Assumes nothing.
use Rattle.std.proofs.Common.{◌≡◌, ◌+◌, ◌-◌, ◌*◌, ap, ◌∙◌, arith}
use Rattle.sha256.specs.Block.{compress_of}
use Rattle.sha256.proofs.Filled.{stands}
use Rattle.sha256.proofs.step.Goals as goal

pub returns-then-end-zero : goal.returns-then-end-zero
returns-then-end-zero c =
    let i = c.args.i in
    let e : 64 * i + 64 - 64 * i ≡ 64 = omega arith in
    c.compress.ensures ∙ ap (compress_of c.args.h) (rw (e, ← c.m.view_is) (stands _ c.m.inside.zero i (omega arith) (λ j l q. omega (arith, c.if-end-zero.either))))
