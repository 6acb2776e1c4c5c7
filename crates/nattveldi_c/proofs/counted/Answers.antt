-- `nattveldi_c::counted` meets its contract. Assumes nothing.
use Prim.Native.Nat.{ℕ, ◌≤◌, ◌<◌}
use native.Mathlib.Omega.{arith}
use borrow.Author.Rules.{rules}
use borrow.Author.Tests.{ne_eqb}
use lib.IntN.{pos, neg_ℤ, +ℤ_idl}
use mir.Syntax.{w32}
use mir.Val.{SFits}
use mir.Facts.{to_z_pos, to_z-of_z}
use Rattle.octets.specs.Outcomes.{number_of}
use Rattle.octets.proofs.Outcomes.{number_low, number_no_zero}
use Rattle.octets.proofs.Signed.{mag_neg}
use Rattle.nattveldi_c.specs.Calls.{count_of}
use Rattle.nattveldi_c.proofs.counted.Goals as goal

-- minus a number of eight bits
turned : (n : ℕ) → n < 256 → SFits w32 (neg_ℤ (pos n))
turned n h = record { sfits = omega (arith, mag_neg n) }

pub returns-in-Ok : goal.returns-in-Ok
unfolding count_of
returns-in-Ok c =
    let few : c.in-Ok.n ≤ 64 = rw c.in-Ok.is at c.requires in
    let h : c.in-Ok.n < 2147483648 = omega arith in
    rw (c.in-Ok.is, to_z_pos w32 h)

pub returns-in-Err : goal.returns-in-Err
unfolding count_of
returns-in-Err c =
    let e = c.in-Err.refusal in
    let f : SFits w32 c.from.result = search rules in
    let h : number_of e < 256 = omega (arith, number_low e) in
    rw (to_z-of_z f, c.from.ensures, c.number.ensures, +ℤ_idl (neg_ℤ (pos (number_of e))), to_z-of_z (turned _ h), c.in-Err.is, ne_eqb _ 0 (number_no_zero e))
