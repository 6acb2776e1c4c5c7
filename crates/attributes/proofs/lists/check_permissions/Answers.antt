-- The invariant: some permissions are read, and what is left to read decides. Assumes nothing.
use Prim.Native.Nat.{ℕ}
use Rattle.attributes.specs.Permissions.{unused, permission_at}
use Rattle.attributes.specs.declared.permissions.Permission.{Permission}
use Rattle.octets.proofs.Outcomes.{passed_on}
use Rattle.octets.proofs.Turns.{begin, again, full, stopped, done}
use Rattle.octets.specs.Items.{overfull_of}
use Rattle.octets.specs.Numbers.{intx_at}
use Rattle.octets.specs.Reading.{Out, refused, kept}
use mathlib.Core.List.{List}
use mathlib.Core.Path.{sym, ◌∙◌, ap}
use native.Mathlib.Omega.{arith}
use Rattle.attributes.proofs.lists.check_permissions.Goals as goal

-- where the permissions end, or the refusal
ended : Out (List Permission) → Out ℕ
ended o = kept (λ ps. 0) o

pub loop-init : goal.loop-init
loop-init c = (_, begin (permission_at _) intx_at 16 unused _ _)

pub returns-then-s-at : goal.returns-then-s-at
unfolding ended
returns-then-s-at c = sym (ap ended (done (permission_at _) intx_at c.loop.invariant.1 c.if-s-at.true))

pub returns-in_err-next : goal.returns-in_err-next
unfolding ended
returns-in_err-next c =
    rw (passed_on c.from_residual.result _ c.from_residual.ensures.1)
    (sym (ap ended (stopped (permission_at _) intx_at c.loop.invariant.1 _ c.if-s-at.false (omega arith) (sym c.in_err-next.ensures))))

pub loop-preserved : goal.loop-preserved
loop-preserved c = (_, again (permission_at _) intx_at c.loop.invariant.1 _ _ c.if-s-at.false (omega arith) (sym c.in_ok-next.ensures))

pub returns-then-at-s : goal.returns-then-at-s
unfolding ended
returns-then-at-s c =
    ap (λ (n : ℕ). refused n) (c.overfull.ensures ∙ ap overfull_of c.intx_at.ensures)
    ∙ sym (ap ended (full (permission_at _) intx_at c.loop.invariant.1 c.if-at-s.true (omega arith)))

pub returns : goal.returns
unfolding ended
returns c = sym (ap ended (done (permission_at _) intx_at c.loop.invariant.1 c.if-at-s.false))
