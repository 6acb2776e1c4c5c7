-- By where the place zero lies. Assumes nothing.
use Rattle.std.proofs.Common.{arith}
use Rattle.sha256.proofs.Filled.{Filled, filled_part, zero_put, zero_apart}
use Rattle.sha256.proofs.message.Message.octets_from.Goals as goal

pub returns-then-zero-end : goal.returns-then-zero-end
returns-then-zero-end c =
    let m = c.self.inside in
    let part : Filled m.octets.now c.args.start c.zeros_after-b.result = filled_part _ _ _ (omega arith) (rw (← c.min.ensures, ← c.min-2.ensures) c.zeros_after-b.ensures) in
    rw (← c.self.view_is) (zero_put m.zero part (omega arith) (omega arith)).holds

pub returns-else-start-zero : goal.returns-else-start-zero
returns-else-start-zero c =
    let m = c.self.inside in
    let part : Filled m.octets.now c.args.start c.zeros_after-b.result = filled_part _ _ _ (omega arith) (rw (← c.min.ensures, ← c.min-2.ensures) c.zeros_after-b.ensures) in
    rw (← c.self.view_is) (zero_apart m.zero part (λ j l e. omega (arith, c.else-start-zero.either))).holds
