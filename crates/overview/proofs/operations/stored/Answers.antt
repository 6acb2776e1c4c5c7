use Rattle.std.proofs.Common.{ap, arith, List, ℕ}
use Rattle.overview.specs.Order.{SlotReading}
use Rattle.overview.proofs.Tests.{read_beyond}
use Rattle.overview.proofs.operations.stored.Goals as goal

pub returns-in_default-new : goal.returns-in_default-new
returns-in_default-new c =
    ap {B = SlotReading × List ℕ} (λ (x : SlotReading). (x, c.args.store.now))
    (read_beyond _ _ c.in-Some.ensures.cases.long (omega (arith, c.in_default-new.ensures)))
