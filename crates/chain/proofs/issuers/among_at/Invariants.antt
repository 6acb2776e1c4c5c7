-- none of those before
use Rattle.std.proofs.Common.{◌≡◌, take, false}
use Rattle.scope.specs.Issued.{is_listed}
use Rattle.store.specs.Slots.{permissions_at}
use Rattle.chain.proofs.issuers.among_at.Given as goal

abbrev pub invariant-loop-k : goal.invariant-loop-k
invariant-loop-k l = is_listed l.value (take l.k (permissions_at l.store l.slot)) ≡ false
