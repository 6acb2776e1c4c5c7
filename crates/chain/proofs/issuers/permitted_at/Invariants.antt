-- each of those before
use Rattle.std.proofs.Common.{◌≡◌, take, true}
use Rattle.scope.specs.Issued.{all_listed}
use Rattle.store.specs.Slots.{permissions_at}
use Rattle.chain.proofs.issuers.permitted_at.Given as goal

abbrev pub invariant-loop-k : goal.invariant-loop-k
invariant-loop-k l = all_listed (take l.k (permissions_at l.store l.subject)) (take l.n (permissions_at l.store l.issuer)) ≡ true
