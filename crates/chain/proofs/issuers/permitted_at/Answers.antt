use Rattle.std.proofs.Common.{◌≡◌, ◌∙◌, sym, arith, take, length, get_or, get_or-take, length-take-le, Bool, ℕ}
use Rattle.std.proofs.lemmas.List.Folds.{list_all_at}
use Rattle.scope.specs.Issued.{is_listed}
use Rattle.store.specs.Slots.{permissions_at}
use Rattle.store.proofs.Places.{permissions_long}
use Rattle.chain.proofs.issuers.permitted_at.Goals as goal

pub returns-then-not-among_at : goal.returns-then-not-among_at
returns-then-not-among_at c =
    let a = c.args in
    let vs = permissions_at a.store.now a.subject in
    let n = c.size_at-k-end.result in
    let k = c.loop-k.k in
    let has : ℕ → Bool = λ p. is_listed p (take c.size_at-n.result (permissions_at a.store.now a.issuer)) in
    let long : length (take n vs) ≡ n = length-take-le n vs (omega (arith, permissions_long a.store.now a.subject, c.size_at-k-end.ensures.0)) in
    let here : get_or (take n vs) k 0 ≡ c.permission_at.result = get_or-take n vs k 0 c.loop-k-test.true ∙ sym c.permission_at.ensures in
    rw (← c.size_at-k-end.ensures.1, ← c.size_at-n.ensures.1) (sym (list_all_at has (take n vs) k 0 (omega (arith, long, c.loop-k-test.true)) (rw here (sym c.among_at.ensures ∙ c.if-not-among_at.true))))
