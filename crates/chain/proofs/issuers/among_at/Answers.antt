use Rattle.std.proofs.Common.{◌≡◌, ◌∙◌, sym, arith, take, length, get_or, get_or-take, length-take-le}
use Rattle.std.specs.Prelude.{eqb}
use Rattle.std.proofs.lemmas.List.Folds.{list_any_at}
use borrow.Author.Tests.{eq-eqb}
use Rattle.store.specs.Slots.{permissions_at}
use Rattle.store.proofs.Places.{permissions_long}
use Rattle.chain.proofs.issuers.among_at.Goals as goal

pub returns-then-value-permission_at : goal.returns-then-value-permission_at
returns-then-value-permission_at c =
    let a = c.args in
    let vs = permissions_at a.store.now a.slot in
    let long : length (take a.n vs) ≡ a.n = length-take-le a.n vs (omega (arith, permissions_long a.store.now a.slot)) in
    let here : get_or (take a.n vs) c.loop-k.k 0 ≡ c.permission_at.result = get_or-take a.n vs c.loop-k.k 0 c.loop-k-test.true ∙ sym c.permission_at.ensures in
    sym (list_any_at (eqb a.value) (take a.n vs) c.loop-k.k 0 (omega (arith, long, c.loop-k-test.true)) (rw here (eq-eqb _ _ c.if-value-permission_at.true)))
