use Rattle.std.proofs.Common.{◌∙◌, sym, ap, List, ℕ}
use Rattle.bitfields.specs.Words.{word_at}
use Rattle.store.specs.Search.{find}
use Rattle.store.proofs.Found.{found_again}
use Rattle.withdrawal.proofs.Asked.{id_number, asked_id, asked_bad, asked_unknown, asked_at}
use Rattle.withdrawal.proofs.asking.ask.Goals as goal

pub returns-in_default : goal.returns-in_default
returns-in_default c = asked_id _ _ c.told-store c.in_default.ensures.cases

pub returns-then-not-valid : goal.returns-then-not-valid
returns-then-not-valid c = asked_bad _ _ c.told-store c.in-Some.ensures.cases.long (sym c.valid.ensures ∙ c.if-not-valid.true)

pub held-requires : goal.held-requires
held-requires c = found_again _ _ _ (sym c.find_id.ensures ∙ c.in-Some-find_id.is)

pub returns-in-None : goal.returns-in-None
returns-in-None c =
    let whole = c.in-Some.ensures.cases in
    let id = c.window.ensures ∙ ap (λ (l : List ℕ). word_at l 0) whole.same ∙ id_number _ whole.long in
    asked_unknown _ _ c.told-store whole.long (sym c.valid.ensures ∙ c.if-not-valid.false) (ap (find c.args.store.now) (sym id) ∙ sym c.find_id.ensures ∙ c.in-None.is)

pub returns-in-Some-find_id : goal.returns-in-Some-find_id
returns-in-Some-find_id c =
    let whole = c.in-Some.ensures.cases in
    let id = c.window.ensures ∙ ap (λ (l : List ℕ). word_at l 0) whole.same ∙ id_number _ whole.long in
    c.held.ensures
    ∙ asked_at _ _ c.told-store whole.long (sym c.valid.ensures ∙ c.if-not-valid.false) _ (ap (find c.args.store.now) (sym id) ∙ sym c.find_id.ensures ∙ c.in-Some-find_id.is)
