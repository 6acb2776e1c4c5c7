use Rattle.std.proofs.Common.{◌≡◌, sym, ap, ◌∙◌, true, false}
use borrow.Author.Tests.{eq-eqb, ne_eqb}
use Rattle.octets.specs.Outcomes.{answer_of}
use Rattle.octets.proofs.Outcomes.{passed_on, number_no_zero}
use Rattle.bitfields.specs.Field.{number}
use Rattle.store.specs.Search.{find}
use Rattle.admission.specs.Order.{absent}
use Rattle.admission.proofs.Tests.{some_held, none_held, test_held, test_issuer, test_signature, test_passes}
use Rattle.admission.proofs.operations.test.Goals as goal
use Rattle.admission.proofs.operations.test.Goals.{After-is_some}

sought : (c : After-is_some) → c.find_id.result ≡ find c.args.store.now (number c.args.r.now.id)
sought c = c.find_id.ensures ∙ ap (find c.args.store.now) c.as_number.ensures

held : (c : After-is_some) → c.is_some.result ≡ true → absent (find c.args.store.now (number c.args.r.now.id)) ≡ false
held c e = ap absent (sym (sought c)) ∙ some_held _ (sym c.is_some.ensures ∙ e)

free : (c : After-is_some) → c.is_some.result ≡ false → absent (find c.args.store.now (number c.args.r.now.id)) ≡ true
free c e = ap absent (sym (sought c)) ∙ none_held _ (sym c.is_some.ensures ∙ e)

pub returns-then-is_some : goal.returns-then-is_some
returns-then-is_some c = test_held _ _ _ _ (held (goal.at.returns-then-is_some c).After-is_some c.if-is_some.true)

pub returns-in_err-test_issuer : goal.returns-in_err-test_issuer
returns-in_err-test_issuer c =
    ap answer_of (passed_on c.from_residual.result _ c.from_residual.ensures.1)
    ∙ c.in_err-test_issuer.ensures
    ∙ test_issuer _ _ _ _ (free (goal.at.returns-in_err-test_issuer c).After-is_some c.if-is_some.false) (λ e. number_no_zero _ (c.in_err-test_issuer.ensures ∙ e))

pub returns-then-verdict-ne-GOOD : goal.returns-then-verdict-ne-GOOD
returns-then-verdict-ne-GOOD c = test_signature _ _ _ _ (free (goal.at.returns-then-verdict-ne-GOOD c).After-is_some c.if-is_some.false) (sym c.in_ok-test_issuer.ensures) (ne_eqb _ _ c.if-verdict-ne-GOOD.true)

pub returns : goal.returns
returns c = test_passes _ _ _ _ (free (goal.at.returns c).After-is_some c.if-is_some.false) (sym c.in_ok-test_issuer.ensures) (eq-eqb _ _ c.if-verdict-ne-GOOD.false)
