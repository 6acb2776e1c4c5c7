-- What the code answers on the way; no contract of an operation rests on it.
use Rattle.std.specs.Prelude.{ℕ, Bool, List}
use Rattle.order.specs.Steps.{number, run}
use Rattle.scope.specs.declared.Scope.{Scope}
use Rattle.records.specs.declared.Record.{Record}
use Rattle.store.specs.Slots.{id_at}
use Rattle.admission.specs.Order.{below_issuer, under_issuer, issuer_steps, testing, placing, leaving}

-- the numbers of tests, 0 if all pass
unfoldable pub below_number : List ℕ → Scope → ℕ → ℕ
below_number store subject i = number (run (below_issuer store (id_at store i) subject i))

unfoldable pub issuer_number : List ℕ → ℕ → Scope → ℕ
issuer_number store id subject = number (run (under_issuer store id subject))

unfoldable pub issuer_refusal : Bool → List ℕ → Record → ℕ
issuer_refusal anchor store r = number (run (issuer_steps anchor store r))

unfoldable pub test_number : Bool → List ℕ → Record → ℕ → ℕ
test_number anchor store r verdict = number (run (testing anchor store r verdict))

unfoldable pub placed : Bool → List ℕ → Record → ℕ → ℕ × List ℕ
placed anchor store r verdict = leaving store (run (placing anchor store r verdict))
