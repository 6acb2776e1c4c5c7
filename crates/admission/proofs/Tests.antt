-- The tests of a record and of its issuer, return by return. Assumes nothing.
use mathlib.Core.Path.{◌≡◌, refl, sym, ap, ◌∙◌}
use mathlib.Core.Bool.{Bool, true, false, not}
use mathlib.Core.List.{List}
use Rattle.std.specs.Prelude.{Option, None, Some, is_some}
use Prim.Native.Nat.{ℕ, zero, suc}
use native.Mathlib.Omega.{arith}
use lib.Dec.{eqb}
use Rattle.order.specs.Steps.{Answer, gives, refused, number as answerNumber, Steps, done, need, take, needs, run, Named, Numbered, Well, well}
use Rattle.order.proofs.Steps.{run_named, passes, fails, takes, halts}
use Rattle.bitfields.specs.Field.{number}
use Rattle.scope.specs.Issued.{issued_rows, issued_number}
use Rattle.scope.specs.declared.Scope.{Scope}
use Rattle.scope.proofs.Rows.{issued_alone}
use Rattle.records.specs.Records.{scope_of}
use Rattle.records.specs.declared.Record.{Record}
use Rattle.store.specs.Slots.{slot_of, id_at}
use Rattle.store.specs.Search.{find}
use Rattle.store.specs.Withdrawn.{withdrawn_in}
use Rattle.store.proofs.Found.{find_finds, found_again}
use Rattle.chain.specs.Stored.{slot_or}
use Rattle.chain.proofs.Answers.{slot_named}
use Rattle.admission.specs.Order.{absent, below_issuer, issuer_steps, testing}
use Rattle.admission.specs.Computed.{below_number, issuer_number, issuer_refusal, test_number}

-- an answer that gives nothing but its passing is known by its number
passed : (a : Answer Well) → Named a → answerNumber a ≡ 0 → a ≡ gives well
passed (gives w) n e = refl
passed (refused zero) n e = absurd n
passed (refused (suc k)) n e = absurd (omega arith)

stopped : (a : Answer Well) → ¬ (answerNumber a ≡ 0) → a ≡ refused (answerNumber a)
stopped (gives w) n = absurd (n refl)
stopped (refused k) n = refl

-- an id that is sought, found or not
pub some_held : (o : Option ℕ) → is_some o ≡ true → absent o ≡ false
some_held None e = sym e
some_held (Some i) e = refl

pub none_held : (o : Option ℕ) → is_some o ≡ false → absent o ≡ true
none_held None e = refl
none_held (Some i) e = sym e

module _ (store : List ℕ) (subject : Scope) (i : ℕ) where
  pub below_withdrawn : withdrawn_in store (id_at store i) ≡ true → ◌≡◌ {A = ℕ} 8 (below_number store subject i)
  unfolding below_number
  below_withdrawn e = sym (ap answerNumber (fails (ap not e) 8 (needs (issued_rows subject (scope_of (slot_of store i))) (done well))))

  pub below_held : withdrawn_in store (id_at store i) ≡ false → issued_number subject (scope_of (slot_of store i)) ≡ below_number store subject i
  unfolding below_number
  below_held e =
      sym (ap answerNumber (passes (ap not e) 8 (needs (issued_rows subject (scope_of (slot_of store i))) (done well)))
      ∙ issued_alone subject (scope_of (slot_of store i)))

module _ (store : List ℕ) (id : ℕ) (subject : Scope) where
  pub issuer_unknown : find store id ≡ None → ◌≡◌ {A = ℕ} 7 (issuer_number store id subject)
  unfolding issuer_number
  issuer_unknown e = sym (ap answerNumber (halts (ap (slot_or 7) e) (below_issuer store id subject)))

  pub issuer_found : (i : ℕ) → find store id ≡ Some i → below_number store subject i ≡ issuer_number store id subject
  unfolding issuer_number below_number
  issuer_found i e =
      ap (λ (x : ℕ). answerNumber (run (below_issuer store x subject i))) (find_finds store id i e).2
      ∙ sym (ap answerNumber (takes (ap (slot_or 7) e) (below_issuer store id subject)))

pub issuer_numbered : (anchor : Bool) (store : List ℕ) (r : Record) → Numbered (issuer_steps anchor store r)
issuer_numbered true store r = tt
issuer_numbered false store r = (slot_named 6 (find store (number r.issuer)), λ i. tt)

module _ (anchor : Bool) (store : List ℕ) (r : Record) where
  pub anchor_passes : anchor ≡ true → ◌≡◌ {A = ℕ} 0 (issuer_refusal anchor store r)
  unfolding issuer_refusal run
  anchor_passes e = sym (ap (λ (b : Bool). answerNumber (run (issuer_steps b store r))) e)

  pub issuer_asked : anchor ≡ false → issuer_number store (number r.issuer) r.scope ≡ issuer_refusal anchor store r
  unfolding issuer_refusal issuer_number
  issuer_asked e = sym (ap (λ (b : Bool). answerNumber (run (issuer_steps b store r))) e)

  pub issuer_gives : issuer_refusal anchor store r ≡ 0 → run (issuer_steps anchor store r) ≡ gives well
  unfolding issuer_refusal
  issuer_gives e = passed (run (issuer_steps anchor store r)) (run_named (issuer_steps anchor store r) (issuer_numbered anchor store r)) e

  pub issuer_stops : ¬ (issuer_refusal anchor store r ≡ 0) → run (issuer_steps anchor store r) ≡ refused (issuer_refusal anchor store r)
  unfolding issuer_refusal
  issuer_stops n = stopped (run (issuer_steps anchor store r)) n

-- the rows behind the first
abbrev judged : ℕ → Steps Well
judged verdict = need 15 (eqb verdict 1) (done well)

abbrev asked : Bool → List ℕ → Record → ℕ → Steps Well
asked anchor store r verdict = take (run (issuer_steps anchor store r)) (λ w. judged verdict)

module _ (anchor : Bool) (store : List ℕ) (r : Record) (verdict : ℕ) where
  pub test_held : absent (find store (number r.id)) ≡ false → ◌≡◌ {A = ℕ} 17 (test_number anchor store r verdict)
  unfolding test_number
  test_held h = sym (ap answerNumber (fails h 17 (asked anchor store r verdict)))

  module _ (h : absent (find store (number r.id)) ≡ true) where
    pub test_issuer : ¬ (issuer_refusal anchor store r ≡ 0) → issuer_refusal anchor store r ≡ test_number anchor store r verdict
    unfolding test_number
    test_issuer n = sym (ap answerNumber (passes h 17 (asked anchor store r verdict) ∙ halts (issuer_stops anchor store r n) (λ w. judged verdict)))

    pub test_signature : issuer_refusal anchor store r ≡ 0 → eqb verdict 1 ≡ false → ◌≡◌ {A = ℕ} 15 (test_number anchor store r verdict)
    unfolding test_number
    test_signature z v =
        sym (ap answerNumber (passes h 17 (asked anchor store r verdict) ∙ takes (issuer_gives anchor store r z) (λ w. judged verdict) ∙ fails v 15 (done well)))

    pub test_passes : issuer_refusal anchor store r ≡ 0 → eqb verdict 1 ≡ true → ◌≡◌ {A = ℕ} 0 (test_number anchor store r verdict)
    unfolding test_number run
    test_passes z v =
        sym (ap answerNumber (passes h 17 (asked anchor store r verdict) ∙ takes (issuer_gives anchor store r z) (λ w. judged verdict) ∙ passes v 15 (done well)))

  test_numbered : Numbered (testing anchor store r verdict)
  test_numbered = (run_named (issuer_steps anchor store r) (issuer_numbered anchor store r), λ w. tt)

  pub test_gives : test_number anchor store r verdict ≡ 0 → run (testing anchor store r verdict) ≡ gives well
  unfolding test_number
  test_gives e = passed (run (testing anchor store r verdict)) (run_named (testing anchor store r verdict) test_numbered) e

  pub test_stops : ¬ (test_number anchor store r verdict ≡ 0) → run (testing anchor store r verdict) ≡ refused (test_number anchor store r verdict)
  unfolding test_number
  test_stops n = stopped (run (testing anchor store r verdict)) n

-- what the answers of an issuer's tests need
pub ruleset issuer_tests = (below_withdrawn, below_held, issuer_unknown, issuer_found, found_again, anchor_passes, issuer_asked)
