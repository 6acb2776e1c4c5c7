-- Test by test, on the store as an array; the certificate is that of its outline, by the law.
use Rattle.std.proofs.Common.{◌≡◌, sym, ap, subst, ◌∙◌, true, List, ℕ, length, arith}
use Rattle.std.specs.Prelude.{eqb}
use Rattle.std.specs.Array.{IsWholeChunk}
use borrow.Author.Tests.{eq-eqb, ne_eqb}
use Rattle.octets.proofs.Outcomes.{passed_on, number_no_zero}
use Rattle.certificate.specs.Operations.{Reading}
use Rattle.certificate.proofs.Filled.{reading_filled, wholly_outlined}
use Rattle.bitfields.specs.Field.{Octets}
use Rattle.records.specs.Ranges.{InRange}
use Rattle.records.specs.declared.Record.{Record}
use Rattle.store.specs.Slots.{store_length}
use Rattle.admission.specs.Computed.{placed}
use Rattle.entries.proofs.Facts.{facts}
use Rattle.entries.proofs.Standing.{outlined_standing}
use Rattle.admission.proofs.Entered.{entered_length, entered_bad, entered_unread, entered_kind, entered_placed}
use Rattle.admission.proofs.operations.enter.Goals as goal

sized : (l m : List ℕ) → IsWholeChunk l m store_length → eqb (length m) store_length ≡ true
sized l m w = eq-eqb _ _ (ap length w.same ∙ w.long)

pub returns-in_default : goal.returns-in_default
returns-in_default c = entered_length _ _ _ _ (ne_eqb _ _ c.in_default.ensures.cases)

pub returns-then-not-valid : goal.returns-then-not-valid
returns-then-not-valid c =
    let w = c.in-Some.ensures.cases in
    rw (← w.same) (entered_bad _ _ _ _ (sized _ _ w) (sym c.valid.ensures ∙ c.if-not-valid.true))

pub returns-in_err-outline : goal.returns-in_err-outline
returns-in_err-outline c =
    let w = c.in-Some.ensures.cases in
    rw (← w.same, passed_on c.from_residual.result _ c.from_residual.ensures.1)
    (entered_unread _ _ _ _ (sized _ _ w) (sym c.valid.ensures ∙ c.if-not-valid.false) _ (ap (λ (a : Reading). a.number) (reading_filled _ _ c.in_err-outline.ensures)) (number_no_zero _))

pub returns-then-not-takes : goal.returns-then-not-takes
returns-then-not-takes c =
    let w = c.in-Some.ensures.cases in
    rw (← w.same) (entered_kind _ _ _ _ (sized _ _ w) (sym c.valid.ensures ∙ c.if-not-valid.false) _ (sym (reading_filled _ _ c.in_ok-outline.ensures)) (sym c.takes.ensures ∙ c.if-not-takes.true))

pub record_from-r-requires : goal.record_from-r-requires
record_from-r-requires c = wholly_outlined _ _ _ (sym c.in_ok-outline.ensures)

pub place-requires : goal.place-requires
place-requires c =
    let o : Octets c.args.octets.now = λ i. omega (arith, c.type_inv.octets i) in
    let f = facts _ _ o (outlined_standing _ _ o (wholly_outlined _ _ _ (sym c.in_ok-outline.ensures))) in
    subst InRange (sym c.record_from-r.ensures) f.in_range_lem

pub returns : goal.returns
returns c =
    let w = c.in-Some.ensures.cases in
    rw (← w.same) (
    c.place.ensures
    ∙ ap (λ (r : Record). placed c.args.anchor c.in-Some.store.now r c.args.verdict) c.record_from-r.ensures
    ∙ entered_placed _ _ _ _ (sized _ _ w) (sym c.valid.ensures ∙ c.if-not-valid.false) _ (sym (reading_filled _ _ c.in_ok-outline.ensures)) (sym c.takes.ensures ∙ c.if-not-takes.false)
    )
