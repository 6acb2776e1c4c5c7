-- Test by test, of the record that the certificate would be stored as. Assumes nothing.
use Rattle.std.proofs.Common.{◌≡◌, ◌∙◌, ap, arith}
use Rattle.octets.proofs.Outcomes.{passed_on, number_no_zero}
use Rattle.records.specs.Ranges.{InRange}
use Rattle.chain.specs.Outcomes.{outcome_of}
use Rattle.entries.specs.Stored.{record_from}
use Rattle.entries.specs.Standing.{certificate_in}
use Rattle.entries.proofs.Facts.{facts}
use Rattle.entries.proofs.Standing.{stands_at}
use Rattle.signing.proofs.Recorded.{recorded}
use Rattle.signing.proofs.Signed.{carried_stops}
use Rattle.signing.proofs.signers.carried_signer.Goals as goal
use Rattle.signing.proofs.signers.carried_signer.Goals.{After-record_from-r}

-- the record is that of the certificate that stands there
same : (c : After-record_from-r) → let a = c.args in c.record_from-r.result ≡ record_from a.octets.now (certificate_in a.octets.now a.at)
same c = c.record_from-r.ensures ∙ recorded _ _ _ _ c.in_ok-outline.ensures

pub copy_number-requires : goal.copy_number-requires
copy_number-requires c =
    let a = c.args in
    rw (same (goal.at.copy_number-requires c).After-record_from-r)
    (facts a.octets.now (certificate_in a.octets.now a.at) (λ i. omega (arith, c.type_inv.octets i)) (stands_at _ _ c.requires)).in_range_lem

pub returns-in_err-copy_number : goal.returns-in_err-copy_number
returns-in_err-copy_number c =
    ap outcome_of (passed_on c.from_residual-in_err-copy_number.result _ c.from_residual-in_err-copy_number.ensures.1)
    ∙ carried_stops _ _ _ _ _ _ (rw (same (goal.at.returns-in_err-copy_number c).After-record_from-r) at c.in_err-copy_number.ensures) (number_no_zero _)

pub identity_of-requires : goal.identity_of-requires
identity_of-requires c =
    let a = c.args in
    let r : InRange c.record_from-r.result =
    rw (same (goal.at.identity_of-requires c).After-record_from-r)
    (facts a.octets.now (certificate_in a.octets.now a.at) (λ i. omega (arith, c.type_inv.octets i)) (stands_at _ _ c.requires)).in_range_lem in
    r.parity
