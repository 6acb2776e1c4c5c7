-- A refusal of the tests goes on up. Assumes nothing.
use Rattle.std.proofs.Common.{◌≡◌, ◌∙◌, ap, sym, ℕ, take, drop}
use Rattle.bitfields.specs.Field.{number}
use Rattle.bitfields.proofs.Window.{word_number}
use Rattle.octets.proofs.Outcomes.{passed_on, number_no_zero}
use Rattle.store.specs.Search.{find}
use Rattle.chain.specs.Outcomes.{outcome_of}
use Rattle.entries.specs.Stored.{part_of}
use Rattle.signing.proofs.Signed.{named_stops}
use Rattle.signing.proofs.signers.named_signer.Goals as goal
use Rattle.signing.proofs.signers.named_signer.Goals.{After-find_id}

-- the slot of the id, which is eight octets
asked : (c : After-find_id) → let a = c.args in find a.store.now (number (part_of a.octets.now a.digest)) ≡ c.find_id.result
asked c =
    let a = c.args in
    ap (find a.store.now) (sym (
    c.window.ensures ∙ word_number a.octets.now a.digest.start c.requires.0
    ∙ ap (λ (n : ℕ). number (take n (drop a.digest.start a.octets.now))) (sym c.requires.1)
    ))
    ∙ sym c.find_id.ensures

pub returns-in_err-entitled_at-in-Some : goal.returns-in_err-entitled_at-in-Some
returns-in_err-entitled_at-in-Some c =
    ap outcome_of (passed_on c.from_residual.result _ c.from_residual.ensures.1)
    ∙ named_stops _ _ _ _ _ _ (asked (goal.at.returns-in_err-entitled_at-in-Some c).After-find_id ∙ c.in-Some.is) _ c.in_err-entitled_at-in-Some.ensures (number_no_zero _)
