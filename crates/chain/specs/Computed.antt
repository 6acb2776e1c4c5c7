-- What the code answers on the way; no contract of an operation rests on it.
use Rattle.std.specs.Prelude.{◌≡◌, Bool, ◌||◌, List, ℕ, ◌-◌, ◌<◌, eqb, Option, None, Some, Result, Ok, Err}
use Rattle.order.specs.Steps.{Answer, gives, refused, onward, done, stop, take, fork, run, needs, first_of}
use Rattle.octets.specs.Refusals.{ACCEPTED, UNKNOWN, CHAIN_TOO_LONG}
use Rattle.scope.specs.Issued.{issued_rows}
use Rattle.scope.specs.declared.Scope.{Scope}
use Rattle.records.specs.Records.{scope_of}
use Rattle.store.specs.Slots.{slot_count, slot_of, id_at}
use Rattle.store.specs.Search.{find}
use Rattle.store.specs.Withdrawn.{at_found, withdrawn_in}
use Rattle.chain.specs.declared.subjects.Subject.{Subject}
use Rattle.chain.specs.Places.{Place}
use Rattle.octets.specs.Outcomes.{number_of}
use Rattle.octets.specs.declared.refusals.Refusal.{Refusal}
use Rattle.chain.specs.Walk.{place_rows, own_rows, is_root}
use Rattle.chain.specs.Stored.{subject_at, slot_or, walk_number}

-- no slot has this number
abbrev pub no_slot : ℕ
no_slot = slot_count

-- what counts as withdrawn, where the certificate in slot g does too (`no_slot`: none does)
unfoldable pub also_at : List ℕ → ℕ → ℕ → Bool
also_at l g id = at_found (λ i. eqb i g) (find l id) || withdrawn_in l id

unfoldable pub place_number : Place → Scope → ℕ
place_number p s = first_of (place_rows p s)

unfoldable pub own_number : (ℕ → Bool) → ℕ → Place → Subject → ℕ
own_number gone t p c = first_of (own_rows gone t p c)

-- the slot that counts as withdrawn besides those that are, if one does
abbrev pub gone_of : Option ℕ → ℕ
gone_of None = no_slot
gone_of (Some g) = g

-- the slot of the issuer, or the end of the walk: at a root, or at the first test that fails
abbrev pub up_of : Result (Option ℕ) Refusal → Answer ℕ
up_of (Ok (Some j)) = gives j
up_of (Ok None) = refused ACCEPTED
up_of (Err e) = refused (number_of e)

-- the slot of an issuer that was found, if it allows all that the subject does
unfoldable pub linked : List ℕ → Scope → ℕ → Answer ℕ
linked l subject j = run (needs (issued_rows subject (scope_of (slot_of l j))) (done j))

-- the slot of the issuer: 7, 10, 11, 12, 13
unfoldable pub upward : List ℕ → Subject → Answer ℕ
upward l c = onward (slot_or UNKNOWN (find l c.issuer)) (linked l c.scope)

-- where a walk goes from a certificate that n may follow: to the slot of its issuer; or the number by which it ends there, 0 at a root
unfoldable pub stepped : (ℕ → Bool) → List ℕ → ℕ → Place → ℕ → Subject → Answer ℕ
stepped gone l t p n c =
    run (needs (own_rows gone t p c) (fork (is_root c) (stop 0) (fork (eqb n 0) (stop CHAIN_TOO_LONG) (take (upward l c) (λ j. done j)))))

-- what a walk answers after a step from a certificate that n may follow: the number by which it ended, or the walk from the issuer
abbrev pub walked_on : (ℕ → Bool) → List ℕ → ℕ → Place → ℕ → Answer ℕ → ℕ
walked_on gone l t p n (gives j) = walk_number gone l t p (n - 1) (subject_at l j)
walked_on gone l t p n (refused k) = k

-- a step leads only to a slot that its id finds, and only where one more may follow
abbrev pub Leads : List ℕ → ℕ → Answer ℕ → Type 0
Leads l n (gives j) = ¬ (n ≡ 0) × (j < slot_count) × (find l (id_at l j) ≡ Some j)
Leads l n (refused k) = Unit {0}
