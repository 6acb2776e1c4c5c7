-- Demand 2. Assumes nothing.
use mathlib.Core.Path.{◌≡◌, refl, sym, ap, subst, ◌∙◌}
use mathlib.Core.Logic.{◌↔◌, ◌≢◌, ⊎_elim}
use mathlib.Core.Bool.{Bool, true, false, not, ◌||◌}
use mathlib.Core.List.{List, []}
use Rattle.std.specs.Prelude.{Option, None, Some}
use Prim.Native.Nat.{ℕ, zero, suc, ◌+◌, ◌≤◌}
use native.Mathlib.Omega.{arith}
use borrow.Author.Tests.{eqb-true, eq-eqb, ne_eqb, le-leb}
use lib.ListN.{length}
use lib.Dec.{eqb}
use Rattle.order.specs.Steps.{Answer, gives, refused, number as answerNumber, onward, done, run, rows, First, Gives, Named, Numbered}
use Rattle.order.proofs.Steps.{gives_refused, gives_exactly, run_named, run_follow, refuses_at, follow_number}
use Rattle.geo.proofs.Bools.{never, or_split}
use Rattle.octets.specs.Vectors.{nowhere}
use Rattle.octets.specs.declared.vectors.Part.{Part}
use Rattle.bitfields.specs.Field.{number, Octets}
use Rattle.message.specs.Messages.{Message, whole_message}
use Rattle.message.proofs.Forward.{message_forward}
use Rattle.message.proofs.Inside.{inside}
use Rattle.records.specs.declared.Record.{Record}
use Rattle.store.specs.Search.{find}
use Rattle.store.proofs.Found.{found_to}
use Rattle.octets.specs.Refusals.{UNKNOWN}
use Rattle.chain.specs.Chains.{Root, Chain, anchor, link, top}
use Rattle.chain.specs.Laws.{StoredIn}
use Rattle.chain.specs.Stored.{subject_or, issuer_in}
use Rattle.chain.specs.declared.subjects.Subject.{Subject}
use Rattle.chain.proofs.Answers.{read_named, read_given}
use Rattle.chain.proofs.Laws.{laws as Chain-laws}
use Rattle.signing.specs.Copies.{copying}
use Rattle.signing.specs.Signers.{carries, signing, subject_of, entitling, signed}
use Rattle.verification.specs.Order.{Decision, Prepared, own_position, Passed, passed, judging, decision_for, verified, deciding, undecided, decision_of, decision, certificate_question, issuer_question, unasked, questions_for, preparing, unprepared, prepared_of, preparation}
use Rattle.entries.specs.Stored.{part_of}
use Rattle.verification.specs.Payloads.{payload_of}
use Rattle.verification.specs.Accepted.{Passing, Accepted}
use Rattle.verification.specs.Demand.{Asked, Demand2}
use Rattle.verification.specs.declared.judging.Situation.{Situation}
use Rattle.signing.proofs.Signed.{signed_numbered}
use Rattle.verification.proofs.Opened.{decided_passes, prepared_passes}
use Rattle.verification.proofs.Passes.{passes_to, passes_from}
use Rattle.message.specs.Signers.{CARRIED}

-- ---- the verdicts

verified_to : (form certified : ℕ) → (not (eqb form 2) || eqb certified 1) ≡ true → form ≡ 2 → certified ≡ 1
verified_to form certified e k =
    ⊎_elim (λ n. never (sym (ap not (eq-eqb form 2 k)) ∙ n)) (λ h. eqb-true certified 1 h) (or_split (not (eqb form 2)) (eqb certified 1) e)

verified_from : (form certified : ℕ) → (form ≡ 2 → certified ≡ 1) → (not (eqb form 2) || eqb certified 1) ≡ true
verified_from form certified f = by (eqb form 2) refl
  where
    by : (b : Bool) → eqb form 2 ≡ b → (not b || eqb certified 1) ≡ true
    by true e = eq-eqb certified 1 (f (eqb-true form 2 e))
    by false e = refl

or_yes : (b : Bool) → (b || true) ≡ true
or_yes true = refl
or_yes false = refl

-- whoever is found stands in a slot
issuer_slot : (l : List ℕ) (c j : Subject) → issuer_in l c ≡ gives j → (i : ℕ) × (find l c.issuer ≡ Some i)
unfolding issuer_in
issuer_slot l c j e = by (find l c.issuer) refl e
  where
    by : (o : Option ℕ) → find l c.issuer ≡ o → subject_or UNKNOWN l o ≡ gives j → (i : ℕ) × (find l c.issuer ≡ Some i)
    by None f h = absurd (gives_refused j UNKNOWN h)
    by (Some i) f h = (i, f)

no_root : (r : Record) → r.scope.kind ≡ 1 → ¬ Root (subject_of r)
unfolding subject_of
no_root r k z = let e : ◌≡◌ {A = ℕ} 1 4 = sym k ∙ z in omega arith

-- a ticket in a chain has a stored issuer
chain_issuer : (l : List ℕ) (Own : Subject → Type 0) (n : ℕ) (r : Record) → r.scope.kind ≡ 1 → Chain (issuer_in l) Own n (subject_of r) → (i : ℕ) × (find l (number r.issuer) ≡ Some i)
unfolding subject_of
chain_issuer l Own n r k (anchor w t) = absurd (no_root r k t)
chain_issuer l Own (suc n) r k (link {j = j} w z f c) = issuer_slot l (subject_of r) j f.found

-- the certificate's question
issuer_asked : (store : List ℕ) (m : Message) (issuer i : ℕ) → m.headers.signer.form ≡ CARRIED → find store issuer ≡ Some i → certificate_question store m issuer ≡ issuer_question store m.headers.signer.certificate.signed m.headers.signer.certificate.signature.octets (Some i)
unfolding certificate_question
issuer_asked store m issuer i k f = rw (eq-eqb m.headers.signer.form CARRIED k, f)

none_asked : (store : List ℕ) (m : Message) (issuer : ℕ) → m.headers.signer.form ≢ CARRIED → certificate_question store m issuer ≡ unasked
unfolding certificate_question
none_asked store m issuer n = rw (ne_eqb m.headers.signer.form CARRIED n)

module _ (store octets : List ℕ) (x : Situation) where
  -- a message that passes was read, and its payload lies inside
  read_inside : (p : Passed) → run (judging store octets x) ≡ gives p → p.message.payload.start + p.message.payload.length ≤ length octets
  read_inside p e = by ((gives_exactly (judging store octets x) p).0 e)
    where
      by : Gives (judging store octets x) p → p.message.payload.start + p.message.payload.length ≤ length octets
      by (size, (place, (age, (valid, (m, read, (timed, (r, signer, q))))))) =
          let reads = read_given (whole_message octets) m read in
          subst (λ (z : Passed). z.message.payload.start + z.message.payload.length ≤ length octets) (sym q) (inside octets m reads.0 reads.1).payload

  -- ---- decide

  module _ (verdict certified : ℕ) where
    numbered : Numbered (deciding store octets x verdict certified)
    numbered = (
      read_named (whole_message octets) (message_forward octets),
      λ m. (run_named (signed store octets m (own_position x)) (signed_numbered store octets m (own_position x)), λ r. tt),
    )

    -- what is given has the number 0
    given_zero : (d : Decision) → run (deciding store octets x verdict certified) ≡ gives d → d.number ≡ 0
    given_zero d e = by ((gives_exactly (deciding store octets x verdict certified) d).0 e)
      where
        by : Gives (deciding store octets x verdict certified) d → d.number ≡ 0
        by (size, (place, (age, (valid, (m, read, (timed, (r, signer, (c, (v, q))))))))) = ap (λ (z : Decision). z.number) q

    same_number : (decision store octets x verdict certified).number ≡ answerNumber (run (deciding store octets x verdict certified))
    unfolding decision
    same_number = by (run (deciding store octets x verdict certified)) refl
      where
        by : (a : Answer Decision) → run (deciding store octets x verdict certified) ≡ a → (decision_of a).number ≡ answerNumber a
        by (gives d) e = given_zero d e
        by (refused k) e = refl

    pub refused_first : (k : ℕ) → k ≢ 0 → ((decision store octets x verdict certified).number ≡ k) ↔ First (rows (deciding store octets x verdict certified)) k
    refused_first k z =
        let f = refuses_at (deciding store octets x verdict certified) k z in
        ((λ e. f.0 (sym same_number ∙ e)), (λ h. same_number ∙ f.1 h))

    pub refused_zeros : (decision store octets x verdict certified).number ≢ 0 → decision store octets x verdict certified ≡ undecided (decision store octets x verdict certified).number
    unfolding decision
    refused_zeros = by (run (deciding store octets x verdict certified)) refl
      where
        by : (a : Answer Decision) → run (deciding store octets x verdict certified) ≡ a → (decision_of a).number ≢ 0 → decision_of a ≡ undecided (decision_of a).number
        by (gives d) e n = absurd (n (given_zero d e))
        by (refused k) e n = refl

    zero_gives : answerNumber (run (deciding store octets x verdict certified)) ≡ 0 → (d : Decision) × (run (deciding store octets x verdict certified) ≡ gives d)
    zero_gives = by (run (deciding store octets x verdict certified)) (run_named (deciding store octets x verdict certified) numbered)
      where
        by : (a : Answer Decision) → Named a → answerNumber a ≡ 0 → (d : Decision) × (a ≡ gives d)
        by (gives d) n e = (d, refl)
        by (refused zero) n e = absurd n
        by (refused (suc k)) n e = absurd (let z : suc k ≡ 0 = e in omega arith)

    -- an accepted message passes what prepare asks too, and the verdicts are good
    pub record Verified : Type 0 where
      pub message : Passed
      pub judged : run (judging store octets x) ≡ gives message
      pub certificate : (not (carries message.message) || eqb certified 1) ≡ true
      pub verdict_good : eqb verdict 1 ≡ true

    passing : (decision store octets x verdict certified).number ≡ 0 → Verified
    passing e =
        let g = zero_gives (sym same_number ∙ e) in
        by (run (judging store octets x)) refl g.0 (sym (run_follow (judging store octets x) (λ p. verified p verdict certified)) ∙ g.1)
      where
        by : (a : Answer Passed) → run (judging store octets x) ≡ a → (d : Decision) → onward a (λ p. run (verified p verdict certified)) ≡ gives d → Verified
        by (gives p) j d h =
            let q = (gives_exactly (verified p verdict certified) d).0 h in
            record { message = p; judged = j; certificate = q.0; verdict_good = q.1.0 }
        by (refused k) j d h = absurd (gives_refused d k h)

    module _ (os : Octets store) (oo : Octets octets) where
      pub accepted_to : (decision store octets x verdict certified).number ≡ 0 → Accepted store octets x verdict certified
      accepted_to e =
          let g = passing e in
          record {
            message = g.message.message;
            signer = g.message.signer;
            rules = passes_to store octets x os oo g.message g.judged;
            certificate_verified = verified_to g.message.message.headers.signer.form certified g.certificate;
            message_verified = eqb-true verdict 1 g.verdict_good;
          }

      pub accepted_gives : (h : Accepted store octets x verdict certified) → decision store octets x verdict certified ≡ decision_for (passed h.message h.signer)
      accepted_gives h =
          sym (decided_passes store octets x verdict certified (passed h.message h.signer) (passes_from store octets x os oo h.message h.signer h.rules)
          (verified_from h.message.headers.signer.form certified h.certificate_verified) (eq-eqb verdict 1 h.message_verified))

    pub payload_inside : (decision store octets x verdict certified).number ≡ 0
        → (decision store octets x verdict certified).payload.start + (decision store octets x verdict certified).payload.length ≤ length octets
    payload_inside e =
        let g = passing e in
        let d = decided_passes store octets x verdict certified g.message g.judged g.certificate g.verdict_good in
        subst (λ (z : Decision). z.payload.start + z.payload.length ≤ length octets) d (read_inside g.message g.judged)

  -- ---- prepare

  given_prepared : (q : Prepared) → run (preparing store octets x) ≡ gives q → q.number ≡ 0
  given_prepared q e = by ((gives_exactly (preparing store octets x) q).0 e)
    where
      by : Gives (preparing store octets x) q → q.number ≡ 0
      by (size, (place, (age, (valid, (m, read, (timed, (r, signer, h))))))) = ap (λ (z : Prepared). z.number) h

  prepared_number : (preparation store octets x).number ≡ answerNumber (run (preparing store octets x))
  unfolding preparation
  prepared_number = by (run (preparing store octets x)) refl
    where
      by : (a : Answer Prepared) → run (preparing store octets x) ≡ a → (prepared_of a).number ≡ answerNumber a
      by (gives q) e = given_prepared q e
      by (refused k) e = refl

  pub unprepared_zeros : (preparation store octets x).number ≢ 0 → preparation store octets x ≡ unprepared (preparation store octets x).number
  unfolding preparation
  unprepared_zeros = by (run (preparing store octets x)) refl
    where
      by : (a : Answer Prepared) → run (preparing store octets x) ≡ a → (prepared_of a).number ≢ 0 → prepared_of a ≡ unprepared (prepared_of a).number
      by (gives q) e n = absurd (n (given_prepared q e))
      by (refused k) e n = refl

  -- good verdicts refuse nothing
  good : (p : Passed) → answerNumber (run (done (questions_for store p))) ≡ answerNumber (run (verified p 1 1))
  unfolding run
  good p = rw (or_yes (not (carries p.message)))

  pub prepares : (preparation store octets x).number ≡ (decision store octets x 1 1).number
  prepares =
      prepared_number ∙ follow_number (judging store octets x) (λ p. done (questions_for store p)) (λ p. verified p 1 1) good ∙ sym (same_number 1 1)

  module _ (os : Octets store) (oo : Octets octets) where
    pub asked : (preparation store octets x).number ≡ 0 → Asked store octets x (preparation store octets x)
    asked e =
        let g = passing 1 1 (sym prepares ∙ e) in
        let p = g.message in
        let h = passes_to store octets x os oo p g.judged in
        let slot = chain_issuer store _ 7 p.signer h.kind h.chain in
        subst (λ (q : Prepared). Asked store octets x q) (prepared_passes store octets x p g.judged) (record {
          message = p.message;
          signer = p.signer;
          rules = h;
          signers_key = refl;
          issuers_key = λ k. (slot.0, found_to store (number p.signer.issuer) slot.0 slot.1, issuer_asked store p.message (number p.signer.issuer) slot.0 k slot.1);
          none_asked = λ n. none_asked store p.message (number p.signer.issuer) n;
        })

anchored : (store octets : List ℕ) (x : Situation) (m : Message) (r : Record) (h : Passing store octets x m r) → Root (top h.chain) × StoredIn store (top h.chain)
anchored store octets x m r h = (
  (Chain-laws.top_root (issuer_in store) _ 7 (subject_of r) h.chain).0,
  Chain-laws.root_found store _ 7 (subject_of r) (no_root r h.kind) h.chain,
)

payload_octets_lem : (octets : List ℕ) (p : Part) → p.start + p.length ≤ length octets → payload_of octets p ≡ part_of octets p
unfolding payload_of
payload_octets_lem octets p h = rw (le-leb (p.start + p.length) (length octets) h)

payload_empty : (octets : List ℕ) → payload_of octets nowhere ≡ []
unfolding payload_of
payload_empty octets = rw (le-leb 0 (length octets) (omega arith))

pub demand2 : Demand2
demand2 = record {
  accepted_exactly = λ store octets x verdict certified os oo. (
    accepted_to store octets x verdict certified os oo,
    (λ h. ap (λ (d : Decision). d.number) (accepted_gives store octets x verdict certified os oo h)),
  );
  accepted_gives = accepted_gives;
  refused_first = refused_first;
  signer_first = λ store octets m own k z. refuses_at (signed store octets m own) k z;
  signing_first = λ store octets m k z. refuses_at (signing store octets m) k z;
  copy_first = λ store r k z. refuses_at (copying store r) k z;
  entitled_first = λ store f own r k z. refuses_at (entitling store f own r) k z;
  refused_zeros = refused_zeros;
  prepares = prepares;
  unprepared_zeros = unprepared_zeros;
  asked = asked;
  anchored = anchored;
  payload_inside = payload_inside;
  payload_octets_lem = λ store octets x verdict certified e. payload_octets_lem octets _ (payload_inside store octets x verdict certified e);
  payload_empty = λ store octets x verdict certified n.
      ap (λ (d : Decision). payload_of octets d.payload) (refused_zeros store octets x verdict certified n) ∙ payload_empty octets;
}
