-- What prepare and decide share, return by return, and what they make of it. Assumes nothing.
use mathlib.Core.Path.{◌≡◌, refl, sym, ap, ◌∙◌}
use mathlib.Core.Bool.{Bool, true, false, not, ◌||◌}
use mathlib.Core.List.{List}
use Prim.Native.Nat.{ℕ}
use lib.ListN.{length}
use lib.Dec.{eqb, leb}
use Rattle.order.specs.Steps.{Answer, gives, refused, onward, Steps, done, need, take, run}
use Rattle.order.proofs.Steps.{passes, fails, takes, halts, run_follow, gives_exactly, gives_refused}
use Rattle.octets.specs.Reading.{pick, got, refused as unread}
use Rattle.octets.proofs.Kept.{kept_got, kept_refused}
use Rattle.message.specs.Messages.{Message, whole_message}
use Rattle.message.specs.Parts.{given_parts, message_parts}
use Rattle.message.specs.declared.signers.SignerParts.TheVariants.{Named, Carried}
use Rattle.octets.specs.declared.vectors.Part.{Part}
use Rattle.bitfields.specs.Field.{number}
use Rattle.store.specs.Search.{find}
use Rattle.message.specs.declared.messages.MessageParts.{MessageParts}
use Rattle.records.specs.declared.Record.{Record}
use Rattle.store.specs.Slots.{store_length}
use Rattle.validity.specs.Valid.{valid_store}
use Rattle.chain.specs.Stored.{answered}
use Rattle.chain.proofs.Answers.{read_given}
use Rattle.signing.specs.Times.{longest_age, in_time}
use Rattle.signing.specs.Places.{in_range}
use Rattle.signing.specs.Signers.{carries, signed}
use Rattle.signing.specs.Computed.{signer_judged, signer_of}
use Rattle.verification.specs.Order.{own_position, Passed, passed, judging, verified, undecided, decision_for, decision_of, decision, unasked, issuer_question, certificate_question, questions_for, unprepared, prepared_of, preparation}
use Rattle.verification.specs.Computed.{PartsIn, opening, parts_of, opened, parts_question, questions_from, prepared_from, carries_in, verified_from, decided_from}
use Rattle.verification.specs.declared.judging.Situation.{Situation}

-- what the parts of a signer say of the certificate
asked_by : (t : Bool) (store : List ℕ) (issuer : ℕ) (a b c : Part)
    → parts_question store issuer (pick t (Carried a b) (Named c)) ≡ pick t (issuer_question store a b (find store issuer)) unasked
asked_by true store issuer a b c = refl
asked_by false store issuer a b c = refl

carry_by : (t : Bool) (a b c : Part) → carries_in (pick t (Carried a b) (Named c)) ≡ t
carry_by true a b c = refl
carry_by false a b c = refl

parts_asked : (store : List ℕ) (issuer : ℕ) (m : Message) → parts_question store issuer (given_parts m.headers.signer) ≡ certificate_question store m issuer
unfolding certificate_question
parts_asked store issuer m = asked_by (carries m) store issuer _ _ _

parts_carry : (m : Message) → carries_in (given_parts m.headers.signer) ≡ carries m
parts_carry m = carry_by (carries m) _ _ _

module _ (store octets : List ℕ) (x : Situation) where
  -- ---- the rows before the signer

  abbrev timing : Message → Steps Message
  timing m = need 14 (in_time m.headers.fields x.time x.age) (done m)

  abbrev reading : Steps Message
  reading = take (answered (whole_message octets)) timing

  abbrev storing : Steps Message
  storing = need 2 (valid_store store) reading

  abbrev aging : Steps Message
  aging = need 1 (leb x.age longest_age) storing

  abbrev placing : Steps Message
  placing = need 1 (in_range x.position.latitude x.position.longitude) aging

  pub opened_length : eqb (length store) store_length ≡ false → refused 1 ≡ opened store octets x
  unfolding opened
  opened_length e = sym (ap parts_of (fails e 1 placing))

  module _ (size : eqb (length store) store_length ≡ true) where
    pub opened_place : in_range x.position.latitude x.position.longitude ≡ false → refused 1 ≡ opened store octets x
    unfolding opened
    opened_place e = sym (ap parts_of (passes size 1 placing ∙ fails e 1 aging))

    module _ (placed : in_range x.position.latitude x.position.longitude ≡ true) where
      pub opened_age : leb x.age longest_age ≡ false → refused 1 ≡ opened store octets x
      unfolding opened
      opened_age e = sym (ap parts_of (passes size 1 placing ∙ passes placed 1 aging ∙ fails e 1 storing))

      module _ (aged : leb x.age longest_age ≡ true) where
        to_storing : run (opening store octets x) ≡ run storing
        to_storing = passes size 1 placing ∙ passes placed 1 aging ∙ passes aged 1 storing

        pub opened_bad : valid_store store ≡ false → refused 2 ≡ opened store octets x
        unfolding opened
        opened_bad e = sym (ap parts_of (to_storing ∙ fails e 2 reading))

        module _ (good : valid_store store ≡ true) where
          to_reading : run (opening store octets x) ≡ run reading
          to_reading = to_storing ∙ passes good 2 reading

          pub opened_unread : (k : ℕ) → whole_message octets ≡ unread k → refused k ≡ opened store octets x
          unfolding opened
          opened_unread k e = sym (ap parts_of (to_reading ∙ halts (ap answered e) timing))

          module _ (m : Message) (n : ℕ) (read : whole_message octets ≡ got m n) where
            to_timing : run (opening store octets x) ≡ run (timing m)
            to_timing = to_reading ∙ takes (ap answered read) timing

            pub opened_late : in_time m.headers.fields x.time x.age ≡ false → refused 14 ≡ opened store octets x
            unfolding opened
            opened_late e = sym (ap parts_of (to_timing ∙ fails e 14 (done m)))

            pub opened_passes : in_time m.headers.fields x.time x.age ≡ true → gives (message_parts m) ≡ opened store octets x
            unfolding opened run
            opened_passes e = sym (ap parts_of (to_timing ∙ passes e 14 (done m)))

  -- ---- a message that was opened

  pub record Opened (p : MessageParts) : Type 0 where
    pub parts : PartsIn octets p
    pub given : run (opening store octets x) ≡ gives parts.0

  pub opened_to : (p : MessageParts) → gives p ≡ opened store octets x → Opened p
  unfolding opened
  opened_to p e = by (run (opening store octets x)) refl e
    where
      by : (a : Answer Message) → run (opening store octets x) ≡ a → gives p ≡ parts_of a → Opened p
      by (gives m) g q =
          let h = (gives_exactly (opening store octets x) m).0 g in
          let r = read_given (whole_message octets) h.1.1.1.1.0 h.1.1.1.1.1 in
          let same : h.1.1.1.1.0 ≡ m = sym h.1.1.1.1.2.1 in
          record { parts = (m, (r.0, r.1 ∙ ap (λ (y : Message). got y r.0) same), cc); given = g }
      by (refused k) g q = absurd (gives_refused p k (sym q))

  refused_to : (k : ℕ) → refused k ≡ opened store octets x → run (opening store octets x) ≡ refused k
  unfolding opened
  refused_to k e = by (run (opening store octets x)) e
    where
      by : (a : Answer Message) → refused k ≡ parts_of a → a ≡ refused k
      by (gives m) q = absurd (gives_refused (message_parts m) k q)
      by (refused j) q = let same : j ≡ k = cc in ap (λ (n : ℕ). refused n) same

  -- ---- what prepare and decide make of it

  abbrev finding : Message → Steps Passed
  finding m = take (run (signed store octets m (own_position x))) (λ r. done (passed m r))

  judging_follows : run (judging store octets x) ≡ onward (run (opening store octets x)) (λ m. run (finding m))
  judging_follows = run_follow (opening store octets x) finding

  prepared_by : (a : Answer Passed) → run (judging store octets x) ≡ a → preparation store octets x ≡ prepared_of (onward a (λ p. gives (questions_for store p)))
  unfolding preparation run
  prepared_by a e =
      ap prepared_of (run_follow (judging store octets x) (λ p. done (questions_for store p)) ∙ ap (λ (b : Answer Passed). onward b (λ p. gives (questions_for store p))) e)

  pub prepared_passes : (p : Passed) → run (judging store octets x) ≡ gives p → questions_for store p ≡ preparation store octets x
  prepared_passes p g = sym (prepared_by (gives p) g)

  pub prepared_stops : (k : ℕ) → refused k ≡ opened store octets x → unprepared k ≡ preparation store octets x
  prepared_stops k e = sym (prepared_by (refused k) (judging_follows ∙ ap (λ (a : Answer Message). onward a (λ m. run (finding m))) (refused_to k e)))

  pub prepared_signed : (m : Message) → run (opening store octets x) ≡ gives m
      → prepared_from store (message_parts m) (signer_of store octets m (own_position x)) ≡ preparation store octets x
  unfolding signer_of questions_from certificate_question run
  prepared_signed m g = by (run (signed store octets m (own_position x))) refl
    where
      on : run (judging store octets x) ≡ run (finding m)
      on = judging_follows ∙ ap (λ (a : Answer Message). onward a (λ y. run (finding y))) g

      by : (a : Answer Record) → run (signed store octets m (own_position x)) ≡ a → prepared_from store (message_parts m) (signer_judged a) ≡ preparation store octets x
      by (gives r) e = rw (parts_asked store (number r.issuer) m) (sym (prepared_by (gives (passed m r)) (on ∙ takes e (λ s. done (passed m s)))))
      by (refused k) e = sym (prepared_by (refused k) (on ∙ halts e (λ s. done (passed m s))))

  module _ (verdict certified : ℕ) where
    decided_by : (a : Answer Passed) → run (judging store octets x) ≡ a
        → decision store octets x verdict certified ≡ decision_of (onward a (λ p. run (verified p verdict certified)))
    unfolding decision
    decided_by a e =
        ap decision_of (run_follow (judging store octets x) (λ p. verified p verdict certified) ∙ ap (λ (b : Answer Passed). onward b (λ p. run (verified p verdict certified))) e)

    pub decided_passes : (p : Passed) → run (judging store octets x) ≡ gives p → (not (carries p.message) || eqb certified 1) ≡ true → eqb verdict 1 ≡ true
        → decision_for p ≡ decision store octets x verdict certified
    unfolding run
    decided_passes p g c e = sym (decided_by (gives p) g ∙ rw (c, e))

    pub decided_stops : (k : ℕ) → refused k ≡ opened store octets x → undecided k ≡ decision store octets x verdict certified
    decided_stops k e = sym (decided_by (refused k) (judging_follows ∙ ap (λ (a : Answer Message). onward a (λ m. run (finding m))) (refused_to k e)))

    pub decided_signed : (m : Message) → run (opening store octets x) ≡ gives m
        → decided_from (message_parts m) (signer_of store octets m (own_position x)) verdict certified ≡ decision store octets x verdict certified
    unfolding signer_of verified_from run
    decided_signed m g = by (run (signed store octets m (own_position x))) refl
      where
        on : run (judging store octets x) ≡ run (finding m)
        on = judging_follows ∙ ap (λ (a : Answer Message). onward a (λ y. run (finding y))) g

        verdicts : (r : Record) (a b : Bool) → (not (carries m) || eqb certified 1) ≡ a → eqb verdict 1 ≡ b
            → decided_from (message_parts m) (signer_judged (gives r)) verdict certified ≡ decision_of (run (verified (passed m r) verdict certified))
        verdicts r true true e f = rw (parts_carry m, e, f)
        verdicts r true false e f = rw (parts_carry m, e, f)
        verdicts r false b e f = rw (parts_carry m, e)

        by : (a : Answer Record) → run (signed store octets m (own_position x)) ≡ a
            → decided_from (message_parts m) (signer_judged a) verdict certified ≡ decision store octets x verdict certified
        by (gives r) e = verdicts r _ _ refl refl ∙ sym (decided_by (gives (passed m r)) (on ∙ takes e (λ s. done (passed m s))))
        by (refused k) e = sym (decided_by (refused k) (on ∙ halts e (λ s. done (passed m s))))

-- what the tests before the signer cite
pub ruleset opened_tests = (kept_got, kept_refused, opened_place, opened_age, opened_bad, opened_unread, opened_late, opened_passes)
