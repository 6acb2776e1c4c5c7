-- A message passes exactly if the rules hold that prepare and decide share. Assumes nothing.
use mathlib.Core.Path.{◌≡◌, refl, sym, ap, subst}
use mathlib.Core.List.{List}
use Prim.Native.Nat.{ℕ}
use borrow.Author.Tests.{leb-true, le-leb, eqb-true, eq-eqb}
use Rattle.order.specs.Steps.{gives, run, well, Gives}
use Rattle.order.proofs.Steps.{gives_exactly}
use Rattle.geo.proofs.Bools.{and_split, and_join}
use Rattle.bitfields.specs.Field.{Octets}
use Rattle.message.specs.Messages.{Message, whole_message}
use Rattle.records.specs.declared.Record.{Record}
use Rattle.validity.proofs.Laws.{laws as valid-laws}
use Rattle.layout.proofs.Tests.{within_test, test_within}
use Rattle.chain.specs.Stored.{answered}
use Rattle.chain.proofs.Answers.{read_given}
use Rattle.signing.specs.Signers.{signed}
use Rattle.verification.specs.Order.{own_position, Passed, passed, judging}
use Rattle.verification.specs.Accepted.{Passing}
use Rattle.verification.specs.declared.judging.Situation.{Situation}
use Rattle.verification.proofs.Rules.{time_to, time_from, signs_to, signs_from, entitled_to, entitled_from}

module _ (store octets : List ℕ) (x : Situation) (os : Octets store) (oo : Octets octets) where
  passing_gives : (p : Passed) → Gives (judging store octets x) p → Passing store octets x p.message p.signer
  passing_gives p (size, (place, (age, (valid, (m, read, (timed, (r, signer, q))))))) =
      let places = and_split _ _ place in
      let good = (valid-laws.valid_exactly store).0 valid in
      let reads = read_given (whole_message octets) m read in
      let times = time_to m.headers.fields x.time x.age timed in
      let g = (gives_exactly (signed store octets m (own_position x)) r).0 signer in
      let same : r ≡ g.0 = g.2.2 in
      let may = entitled_to store m.headers.fields (own_position x) g.0 g.2.0 g.2.1 in
      let rules : Passing store octets x m g.0 =
      record {
        size = eqb-true _ _ size;
        position = (test_within 900000000 x.position.latitude places.0, test_within 1800000000 x.position.longitude places.1);
        age_allowed = leb-true _ _ age;
        valid = good;
        reads = reads;
        age = times.0;
        expiration = times.1;
        signs = signs_to store octets m os oo good reads g.0 g.1;
        kind = may.0;
        chain = may.1;
        permitted = may.2;
      } in
      subst (λ (z : Passed). Passing store octets x z.message z.signer) (sym q) (subst (λ (s : Record). Passing store octets x m s) (sym same) rules)

  gives_passing : (m : Message) (r : Record) → Passing store octets x m r → Gives (judging store octets x) (passed m r)
  gives_passing m r h = (
    eq-eqb _ _ h.size,
    (
      and_join _ _ (within_test 900000000 x.position.latitude h.position.0) (within_test 1800000000 x.position.longitude h.position.1),
      (
        le-leb _ _ h.age_allowed,
        (
          (valid-laws.valid_exactly store).1 h.valid,
          (
            m,
            ap answered h.reads.1,
            (
              time_from m.headers.fields x.time x.age h.age h.expiration,
              (
                r,
                (gives_exactly (signed store octets m (own_position x)) r).1 (
                  r,
                  signs_from store octets m os oo h.valid h.reads r h.signs,
                  (well, entitled_from store m.headers.fields (own_position x) r h.kind h.chain h.permitted, refl),
                ),
                refl,
              ),
            ),
          ),
        ),
      ),
    ),
  )

  pub passes_to : (p : Passed) → run (judging store octets x) ≡ gives p → Passing store octets x p.message p.signer
  passes_to p e = passing_gives p ((gives_exactly (judging store octets x) p).0 e)

  pub passes_from : (m : Message) (r : Record) → Passing store octets x m r → run (judging store octets x) ≡ gives (passed m r)
  passes_from m r h = (gives_exactly (judging store octets x) (passed m r)).1 (gives_passing m r h)
