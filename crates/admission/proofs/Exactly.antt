-- Accepted exactly if the rules hold, refused by the first that fails. Assumes nothing.
use Prim.Native.Nat.{ℕ, zero, suc}
use mathlib.Core.Path.{◌≡◌, refl, sym, ap, ◌∙◌}
use mathlib.Core.Bool.{Bool, true, false, not, ◌||◌}
use mathlib.Core.Logic.{◌↔◌, ◌⊎◌, inl, inr, ⊎_elim}
use mathlib.Core.List.{List}
use Rattle.std.specs.Prelude.{Option, None, Some}
use native.Mathlib.Omega.{arith}
use native.Mathlib.Decide.{dec_le}
use native.Mathlib.Nat.{eq-or-lt_of_le, lt_of_not-le}
use lib.ListN.{length}
use lib.Dec.{eqb}
use borrow.Author.Tests.{eq-eqb, eqb-true, not-true}
use Rattle.order.specs.Steps.{Answer, gives, refused, number as answerNumber, done, run, rows, First, Gives, Named, Numbered, Well, well}
use Rattle.order.proofs.Steps.{gives_refused, gives_exactly, refuses_at, run_named, needs_to, needs_from}
use Rattle.octets.specs.Reading.{Out, got, refused as unread}
use Rattle.certificate.specs.Operations.{whole, answer_of, reading_of}
use Rattle.certificate.specs.declared.certificates.Certificate.{Certificate}
use Rattle.certificate.specs.Operations.{Reading}
use Rattle.certificate.proofs.Forward.{whole_forward}
use Rattle.geo.proofs.Bools.{never, or_split, or_join}
use Rattle.bitfields.specs.Field.{number}
use Rattle.scope.specs.Issued.{issued_rows}
use Rattle.scope.proofs.Exactly.{pass_exactly}
use Rattle.records.specs.Records.{scope_of}
use Rattle.records.specs.declared.Record.{Record}
use Rattle.store.specs.Slots.{store_length, slot_of, EMPTY, state_at, filled_at}
use Rattle.store.specs.Search.{find, lowest_empty}
use Rattle.store.specs.Laws.{Holds}
use Rattle.store.proofs.Found.{find_none, found_to, found_from, empty_finds, empty_none}
use Rattle.validity.specs.Laws.{Valid}
use Rattle.validity.proofs.Laws.{laws as valid-laws}
use Rattle.chain.specs.Stored.{answered, slot_or}
use Rattle.chain.proofs.Answers.{slot_named, slot_given, read_named}
use Rattle.entries.specs.Readable.{accepted}
use Rattle.entries.specs.Stored.{record_from}
use Rattle.admission.specs.Order.{wanted, absent, issuer_steps, entering, leaving, entered, installed, admitted}
use Rattle.admission.specs.Admitted.{LowestEmpty, Entered, Issuer, Installed, Admitted}
use Rattle.admission.proofs.Tests.{issuer_numbered}
use Rattle.admission.proofs.Entered.{read_gives}

-- ---- searches

pub empty_not : (l : List ℕ) (i : ℕ) → state_at l i ≡ EMPTY → filled_at l i ≡ true → ⊥
empty_not l i e f = never (sym (ap (λ (n : ℕ). not (eqb n 0)) e) ∙ f)

lowest_to : (l : List ℕ) (i : ℕ) → lowest_empty l ≡ Some i → LowestEmpty l i
lowest_to l i e = let f = empty_finds l i e in record { slot = f.0; empty = f.1; filled_below_lem = f.2 }

same_lowest : (l : List ℕ) (i j : ℕ) → LowestEmpty l i → LowestEmpty l j → j ≡ i
same_lowest l i j h k = elim (dec_le j i) [
  | yes le ↦ ⊎_elim (λ e. e) (λ lt. absurd (empty_not l j k.empty (h.filled_below_lem j lt))) (eq-or-lt_of_le le)
  | no more ↦ absurd (empty_not l i h.empty (k.filled_below_lem i (lt_of_not-le more)))
]

lowest_from_lem : (l : List ℕ) (i : ℕ) → LowestEmpty l i → lowest_empty l ≡ Some i
lowest_from_lem l i h = by (lowest_empty l) refl
  where
    by : (o : Option ℕ) → lowest_empty l ≡ o → o ≡ Some i
    by None e = absurd (empty_not l i h.empty (empty_none l e i h.slot))
    by (Some j) e = ap (λ (k : ℕ). Some k) (same_lowest l i j h (lowest_to l j e))

absent_to : (l : List ℕ) (id : ℕ) → absent (find l id) ≡ true → (i : ℕ) → ¬ (Holds l id i)
absent_to l id e i h = by (find l id) refl e
  where
    by : (o : Option ℕ) → find l id ≡ o → absent o ≡ true → ⊥
    by None f t = find_none l id f i h.slot h.filled h.has_id_lem
    by (Some j) f t = never t

absent_from : (l : List ℕ) (id : ℕ) → ((i : ℕ) → ¬ (Holds l id i)) → absent (find l id) ≡ true
absent_from l id n = by (find l id) refl
  where
    by : (o : Option ℕ) → find l id ≡ o → absent o ≡ true
    by None f = refl
    by (Some j) f = absurd (n j (found_to l id j f))

-- ---- reading

read_to : (s : List ℕ) (c : Certificate) → answered (whole s) ≡ gives c → reading_of s ≡ accepted c
unfolding reading_of
read_to s c = by (whole s)
  where
    by : (o : Out Certificate) → answered o ≡ gives c → answer_of o ≡ accepted c
    by (got x end) e = ap (λ (a : Answer Certificate). read_in x a) e
      where
        read_in : Certificate → Answer Certificate → Reading
        read_in d (gives y) = accepted y
        read_in d (refused n) = accepted d
    by (unread n) e = absurd (gives_refused c n e)

-- ---- the issuer

module _ (store : List ℕ) (r : Record) where
  pub issuer_to : (w : Well) → run (issuer_steps false store r) ≡ gives w → Issuer store r
  issuer_to w e =
      let g = (gives_exactly (issuer_steps false store r) w).0 e in
      let i = g.0 in
      let p = needs_to (issued_rows r.scope (scope_of (slot_of store i))) (done well) w g.2.1 in
      record {
        slot = i;
        stored = found_to store (number r.issuer) i (slot_given 7 (find store (number r.issuer)) i g.1);
        not_withdrawn = not-true _ g.2.0;
        issued = (pass_exactly r.scope (scope_of (slot_of store i))).0 p.0;
      }

  pub issuer_from : Valid store → Issuer store r → run (issuer_steps false store r) ≡ gives well
  issuer_from v h =
      (gives_exactly (issuer_steps false store r) well).1 (
        h.slot,
        ap (slot_or 7) (found_from store (number r.issuer) h.slot v.distinct h.stored),
        (
          ap not h.not_withdrawn,
          needs_from (issued_rows r.scope (scope_of (slot_of store h.slot))) (done well) well
              ((pass_exactly r.scope (scope_of (slot_of store h.slot))).1 h.issued) refl,
        ),
      )

-- ---- both operations

module _ (anchor : Bool) (store octets : List ℕ) (verdict : ℕ) where
  -- what the order asks, with its tests of the kind and the issuer
  pub record Found (after : List ℕ) : Type 0 where
    pub certificate : Certificate
    pub wants : wanted anchor certificate.head.kind ≡ true
    pub under : run (issuer_steps anchor store (record_from octets certificate)) ≡ gives well
    pub rules : Entered store octets verdict certificate after

  well_known : (w : Well) → w ≡ well
  well_known tt = refl

  to_rules : (after : List ℕ) → Gives (entering anchor store octets verdict) after → Found after
  to_rules after (size, (valid, (c, reads, (wants, (new, (w, under, (signed, (slot, free, q)))))))) =
      record {
        certificate = c;
        wants = wants;
        under = under ∙ ap (λ (x : Well). gives x) (well_known w);
        rules = record {
          size = eqb-true (length store) store_length size;
          valid = (valid-laws.valid_exactly store).0 valid;
          reads = read_to octets c reads;
          not_held = absent_to store (number (record_from octets c).id) new;
          verified = eqb-true verdict 1 signed;
          slot = slot;
          lowest_empty_lem = lowest_to store slot (slot_given 16 (lowest_empty store) slot free);
          written = q;
        };
      }

  from_rules : (after : List ℕ) → Found after → Gives (entering anchor store octets verdict) after
  from_rules after f =
      let c = f.certificate in
      let r = f.rules in (
        eq-eqb (length store) store_length r.size,
        (
          (valid-laws.valid_exactly store).1 r.valid,
          (
            c,
            read_gives octets c r.reads,
            (
              f.wants,
              (
                absent_from store (number (record_from octets c).id) r.not_held,
                (well, f.under, (eq-eqb verdict 1 r.verified, (r.slot, ap (slot_or 16) (lowest_from_lem store r.slot r.lowest_empty_lem), r.written))),
              ),
            ),
          ),
        ),
      )

  numbered : Numbered (entering anchor store octets verdict)
  numbered = (read_named (whole octets) (whole_forward octets), λ c. (run_named (issuer_steps anchor store (record_from octets c)) (issuer_numbered anchor store (record_from octets c)), λ w. (slot_named 15 (lowest_empty store), λ slot. tt)))

  -- what is left, by what the order answers
  left_gives : (a : Answer (List ℕ)) → Named a → (after : List ℕ) → leaving store a ≡ (0, after) → a ≡ gives after
  left_gives (gives l) n after e = ap (λ (p : ℕ × List ℕ). gives p.1) e
  left_gives (refused zero) n after e = absurd n
  left_gives (refused (suc k)) n after e = let z : suc k ≡ 0 = ap (λ (p : ℕ × List ℕ). p.0) e in absurd (omega arith)

  found_exactly : (after : List ℕ) → (entered anchor store octets verdict ≡ (0, after)) ↔ Found after
  unfolding entered
  found_exactly after =
      let s = entering anchor store octets verdict in (
        (λ e. to_rules after ((gives_exactly s after).0 (left_gives (run s) (run_named s numbered) after e))),
        (λ f. ap (leaving store) ((gives_exactly s after).1 (from_rules after f))),
      )

  -- the store that is left comes of the rules, or is the old one
  pub left_by : Found (entered anchor store octets verdict).1 ⊎ ((entered anchor store octets verdict).1 ≡ store)
  unfolding entered
  left_by = by (run (entering anchor store octets verdict)) refl
    where
      by : (a : Answer (List ℕ)) → run (entering anchor store octets verdict) ≡ a → Found (leaving store a).1 ⊎ ((leaving store a).1 ≡ store)
      by (gives l) e = inl (to_rules l ((gives_exactly (entering anchor store octets verdict) l).0 e))
      by (refused k) e = inr refl

  left_number : (a : Answer (List ℕ)) → (leaving store a).0 ≡ answerNumber a
  left_number (gives l) = refl
  left_number (refused k) = refl

  pub refused_first : (k : ℕ) → ¬ (k ≡ 0) → ((entered anchor store octets verdict).0 ≡ k) ↔ First (rows (entering anchor store octets verdict)) k
  unfolding entered
  refused_first k n =
      let s = entering anchor store octets verdict in
      let x = refuses_at s k n in
      ((λ e. x.0 (sym (left_number (run s)) ∙ e)), (λ r. left_number (run s) ∙ x.1 r))

  left_kept : (a : Answer (List ℕ)) → ¬ ((leaving store a).0 ≡ 0) → (leaving store a).1 ≡ store
  left_kept (gives l) n = absurd (n refl)
  left_kept (refused k) n = refl

  pub refused_keeps : ¬ ((entered anchor store octets verdict).0 ≡ 0) → (entered anchor store octets verdict).1 ≡ store
  unfolding entered
  refused_keeps n = left_kept (run (entering anchor store octets verdict)) n

-- ---- install, and admit

module _ (store octets : List ℕ) (verdict : ℕ) (after : List ℕ) where
  pub installed_exactly : (installed store octets verdict ≡ (0, after)) ↔ Installed store octets verdict after
  unfolding run
  installed_exactly =
      let x = found_exactly true store octets verdict after in (
        (λ e. let f = x.0 e in record { certificate = f.certificate; entered = f.rules; root = eqb-true f.certificate.head.kind 4 f.wants }),
        (λ h. x.1 (record { certificate = h.certificate; wants = eq-eqb h.certificate.head.kind 4 h.root; under = refl; rules = h.entered })),
      )

  kind_to : (k : ℕ) → (eqb k 1 || eqb k 2) ≡ true → (k ≡ 1) ⊎ (k ≡ 2)
  kind_to k e = ⊎_elim (λ a. inl (eqb-true k 1 a)) (λ b. inr (eqb-true k 2 b)) (or_split (eqb k 1) (eqb k 2) e)

  kind_from : (k : ℕ) → (k ≡ 1) ⊎ (k ≡ 2) → (eqb k 1 || eqb k 2) ≡ true
  kind_from k h = or_join (eqb k 1) (eqb k 2) (⊎_elim (λ a. inl (eq-eqb k 1 a)) (λ b. inr (eq-eqb k 2 b)) h)

  pub admitted_exactly : (admitted store octets verdict ≡ (0, after)) ↔ Admitted store octets verdict after
  admitted_exactly =
      let x = found_exactly false store octets verdict after in (
        (λ e. let f = x.0 e in record {
          certificate = f.certificate;
          entered = f.rules;
          ticket_or_authority = kind_to f.certificate.head.kind f.wants;
          issuer = issuer_to store (record_from octets f.certificate) well f.under;
        }),
        (λ h. x.1 (record {
          certificate = h.certificate;
          wants = kind_from h.certificate.head.kind h.ticket_or_authority;
          under = issuer_from store (record_from octets h.certificate) h.entered.valid h.issuer;
          rules = h.entered;
        })),
      )
