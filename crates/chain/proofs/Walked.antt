-- The same over a store: what the functions of this crate cite. Assumes nothing.
use mathlib.Core.Path.{◌≡◌, refl, sym, ap, subst, ◌∙◌}
use mathlib.Core.Bool.{Bool, true, false}
use mathlib.Core.List.{List}
use Rattle.std.specs.Prelude.{Option, None, Some}
use Prim.Native.Nat.{ℕ, zero, suc, ◌-◌, ◌<◌}
use native.Mathlib.Nat.{suc-ne-zero}
use borrow.Author.Tests.{eq-eqb, ne_eqb, eqb-true, eqb-false}
use Rattle.order.specs.Steps.{Answer, gives, refused, onward, done, stop, take, fork, run, needs, Coded, no_row, coded, Named}
use Rattle.order.proofs.Steps.{gives_exactly, run_named, refuses_exactly, gives_refused, run_follow, needs_to, needs_from, needs_refuse_first, all_pass, first_fails}
use lib.Dec.{eqb}
use Rattle.octets.specs.Refusals.{UNKNOWN, CHAIN_TOO_LONG}
use Rattle.scope.specs.Issued.{issued_rows, issued_number}
use Rattle.scope.proofs.Exactly.{issued_coded}
use Rattle.scope.specs.declared.Scope.{Scope}
use Rattle.records.specs.Layout.{KIND, value_of}
use Rattle.records.specs.Records.{scope_of}
use Rattle.store.specs.Slots.{slot_of, id_at}
use Rattle.store.specs.Search.{find}
use Rattle.store.proofs.Found.{find_finds, found_again}
use Rattle.chain.specs.declared.subjects.Subject.{Subject}
use Rattle.chain.specs.Places.{Place}
use Rattle.chain.specs.Walk.{place_rows, own_rows, is_root, climb}
use Rattle.chain.specs.Chains.{Root}
use Rattle.chain.specs.Stored.{slot_or, subject_or, subject_at, issuer_in, walk_number}
use Rattle.chain.specs.Computed.{own_number, linked, upward, stepped, walked_on, Leads}
use Rattle.chain.proofs.Coding as coding

place_coded : (p : Place) (s : Scope) → Coded (place_rows p s)
place_coded None s = no_row
place_coded (Some p) s = coded (λ e z. suc-ne-zero 12 z) no_row

rows : (gone : ℕ → Bool) (t : ℕ) (p : Place) (c : Subject) → Coded (own_rows gone t p c)
rows gone t p c = coded (λ e z. suc-ne-zero 7 z) (coded (λ e z. suc-ne-zero 11 z) (place_coded p c.scope))

-- the step to the issuer as a certificate is the step to its slot
at_slot : (l : List ℕ) (s : Scope) (i : ℕ) → run (needs (issued_rows s (subject_at l i).scope) (done (subject_at l i))) ≡ onward (linked l s i) (λ j. gives (subject_at l j))
unfolding linked subject_at run
at_slot l s i = run_follow (needs (issued_rows s (scope_of (slot_of l i))) (done i)) (λ j. done (subject_at l j))

at_found_lem : (l : List ℕ) (s : Scope) (o : Option ℕ) → run (take (subject_or UNKNOWN l o) (λ j. needs (issued_rows s j.scope) (done j)))
    ≡ onward (onward (slot_or UNKNOWN o) (linked l s)) (λ j. gives (subject_at l j))
unfolding run
at_found_lem l s None = refl
at_found_lem l s (Some i) = at_slot l s i

step_slot : (l : List ℕ) (c : Subject) → run (climb (issuer_in l) c (λ j. done j)) ≡ onward (upward l c) (λ j. gives (subject_at l j))
unfolding issuer_in upward
step_slot l c = at_found_lem l c.scope (find l c.issuer)

-- the slot of an issuer is found by its own id
linked_slot : (l : List ℕ) (s : Scope) (i j : ℕ) → linked l s i ≡ gives j → i ≡ j
unfolding linked
linked_slot l s i j e =
    let g = (gives_exactly (needs (issued_rows s (scope_of (slot_of l i))) (done i)) j).0 e in
    sym (needs_to (issued_rows s (scope_of (slot_of l i))) (done i) j g).1

pub linked_refused : (l : List ℕ) (s : Scope) (i k : ℕ) → issued_number s (scope_of (slot_of l i)) ≡ k → ¬ (k ≡ 0) → refused k ≡ linked l s i
unfolding linked issued_number
linked_refused l s i k e z =
    let rows = issued_rows s (scope_of (slot_of l i)) in
    sym ((refuses_exactly (needs rows (done i)) k).1 (needs_refuse_first rows (done i) k ((first_fails rows k z).0 e)))

pub linked_on : (l : List ℕ) (s : Scope) (i : ℕ) → issued_number s (scope_of (slot_of l i)) ≡ 0 → gives i ≡ linked l s i
unfolding linked issued_number
linked_on l s i e =
    let rows = issued_rows s (scope_of (slot_of l i)) in
    sym ((gives_exactly (needs rows (done i)) i).1 (needs_from rows (done i) i ((all_pass rows (issued_coded s (scope_of (slot_of l i)))).0 e) refl))

-- the step up
pub up_unknown : (l : List ℕ) (c : Subject) → find l c.issuer ≡ None → refused UNKNOWN ≡ upward l c
unfolding upward
up_unknown l c e = rw e

pub up_linked : (l : List ℕ) (c : Subject) (j : ℕ) → find l c.issuer ≡ Some j → linked l c.scope j ≡ upward l c
unfolding upward
up_linked l c j e = rw e

pub kind_of : (l : List ℕ) (i : ℕ) → value_of (slot_of l i) KIND ≡ (subject_at l i).scope.kind
unfolding subject_at scope_of
kind_of l i = refl

pub up_found : (l : List ℕ) (c : Subject) (j : ℕ) → upward l c ≡ gives j → (j < 64) × (find l (id_at l j) ≡ Some j)
unfolding upward
up_found l c j e = go (find l c.issuer) refl e
  where
    go : (o : Option ℕ) → find l c.issuer ≡ o → onward (slot_or UNKNOWN o) (linked l c.scope) ≡ gives j → (j < 64) × (find l (id_at l j) ≡ Some j)
    go None f e = absurd (gives_refused j UNKNOWN e)
    go (Some i) f e =
        let q : find l c.issuer ≡ Some j = f ∙ ap (λ (k : ℕ). Some k) (linked_slot l c.scope i j e) in
        ((find_finds l c.issuer j q).0, found_again l c.issuer j q)

-- and none is refused with 0
linked_named : (l : List ℕ) (s : Scope) (i : ℕ) → Named (linked l s i)
unfolding linked
linked_named l s i = run_named (needs (issued_rows s (scope_of (slot_of l i))) (done i)) tt

pub up_named : (l : List ℕ) (c : Subject) → Named (upward l c)
unfolding upward
up_named l c = go (find l c.issuer)
  where
    go : (o : Option ℕ) → Named (onward (slot_or UNKNOWN o) (linked l c.scope))
    go None = tt
    go (Some i) = linked_named l c.scope i

-- what a step leads to
pub led : (l : List ℕ) (n : ℕ) (a : Answer ℕ) (j : ℕ) → a ≡ gives j → Leads l n a → Leads l n (gives j)
led l n a j e h = rw e at h

given : (a : Answer ℕ) → onward a (λ j. gives j) ≡ a
given (gives j) = refl
given (refused k) = refl

module _ (l : List ℕ) where
  module _ (gone : ℕ → Bool) (t : ℕ) (p : Place) where
    pub at_own : (n : ℕ) (c : Subject) → ¬ (own_number gone t p c ≡ 0) → own_number gone t p c ≡ walk_number gone l t p n c
    unfolding own_number walk_number
    at_own = coding.at_own (issuer_in l) (own_rows gone t p) (rows gone t p)

    pub at_root : (n : ℕ) (c : Subject) → own_number gone t p c ≡ 0 → Root c → 0 ≡ walk_number gone l t p n c
    unfolding own_number walk_number
    at_root = coding.at_root (issuer_in l) (own_rows gone t p) (rows gone t p)

    pub at_last : (n : ℕ) (c : Subject) → own_number gone t p c ≡ 0 → ¬ Root c → n ≡ 0 → CHAIN_TOO_LONG ≡ walk_number gone l t p n c
    unfolding own_number walk_number
    at_last = coding.at_last (issuer_in l) (own_rows gone t p) (rows gone t p)

    pub at_stop : (n : ℕ) (c : Subject) (k : ℕ) → own_number gone t p c ≡ 0 → ¬ Root c → ¬ (n ≡ 0) → upward l c ≡ refused k → k ≡ walk_number gone l t p n c
    unfolding own_number walk_number
    at_stop n c k e r z u = rw (coding.at_up (issuer_in l) (own_rows gone t p) (rows gone t p) n c e r z, step_slot l c, u)

    pub at_on : (n : ℕ) (c : Subject) (j : ℕ) → own_number gone t p c ≡ 0 → ¬ Root c → ¬ (n ≡ 0) → upward l c ≡ gives j
        → walk_number gone l t p (n - 1) (subject_at l j) ≡ walk_number gone l t p n c
    unfolding own_number walk_number
    at_on n c j e r z u = rw (coding.at_up (issuer_in l) (own_rows gone t p) (rows gone t p) n c e r z, step_slot l c, u)

    -- the step up, where one more may follow
    pub at_up : (n : ℕ) (c : Subject) (a : Answer ℕ) → own_number gone t p c ≡ 0 → ¬ Root c → ¬ (n ≡ 0) → a ≡ upward l c
        → Leads l n a × (walked_on gone l t p n a ≡ walk_number gone l t p n c)
    at_up n c (gives j) e r z u =
        let found = up_found l c j (sym u) in
        ((z, found.0, found.1), at_on n c j e r z (sym u))
    at_up n c (refused k) e r z u = (tt, at_stop n c k e r z (sym u))

    -- what a step answers, test by test
    pub step_own : (n : ℕ) (c : Subject) → ¬ (own_number gone t p c ≡ 0) → refused (own_number gone t p c) ≡ stepped gone l t p n c
    unfolding own_number stepped
    step_own n c z =
        sym ((refuses_exactly (needs (own_rows gone t p c) _) _).1 (needs_refuse_first (own_rows gone t p c) _ _ ((first_fails (own_rows gone t p c) _ z).0 refl)))

    module _ (n : ℕ) (c : Subject) (own : own_number gone t p c ≡ 0) where
      past_own : stepped gone l t p n c ≡ run (fork (is_root c) (stop 0) (fork (eqb n 0) (stop CHAIN_TOO_LONG) (take (upward l c) (λ j. done j))))
      unfolding own_number stepped
      past_own = coding.needs_pass (own_rows gone t p c) _ ((all_pass (own_rows gone t p c) (rows gone t p c)).0 own)

      pub step_root : Root c → refused 0 ≡ stepped gone l t p n c
      unfolding run
      step_root r = sym (past_own ∙ rw (eq-eqb _ _ r))

      pub step_last : ¬ Root c → n ≡ 0 → refused CHAIN_TOO_LONG ≡ stepped gone l t p n c
      unfolding run
      step_last r z = sym (past_own ∙ rw (ne_eqb _ _ r, eq-eqb n 0 z))

      pub step_upward : ¬ Root c → ¬ (n ≡ 0) → upward l c ≡ stepped gone l t p n c
      unfolding run
      step_upward r z = sym (past_own ∙ rw (ne_eqb _ _ r, ne_eqb n 0 z) (given (upward l c)))

    -- where a step leads, and that the walk from there is the walk
    abbrev Onward : ℕ → Subject → Answer ℕ → Type 0
    Onward n c a = Leads l n a × (walked_on gone l t p n a ≡ walk_number gone l t p n c)

    step_onward : (n : ℕ) (c : Subject) → Onward n c (stepped gone l t p n c)
    step_onward n c = by_own (own_number gone t p c) refl
      where
        by_count : (m : ℕ) → n ≡ m → own_number gone t p c ≡ 0 → ¬ Root c → Onward n c (stepped gone l t p n c)
        by_count zero q e r = subst (Onward n c) (step_last n c e r q) (tt, at_last n c e r q)
        by_count (suc m) q e r =
            let z : ¬ (n ≡ 0) = λ x. suc-ne-zero m (sym q ∙ x) in
            subst (Onward n c) (step_upward n c e r z) (at_up n c (upward l c) e r z refl)

        by_kind : (b : Bool) → is_root c ≡ b → own_number gone t p c ≡ 0 → Onward n c (stepped gone l t p n c)
        by_kind true q e = let r : Root c = eqb-true _ _ q in subst (Onward n c) (step_root n c e r) (tt, at_root n c e r)
        by_kind false q e = by_count n refl e (eqb-false _ _ q)

        by_own : (k : ℕ) → own_number gone t p c ≡ k → Onward n c (stepped gone l t p n c)
        by_own zero e = by_kind (is_root c) refl e
        by_own (suc k) e =
            let z : ¬ (own_number gone t p c ≡ 0) = λ x. suc-ne-zero k (sym e ∙ x) in
            subst (Onward n c) (step_own n c z) (tt, at_own n c z)

    pub step_led : (n : ℕ) (c : Subject) (a : Answer ℕ) → a ≡ stepped gone l t p n c → Leads l n a
    step_led n c a e = subst (Leads l n) (sym e) (step_onward n c).0

    pub step_walked : (n : ℕ) (c : Subject) (a : Answer ℕ) → a ≡ stepped gone l t p n c → walked_on gone l t p n a ≡ walk_number gone l t p n c
    step_walked n c a e = ap (walked_on gone l t p n) e ∙ (step_onward n c).1
