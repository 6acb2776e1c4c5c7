-- An accepted certificate leaves a valid store with one certificate more. Assumes nothing.
use Prim.Native.Nat.{ℕ, zero, suc, ◌+◌, ◌≤◌, ◌<◌}
use mathlib.Core.Path.{◌≡◌, refl, sym, ap, ap₂, ◌∙◌, subst}
use mathlib.Core.Bool.{Bool, true, not}
use mathlib.Core.Logic.{◌≢◌, ⊎_elim}
use mathlib.Core.List.{List}
use native.Mathlib.Omega.{arith}
use Rattle.std.proofs.lemmas.Bool.{cases_eq}
use native.Mathlib.Nat.{eq-or-lt_of_le}
use lib.ListN.{length}
use lib.Dec.{eqb}
use Rattle.certificate.specs.declared.certificates.Certificate.{Certificate}
use Rattle.bitfields.specs.Field.{number, Octets}
use Rattle.records.specs.Ranges.{InRange, Sized}
use Rattle.records.specs.Records.{image_of}
use Rattle.records.specs.declared.Record.{Record}
use Rattle.records.proofs.Fields.{image_long}
use Rattle.store.specs.Slots.{slot_of, with_slot, EMPTY, HELD, state_at, filled_at, id_at}
use Rattle.store.proofs.Places.{slot_same, slot_other, length_with_slot}
use Rattle.store.proofs.Stored.{stored_back, stored_state, stored_id, other_state, other_id}
use Rattle.validity.specs.Good.{good_slot}
use Rattle.validity.specs.Laws.{Valid}
use Rattle.entries.specs.Stored.{record_from}
use Rattle.admission.specs.Order.{entered}
use Rattle.store.specs.Laws.{Holds}
use Rattle.admission.specs.Admitted.{LowestEmpty, Entered}
use Rattle.admission.specs.Filled.{one_if, filled_below}
use Rattle.admission.specs.Laws.{OneMore}
use Rattle.entries.proofs.Facts.{facts}
use Rattle.entries.proofs.Rules.{rules}
use Rattle.entries.proofs.Whole.{whole_of}
use Rattle.admission.proofs.Good.{good}
use Rattle.admission.proofs.Exactly.{empty_not, left_by}
use Rattle.records.specs.Layout.{slot_length}

-- what is known of the store that comes of it
record Put (l : List ℕ) (i : ℕ) (r : Record) : Type 0 where
  valid : Valid (with_slot l i (image_of r))
  held : state_at (with_slot l i (image_of r)) i ≡ HELD
  id : id_at (with_slot l i (image_of r)) i ≡ number r.id
  others : (j : ℕ) → j < 64 → j ≢ i → slot_of (with_slot l i (image_of r)) j ≡ slot_of l j
  one_more : filled_below 64 (with_slot l i (image_of r)) ≡ suc (filled_below 64 l)

-- a record that goes into an empty slot of a valid store, with an id that no slot has
module _ (l : List ℕ) (i : ℕ) (r : Record) (v : Valid l) (free : LowestEmpty l i) (ranged : InRange r) (fits : Sized r) (held : r.state ≡ HELD)
    (keeps : good_slot (image_of r) ≡ true) (new : (j : ℕ) → ¬ (Holds l (number r.id) j)) where
  long : length (image_of r) ≡ slot_length
  long = image_long r

  state : state_at (with_slot l i (image_of r)) i ≡ HELD
  state = stored_state l i r v.size free.slot ranged fits ∙ held

  id : id_at (with_slot l i (image_of r)) i ≡ number r.id
  id = stored_id l i r v.size free.slot ranged fits

  other_filled : (j : ℕ) → j < 64 → j ≢ i → filled_at (with_slot l i (image_of r)) j ≡ filled_at l j
  other_filled j h n = ap (λ (k : ℕ). not (eqb k EMPTY)) (other_state l i (image_of r) v.size free.slot long j h n)

  slots : (j : ℕ) → j < 64 → good_slot (slot_of (with_slot l i (image_of r)) j) ≡ true
  slots j h = ⊎_elim
      (λ e. ap (λ (k : ℕ). good_slot (slot_of (with_slot l i (image_of r)) k)) e ∙ ap good_slot (slot_same l i (image_of r) v.size free.slot long) ∙ keeps)
      (λ n. ap good_slot (slot_other l i (image_of r) v.size free.slot long j h n) ∙ v.slots j h)
      (cases_eq j i)

  -- another slot with the new id would have held it before
  no_other : (j : ℕ) → j < 64 → j ≢ i → filled_at (with_slot l i (image_of r)) j ≡ true → id_at (with_slot l i (image_of r)) j ≡ number r.id → ⊥
  no_other j h n f e =
      new j (record { slot = h; filled = sym (other_filled j h n) ∙ f; has_id_lem = sym (other_id l i (image_of r) v.size free.slot long j h n) ∙ e })

  distinct : (j k : ℕ) → j < 64 → k < 64 → filled_at (with_slot l i (image_of r)) j ≡ true → filled_at (with_slot l i (image_of r)) k ≡ true
      → id_at (with_slot l i (image_of r)) j ≡ id_at (with_slot l i (image_of r)) k → j ≡ k
  distinct j k hj hk fj fk e = ⊎_elim
      (λ (a : j ≡ i). ⊎_elim
      (λ (b : k ≡ i). a ∙ sym b)
      (λ n. absurd (no_other k hk n fk (sym e ∙ ap (id_at (with_slot l i (image_of r))) a ∙ id)))
      (cases_eq k i))
      (λ m. ⊎_elim
      (λ (b : k ≡ i). absurd (no_other j hj m fj (e ∙ ap (id_at (with_slot l i (image_of r))) b ∙ id)))
      (λ n. v.distinct j k hj hk (sym (other_filled j hj m) ∙ fj) (sym (other_filled k hk n) ∙ fk)
      (sym (other_id l i (image_of r) v.size free.slot long j hj m) ∙ e ∙ other_id l i (image_of r) v.size free.slot long k hk n))
      (cases_eq k i))
      (cases_eq j i)

  after_valid : Valid (with_slot l i (image_of r))
  after_valid =
      record {
        size = length_with_slot l i (image_of r) v.size free.slot long ∙ v.size;
        slots = slots;
        distinct = distinct;
      }

  one : (j : ℕ) → j < 64 → j ≢ i → one_if (filled_at (with_slot l i (image_of r)) j) ≡ one_if (filled_at l j)
  one j h n = ap (λ (b : Bool). one_if b) (other_filled j h n)

  count_below : (n : ℕ) → n ≤ i → filled_below n (with_slot l i (image_of r)) ≡ filled_below n l
  unfolding filled_below
  count_below zero h = refl
  count_below (suc n) h =
      ap₂ (λ (a b : ℕ). a + b) (one n (omega (arith, free.slot)) (λ e. omega arith)) (count_below n (omega arith))

  filled_now : one_if (filled_at (with_slot l i (image_of r)) i) ≡ 1
  filled_now = ap (λ (k : ℕ). one_if (not (eqb k EMPTY))) state

  empty_before : one_if (filled_at l i) ≡ 0
  empty_before = ap (λ (k : ℕ). one_if (not (eqb k EMPTY))) free.empty

  count_above : (n : ℕ) → i < n → n ≤ 64 → filled_below n (with_slot l i (image_of r)) ≡ suc (filled_below n l)
  unfolding filled_below
  count_above zero a b = absurd (omega arith)
  count_above (suc n) a b =
      let le : i ≤ n = omega arith in
      ⊎_elim
      (λ (e : i ≡ n).
      let x : one_if (filled_at (with_slot l i (image_of r)) n) ≡ 1 = subst (λ (k : ℕ). one_if (filled_at (with_slot l i (image_of r)) k) ≡ 1) e filled_now in
      let y : one_if (filled_at l n) ≡ 0 = subst (λ (k : ℕ). one_if (filled_at l k) ≡ 0) e empty_before in
      omega (arith, x, y, count_below n (omega arith)))
      (λ h. let x = one n (omega arith) (λ e. omega arith) in omega (arith, x, count_above n h (omega arith)))
      (eq-or-lt_of_le le)

  stored_facts : Put l i r
  stored_facts =
      record {
        valid = after_valid;
        held = state;
        id = id;
        others = slot_other l i (image_of r) v.size free.slot long;
        one_more = count_above 64 free.slot (omega arith);
      }

module _ (store octets : List ℕ) (verdict : ℕ) (c : Certificate) (after : List ℕ) (are : Octets octets) (e : Entered store octets verdict c after) where
  pub one_more : OneMore store octets c after
  one_more =
      let r = record_from octets c in
      let stands = (whole_of octets c are e.reads).standing in
      let f = facts octets c are stands in
      let i = e.slot in
      let free = e.lowest_empty_lem in
      let put = stored_facts store i r e.valid free f.in_range_lem f.sized (rules octets c are stands).held (good octets c are stands) e.not_held in
      subst (λ (l : List ℕ). OneMore store octets c l) (sym e.written) (record {
        valid = put.valid;
        slot = i;
        lowest_empty_lem = free;
        holds = stored_back store i r e.size free.slot f.in_range_lem f.sized;
        held = put.held;
        id = put.id;
        others = put.others;
        one_more = put.one_more;
      })

-- ---- accepted or not

module _ (anchor : Bool) (store octets : List ℕ) (verdict : ℕ) where
  pub filled_kept : (i : ℕ) → i < 64 → filled_at store i ≡ true → slot_of (entered anchor store octets verdict).1 i ≡ slot_of store i
  filled_kept i h f = ⊎_elim
      (λ found.
      let e = found.rules in
      let r = record_from octets found.certificate in
      let free = e.lowest_empty_lem in
      ap (λ (l : List ℕ). slot_of l i) e.written
      ∙ slot_other store e.slot (image_of r) e.size free.slot (image_long r) i h (λ same. empty_not store i (ap (state_at store) same ∙ free.empty) f))
      (λ e. ap (λ (l : List ℕ). slot_of l i) e)
      (left_by anchor store octets verdict)

  pub stays_valid : Octets octets → Valid store → Valid (entered anchor store octets verdict).1
  stays_valid are v = ⊎_elim
      (λ found. (one_more store octets verdict found.certificate (entered anchor store octets verdict).1 are found.rules).valid)
      (λ e. subst (λ (l : List ℕ). Valid l) (sym e) v)
      (left_by anchor store octets verdict)
