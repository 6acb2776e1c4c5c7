-- A certificate that stands is held, and a withdrawal by the id that stored shows takes it. Assumes nothing.
use mathlib.Core.Path.{◌≡◌, refl, sym, ap, subst, ◌∙◌}
use mathlib.Core.Bool.{Bool, true, false}
use mathlib.Core.List.{List}
use Rattle.std.specs.Prelude.{Some}
use Prim.Native.Nat.{ℕ, zero, suc, ◌<◌}
use native.Mathlib.Omega.{arith}
use lib.Dec.{eqb}
use lib.ListN.{length}
use borrow.Author.Tests.{eqb-false, not-true}
use Rattle.order.specs.Steps.{gives}
use Rattle.octets.specs.Reading.{pick}
use Rattle.bitfields.specs.Field.{number, Octets}
use Rattle.bitfields.specs.Zero.{zero_bits}
use Rattle.bitfields.proofs.Law.{field_lt}
use Rattle.bitfields.proofs.Runs.{length_fields}
use Rattle.geo.proofs.Bools.{never}
use Rattle.records.specs.Layout.{ID, STATE, values_of, slot_bits}
use Rattle.records.specs.Records.{record_of}
use Rattle.records.specs.declared.Record.{Record}
use Rattle.records.proofs.Decoded.{decoded_sized}
use Rattle.store.specs.Slots.{slot_of, EMPTY, HELD, GONE, state_at, id_at}
use Rattle.store.specs.Search.{find}
use Rattle.store.specs.Withdrawn.{withdrawn_in}
use Rattle.store.proofs.Found.{find_only, withdrawn_found}
use Rattle.store.proofs.Stored.{id_number}
use Rattle.validity.specs.Good.{good_slot, good_record, NO_STATE}
use Rattle.validity.specs.Laws.{Valid}
use Rattle.chain.specs.Stored.{subject_at, Stored, Stands}
use Rattle.chain.proofs.Chains.{chain_own}
use Rattle.chain.proofs.Laws.{stands_exactly}
use Rattle.overview.proofs.Laws.{read_given}
use Rattle.overview.specs.Order.{SlotReading}
use Rattle.withdrawal.specs.Laws.{Askable}
use Rattle.withdrawal.proofs.Asked.{withdrawal_asked}
use Rattle.withdrawal.proofs.Laws.{asked_from}
use Rattle.console.specs.Pages.{shown, Acts}

-- a filled slot of a valid store that is not withdrawn is held
by_state : (n : ℕ) (a b : Bool) → n < 4 → ¬ (n ≡ EMPTY) → ¬ (n ≡ GONE) → pick (eqb n EMPTY) a (pick (eqb n NO_STATE) false b) ≡ true → n ≡ HELD
by_state zero a b h e g good = absurd (e refl)
by_state (suc zero) a b h e g good = refl
by_state (suc (suc zero)) a b h e g good = absurd (g refl)
by_state (suc (suc (suc zero))) a b h e g good = never good
by_state (suc (suc (suc (suc n)))) a b h e g good = absurd (omega arith)

module _ (s : List ℕ) (i : ℕ) (v : Valid s) (st : Stored s i) where
  found : find s (id_at s i) ≡ Some i
  found = find_only s v.distinct i st.slot st.filled

  pub held_of : withdrawn_in s (id_at s i) ≡ false → state_at s i ≡ HELD
  unfolding good_slot state_at
  held_of w =
      by_state (state_at s i) (zero_bits (slot_of s i) 0 slot_bits) (good_record (slot_of s i)) (field_lt (slot_of s i) STATE.bit STATE.width)
      (eqb-false _ _ (not-true _ st.filled)) (eqb-false _ _ (sym (withdrawn_found s (id_at s i) i found) ∙ w)) (v.slots i st.slot)

  -- stored shows the certificate in the slot
  pub shown_of : shown s i ≡ record_of (slot_of s i)
  shown_of = ap (λ (r : SlotReading). r.contents) (read_given s i v st)

  id_of_lem : (shown s i).id ≡ values_of (slot_of s i) ID
  unfolding record_of
  id_of_lem = ap (λ (r : Record). r.id) shown_of

  state_of : (shown s i).state ≡ state_at s i
  unfolding record_of state_at
  state_of = ap (λ (r : Record). r.state) shown_of

  pub shown_number : id_at s i ≡ number (shown s i).id
  shown_number = id_number s i v.size st.slot ∙ ap number (sym id_of_lem)

  pub shown_long : length (shown s i).id ≡ 8
  shown_long = ap length id_of_lem ∙ length_fields (slot_of s i) ID.bit ID.width ID.count

  pub shown_octets : Octets (shown s i).id
  shown_octets = subst Octets (ap (λ (r : Record). r.id) (sym shown_of)) (decoded_sized (slot_of s i)).id

  module _ (w : withdrawn_in s (id_at s i) ≡ false) where
    askable : Askable s (shown s i).id i
    askable =
        record {
          valid = v;
          id_long = shown_long;
          slot = st.slot;
          filled = st.filled;
          id_of_lem = shown_number;
          not_withdrawn = ap (withdrawn_in s) (sym shown_number) ∙ w;
        }

    pub acts : Acts s i
    acts =
        record {
          read = ap (λ (r : SlotReading). r.number) (read_given s i v st);
          held = state_of ∙ held_of w;
          takes = sym (withdrawal_asked s (shown s i).id (gives i) (asked_from s (shown s i).id i askable));
        }

-- a certificate that stands is not withdrawn
pub standing_held : (s : List ℕ) (t i : ℕ) → Stored s i → Stands s t i → withdrawn_in s (id_at s i) ≡ false
unfolding subject_at
standing_held s t i st e = (chain_own _ ((stands_exactly s t i st.filled).0 e)).not_withdrawn
