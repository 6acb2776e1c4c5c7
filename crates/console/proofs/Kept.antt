-- What stored shows of a store after a withdrawal. Assumes nothing.
use mathlib.Core.Path.{◌≡◌, refl, sym, ap, ap₂, ◌∙◌}
use mathlib.Core.Logic.{◌≢◌, inl, inr}
use mathlib.Core.List.{List, ◌∷◌}
use Prim.Native.Nat.{ℕ, zero, suc, ◌+◌, ◌*◌, ◌≤◌, ◌<◌, zero-le}
use native.Mathlib.Nat.{mul-suc}
use native.Mathlib.Omega.{arith}
use lib.Dec.{lit≤}
use lib.ListN.{length}
use Rattle.bitfields.specs.Field.{field, Octets}
use Rattle.bitfields.specs.Runs.{fields_of}
use Rattle.records.specs.Layout.{Extent, ID, ISSUER, STATE, KIND, NAME_LENGTH, NAME, PARITY, KEY, end_bit, values_of, slot_bits}
use Rattle.records.specs.Records.{record_of}
use Rattle.records.specs.declared.Name.{Name}
use Rattle.records.specs.declared.Key.{Key}
use Rattle.store.specs.Slots.{store_length, slot_of, GONE, state_at}
use Rattle.store.specs.Laws.{with_state}
use Rattle.store.proofs.Places.{state_keeps}
use Rattle.store.proofs.Withdrawn.{scope_kept, state_kept, state_gone}
use Rattle.console.specs.Pages.{SameButState}

-- runs of fields that agree
runs_same : (l l' : List ℕ) (from to : ℕ) → ((b w : ℕ) → from ≤ b → b + w ≤ to → field l' b w ≡ field l b w) → (n b w : ℕ) → from ≤ b → b + w * n ≤ to
    → fields_of l' b w n ≡ fields_of l b w n
unfolding fields_of
runs_same l l' from to same zero b w start room = refl
runs_same l l' from to same (suc n) b w start room =
    ap₂ (λ (v : ℕ) (vs : List ℕ). v ∷ vs) (same b w start (omega (arith, mul-suc w n)))
    (runs_same l l' from to same n (b + w) w (omega arith) (omega (arith, mul-suc w n)))

state_was : (s : List ℕ) (i : ℕ) → state_at s i ≡ (record_of (slot_of s i)).state
unfolding record_of state_at
state_was s i = refl

module _ (s : List ℕ) (c : ℕ) (are : Octets s) (size : length s ≡ store_length) (h : c < 64) (i : ℕ) (hi : i < 64) where
  abbrev old : List ℕ
  old = slot_of s i

  abbrev new : List ℕ
  new = slot_of (with_state s c GONE) i

  -- fields before the state, and behind it
  before_state : (b w : ℕ) → 0 ≤ b → b + w ≤ STATE.bit → field new b w ≡ field old b w
  before_state b w start room = state_keeps s c are size h GONE i b w (lit≤ tt) hi (omega arith) (inl room)

  behind_state : (b w : ℕ) → KIND.bit ≤ b → b + w ≤ slot_bits → field new b w ≡ field old b w
  behind_state b w start room = state_keeps s c are size h GONE i b w (lit≤ tt) hi room (inr (inl start))

  values_before : (p : Extent) → end_bit p ≤ STATE.bit → values_of new p ≡ values_of old p
  values_before p room = runs_same old new 0 STATE.bit before_state p.count p.bit p.width zero-le room

  values_behind : (p : Extent) → KIND.bit ≤ p.bit → end_bit p ≤ slot_bits → values_of new p ≡ values_of old p
  values_behind p start room = runs_same old new KIND.bit slot_bits behind_state p.count p.bit p.width start room

  name_kept : (record_of new).name ≡ (record_of old).name
  unfolding record_of
  name_kept =
      ap₂ {C = Name} (λ (n : ℕ) (o : List ℕ). record { length = n; octets = o }) (behind_state NAME_LENGTH.bit NAME_LENGTH.width (lit≤ tt) (lit≤ tt)) (values_behind NAME (lit≤ tt) (lit≤ tt))

  key_kept : (record_of new).key ≡ (record_of old).key
  unfolding record_of
  key_kept =
      ap₂ {C = Key} (λ (n : ℕ) (o : List ℕ). record { parity = n; octets = o }) (behind_state PARITY.bit PARITY.width (lit≤ tt) (lit≤ tt)) (values_behind KEY (lit≤ tt) (lit≤ tt))

  pub but_state : SameButState (record_of old) (record_of new)
  unfolding record_of
  but_state =
      record {
        id = values_before ID (lit≤ tt);
        issuer = values_before ISSUER (lit≤ tt);
        scope = scope_kept s c are size h i hi;
        name = name_kept;
        key = key_kept;
      }

  state_of : (record_of new).state ≡ state_at (with_state s c GONE) i
  state_of = sym (state_was (with_state s c GONE) i)

  pub state_left : i ≡ c → (record_of new).state ≡ GONE
  state_left e = state_of ∙ ap (state_at (with_state s c GONE)) e ∙ state_gone s c are size h

  pub record_kept : i ≢ c → record_of new ≡ record_of old
  record_kept n =
      let same = but_state in
      let state : (record_of new).state ≡ (record_of old).state = state_of ∙ state_kept s c are size h i hi n ∙ state_was s i in
      λ d. record { id = same.id d; issuer = same.issuer d; state = state d; scope = same.scope d; name = same.name d; key = same.key d }
