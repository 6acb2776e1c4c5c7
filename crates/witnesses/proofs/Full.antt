-- The full store: by the laws of records and of the store, not by computing its 13,568 octets. Assumes nothing.
use Prim.Native.Nat.{ℕ, zero, suc, ◌+◌, ◌*◌, ◌^◌, ◌≤◌, ◌<◌}
use mathlib.Core.Path.{◌≡◌, refl, sym, ap, subst, ◌∙◌}
use mathlib.Core.Bool.{true, false, not}
use mathlib.Core.Logic.{inl, inr}
use Rattle.std.specs.Prelude.{Option, None, Some}
use mathlib.Core.List.{List, ◌∷◌, ◌++◌, append_assoc}
use native.Mathlib.Omega.{arith}
use borrow.Author.Tests.{eq-eqb}
use lib.Dec.{eqb}
use lib.ListN.{length, get_or, take, drop, replicate, length-append}
use lib.Seq.{take_at, drop-append-add}
use Rattle.geo.specs.Area.{unused, inside_of}
use Rattle.order.specs.Steps.{first_of}
use Rattle.bitfields.specs.Field.{number, field}
use Rattle.scope.specs.Issued.{issued_number}
use Rattle.records.specs.Layout.{ID, values_of, slot_length, STATE}
use Rattle.records.specs.Ranges.{InRange, Edges, Sized}
use Rattle.records.specs.Records.{image_of, scope_of, record_of}
use Rattle.records.specs.declared.Record.{Record}
use Rattle.records.proofs.Fields.{image_long, image_id, image_state}
use Rattle.records.proofs.Trip.{round_trip}
use Rattle.store.specs.Slots.{slot_of, EMPTY, GONE, state_at, filled_at, id_at, store_length}
use Rattle.store.specs.Search.{find, lowest_empty}
use Rattle.store.proofs.Stored.{id_number}
use Rattle.store.proofs.Found.{find_finds, find_only, empty_finds, withdrawn_found}
use Rattle.validity.specs.Good.{good_slot}
use Rattle.validity.specs.Laws.{Valid}
use Rattle.validity.proofs.Laws.{laws}
use Rattle.entries.proofs.Rules.{Rules}
use Rattle.layout.specs.Fields.{fields_at}
use Rattle.admission.specs.Order.{absent, installed, admitted}
use Rattle.admission.specs.Computed.{below_number, test_number}
use Rattle.admission.proofs.Good.{image_good}
use Rattle.admission.proofs.Tests.{below_held, anchor_passes, test_passes}
use Rattle.witnesses.specs.Inputs.{anchor, anchor_id, pass, pass_id, authority, authorities, full}
use Rattle.witnesses.proofs.Opened.{Open}
use Rattle.witnesses.proofs.Kept.{anchor_at, anchor_kept, anchor_read, anchor_record, pass_at, pass_kept, pass_read, pass_record}
use Rattle.witnesses.proofs.Entering.{full_at, passing}
use Rattle.sample_stores.specs.Stores.{eight, images}

-- ---- one of its records

same_all : {A : Type 0} (n : ℕ) (v : A) (i : ℕ) → get_or (replicate n v) i v ≡ v
same_all zero v i = refl
same_all (suc n) v zero = refl
same_all (suc n) v (suc i) = same_all n v i

all_below : (n v m : ℕ) → v < m → 0 < m → (i : ℕ) → get_or (replicate n v) i 0 < m
all_below zero v m h z i = z
all_below (suc n) v m h z zero = h
all_below (suc n) v m h z (suc i) = all_below n v m h z i

permissions_below : (i : ℕ) → get_or (36 ∷ replicate 15 0) i 0 < 2 ^ 28
permissions_below zero = omega arith
permissions_below (suc i) = all_below 15 0 (2 ^ 28) (omega arith) (omega arith) i

permissions_rest : (i : ℕ) → 1 ≤ i → ◌≡◌ {A = ℕ} (get_or (36 ∷ replicate 15 0) i 0) 0
permissions_rest zero h = absurd (omega arith)
permissions_rest (suc i) h = same_all 15 0 i

no_edges : Edges unused
no_edges = record { north = omega arith; west = omega arith; south = omega arith; east = omega arith }

module _ (o : ℕ) (h : o < 64) where
  in_range_lem : InRange (authority o)
  in_range_lem =
      record {
        state = omega arith;
        kind = omega arith;
        end = omega arith;
        name = omega arith;
        parity = omega arith;
        rectangles = omega arith;
        permission_count = omega arith;
        permissions = permissions_below;
      }

  sized : Sized (authority o)
  sized =
      record {
        id_long = refl;
        id = all_below 8 o (2 ^ 8) (omega arith) (omega arith);
        issuer_long = refl;
        issuer = all_below 8 1 (2 ^ 8) (omega arith) (omega arith);
        start = omega arith;
        name_long = refl;
        name = all_below 32 0 (2 ^ 8) (omega arith) (omega arith);
        key_long = refl;
        key = all_below 32 0 (2 ^ 8) (omega arith) (omega arith);
        rectangles_long = refl;
        rectangles = λ i k. subst Edges (sym (same_all 4 unused i)) no_edges;
        permissions_long = refl;
      }

  rules : Rules (authority o)
  rules =
      record {
        held = refl;
        kind = inr (inl refl);
        start_before = omega arith;
        end_latest = omega arith;
        name_short = omega arith;
        name_rest = λ i k. same_all 32 0 i;
        rectangles_few = omega arith;
        rectangles_good = λ i k. absurd (omega arith);
        rectangles_rest = λ i k. same_all 4 unused i;
        permissions_few = omega arith;
        permissions_rest = permissions_rest;
      }

-- ---- its slots

images_long : (n o : ℕ) → length (images (authorities n o)) ≡ n * slot_length
images_long zero o = refl
images_long (suc n) o =
    length-append (image_of (authority o)) (images (authorities n (suc o))) ∙ omega (arith, image_long (authority o), images_long n (suc o))

slot_is : (n o i : ℕ) (rest : List ℕ) → i < n → take slot_length (drop (i * slot_length) (images (authorities n o) ++ rest)) ≡ image_of (authority (o + i))
slot_is zero o i rest h = absurd (omega arith)
slot_is (suc n) o zero rest h =
    let e : o ≡ o + 0 = omega arith in
    ap (take slot_length) (append_assoc (image_of (authority o)) (images (authorities n (suc o))) rest)
    ∙ take_at (image_of (authority o)) (images (authorities n (suc o)) ++ rest) slot_length (image_long (authority o))
    ∙ ap (λ (k : ℕ). image_of (authority k)) e
slot_is (suc n) o (suc i) rest h =
    let a : List ℕ = image_of (authority o) in
    let more : List ℕ = images (authorities n (suc o)) in
    let skip : suc i * slot_length ≡ length a + i * slot_length = omega (arith, image_long (authority o)) in
    let e : suc o + i ≡ o + suc i = omega arith in
    ap (λ (t : List ℕ). take slot_length (drop (suc i * slot_length) t)) (append_assoc a more rest)
    ∙ ap (λ (k : ℕ). take slot_length (drop k (a ++ (more ++ rest)))) skip
    ∙ ap (take slot_length) (drop-append-add a (more ++ rest) (i * slot_length))
    ∙ slot_is n (suc o) i rest (omega arith)
    ∙ ap (λ (k : ℕ). image_of (authority k)) e

long : length full ≡ store_length
unfolding full
long = length-append (images (authorities 64 0)) (replicate 0 0) ∙ omega (arith, images_long 64 0)

slot_full : (i : ℕ) → i < 64 → slot_of full i ≡ image_of (authority i)
unfolding full
slot_full i h = let e : 0 + i ≡ i = omega arith in slot_is 64 0 i (replicate 0 0) h ∙ ap (λ (k : ℕ). image_of (authority k)) e

state_full : (i : ℕ) → i < 64 → state_at full i ≡ 1
unfolding state_at
state_full i h = ap (λ (t : List ℕ). field t STATE.bit STATE.width) (slot_full i h) ∙ image_state (authority i) (in_range_lem i h) (sized i h)

number_eight : (o : ℕ) → number (eight o) ≡ o * 0x0101010101010101
unfolding number
number_eight o = omega arith

id_full : (i : ℕ) → i < 64 → id_at full i ≡ i * 0x0101010101010101
id_full i h =
    id_number full i long h ∙ ap (λ (t : List ℕ). number (values_of t ID)) (slot_full i h)
    ∙ ap number (image_id (authority i) (in_range_lem i h) (sized i h)) ∙ number_eight i

filled : (i : ℕ) → i < 64 → filled_at full i ≡ true
filled i h = ap (λ (k : ℕ). not (eqb k EMPTY)) (state_full i h)

valid : Valid full
valid =
    record {
      size = long;
      slots = λ i h. ap good_slot (slot_full i h) ∙ image_good (authority i) (in_range_lem i h) (sized i h) (rules i h);
      distinct = λ i j hi hj fi fj e. omega (arith, e, id_full i hi, id_full j hj);
    }

full_open : Open full
full_open = record { size = eq-eqb (length full) store_length long; good = (laws.valid_exactly full).1 valid }

-- ---- what is found in it

no_slot : lowest_empty full ≡ None
no_slot = by (lowest_empty full) refl
  where
    by : (o : Option ℕ) → lowest_empty full ≡ o → lowest_empty full ≡ None
    by None e = e
    by (Some i) e = let f = empty_finds full i e in absurd (omega (arith, f.1, state_full i f.0))

not_there : (id : ℕ) → 63 * 0x0101010101010101 < id → find full id ≡ None
not_there id h = by (find full id) refl
  where
    by : (o : Option ℕ) → find full id ≡ o → find full id ≡ None
    by None e = e
    by (Some i) e = let f = find_finds full id i e in absurd (omega (arith, f.0, f.2, id_full i f.0))

no_anchor : find full (number anchor_id) ≡ None
unfolding number
no_anchor = not_there (number anchor_id) (omega arith)

no_pass : find full (number pass_id) ≡ None
unfolding number
no_pass = not_there (number pass_id) (omega arith)

-- ---- "full"

anchor_passing : test_number true full anchor_kept 1 ≡ 0
anchor_passing = sym (test_passes true full anchor_kept 1 (ap absent no_anchor) (sym (anchor_passes true full anchor_kept refl)) refl)

pub anchor_full : installed full anchor 1 ≡ (16, full)
unfolding fields_at
anchor_full = full_at true full anchor 1 full_open (anchor_at 0) anchor_kept anchor_read anchor_record refl anchor_passing no_slot

issuer_there : find full (number (eight 0x02)) ≡ Some 2
issuer_there =
    let e : number (eight 0x02) ≡ id_at full 2 = number_eight 2 ∙ sym (id_full 2 (omega arith)) in
    ap (find full) e ∙ find_only full valid.distinct 2 (omega arith) (filled 2 (omega arith))

issuer_scope : scope_of (slot_of full 2) ≡ (authority 2).scope
unfolding record_of
issuer_scope =
    ap scope_of (slot_full 2 (omega arith)) ∙ ap (λ (r : Record). r.scope) (round_trip (authority 2) (in_range_lem 2 (omega arith)) (sized 2 (omega arith)))

issued : issued_number pass_kept.scope (authority 2).scope ≡ 0
unfolding issued_number first_of inside_of
issued = refl

issuer_below : below_number full pass_kept.scope 2 ≡ 0
issuer_below =
    sym (below_held full pass_kept.scope 2
    (withdrawn_found full (id_at full 2) 2 (find_only full valid.distinct 2 (omega arith) (filled 2 (omega arith))) ∙ ap (λ (k : ℕ). eqb k GONE) (state_full 2 (omega arith))))
    ∙ ap (issued_number pass_kept.scope) issuer_scope
    ∙ issued

pub pass_full : admitted full pass 1 ≡ (16, full)
unfolding fields_at
pass_full = full_at false full pass 1 full_open (pass_at 0) pass_kept pass_read pass_record refl (passing full 1 no_pass 2 issuer_there issuer_below refl) no_slot
