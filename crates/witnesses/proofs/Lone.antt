-- Stores with one certificate: the empty store with a slot written, by the laws of the store. Assumes nothing.
use Prim.Native.Nat.{ℕ, zero, suc, ◌<◌}
use mathlib.Core.Path.{◌≡◌, refl, sym, ap, ◌∙◌}
use mathlib.Core.Bool.{true, not}
use mathlib.Core.Logic.{◌≢◌}
use Rattle.std.specs.Prelude.{Option, None, Some}
use mathlib.Core.List.{List, [], ◌∷◌, ◌++◌}
use native.Mathlib.Omega.{arith}
use borrow.Author.Tests.{eq-eqb, eqb-true}
use lib.Dec.{eqb}
use lib.ListN.{length}
use Rattle.geo.proofs.Bools.{never}
use Rattle.bitfields.specs.Field.{field}
use Rattle.store.specs.Slots.{slot_of, with_slot, EMPTY, state_at, filled_at, id_at, store_length}
use Rattle.store.specs.Search.{find}
use Rattle.store.proofs.Places.{slot_same, slot_other, length_with_slot}
use Rattle.store.proofs.Found.{find_finds, find_only}
use Rattle.validity.specs.Good.{good_slot}
use Rattle.validity.specs.Laws.{Valid}
use Rattle.validity.proofs.Laws.{laws}
use Rattle.witnesses.specs.Inputs.{empty, gone_issuer, ticket_issuer, other_issuer, short_issuer, bay_issuer}
use Rattle.witnesses.proofs.Opened.{Open}
use Rattle.witnesses.proofs.Empty.{empty_open, empty_states}
use Rattle.witnesses.proofs.Images.{gone, gone_image, ticket, ticket_image, unpermitted, unpermitted_image, short, short_image, bounded, bounded_image}
use Rattle.records.specs.Layout.{slot_length, STATE, ID}
use Rattle.sample_stores.specs.Stores.{rest}

abbrev pub lone : List ℕ → List ℕ
lone image = with_slot empty 0 image

append-nil : (l : List ℕ) → l ++ [] ≡ l
append-nil [] = refl
append-nil (a ∷ l) = ap (λ (t : List ℕ). a ∷ t) (append-nil l)

lone_is : (l : List ℕ) → l ++ [] ++ rest 1 ≡ lone l
unfolding empty
lone_is l = ap (λ (t : List ℕ). t ++ rest 1) (append-nil l)

pub gone_is : gone_issuer ≡ lone gone
unfolding gone_issuer
gone_is = (λ d. gone_image d ++ [] ++ rest 1) ∙ lone_is gone

pub ticket_is : ticket_issuer ≡ lone ticket
unfolding ticket_issuer
ticket_is = (λ d. ticket_image d ++ [] ++ rest 1) ∙ lone_is ticket

pub unpermitted_is : other_issuer ≡ lone unpermitted
unfolding other_issuer
unpermitted_is = (λ d. unpermitted_image d ++ [] ++ rest 1) ∙ lone_is unpermitted

pub short_is : short_issuer ≡ lone short
unfolding short_issuer
short_is = (λ d. short_image d ++ [] ++ rest 1) ∙ lone_is short

pub bounded_is : bay_issuer ≡ lone bounded
unfolding bay_issuer
bounded_is = (λ d. bounded_image d ++ [] ++ rest 1) ∙ lone_is bounded

size : length empty ≡ store_length
size = eqb-true _ _ empty_open.size

empty_valid : Valid empty
empty_valid = (laws.valid_exactly empty).0 empty_open.good

-- octets of a slot that keep the rules, whose state is not 0
pub record Image (l : List ℕ) (id : ℕ) : Type 0 where
  pub long : length l ≡ slot_length
  pub good : good_slot l ≡ true
  pub filled : not (eqb (field l STATE.bit STATE.width) EMPTY) ≡ true
  pub has_id_lem : field l ID.bit 64 ≡ id

module _ (l : List ℕ) (id : ℕ) (h : Image l id) where
  here : slot_of (lone l) 0 ≡ l
  here = slot_same empty 0 l size (omega arith) h.long

  here_filled : filled_at (lone l) 0 ≡ true
  unfolding state_at
  here_filled = ap (λ (t : List ℕ). not (eqb (field t STATE.bit STATE.width) EMPTY)) here ∙ h.filled

  here_id : id_at (lone l) 0 ≡ id
  unfolding id_at
  here_id = ap (λ (t : List ℕ). field t ID.bit 64) here ∙ h.has_id_lem

  -- the others are empty
  there : (j : ℕ) → suc j < 64 → filled_at (lone l) (suc j) ≡ true → ⊥
  unfolding state_at
  there j b f =
      let e : slot_of (lone l) (suc j) ≡ slot_of empty (suc j) = slot_other empty 0 l size (omega arith) h.long (suc j) b (λ e. omega arith) in
      never (sym (ap (λ (t : List ℕ). not (eqb (field t STATE.bit STATE.width) EMPTY)) e ∙ empty_states (suc j) b) ∙ f)

  slots : (j : ℕ) → j < 64 → good_slot (slot_of (lone l) j) ≡ true
  slots zero b = ap good_slot here ∙ h.good
  slots (suc j) b = ap good_slot (slot_other empty 0 l size (omega arith) h.long (suc j) b (λ e. omega arith)) ∙ empty_valid.slots (suc j) b

  distinct : (i j : ℕ) → i < 64 → j < 64 → filled_at (lone l) i ≡ true → filled_at (lone l) j ≡ true → id_at (lone l) i ≡ id_at (lone l) j → i ≡ j
  distinct zero zero a b f g e = refl
  distinct (suc i) j a b f g e = absurd (there i a f)
  distinct zero (suc j) a b f g e = absurd (there j b g)

  valid : Valid (lone l)
  valid = record { size = length_with_slot empty 0 l size (omega arith) h.long ∙ size; slots = slots; distinct = distinct }

  pub lone_open : Open (lone l)
  lone_open = record { size = eq-eqb (length (lone l)) store_length valid.size; good = (laws.valid_exactly (lone l)).1 valid }

  pub lone_found : find (lone l) id ≡ Some 0
  lone_found = ap (find (lone l)) (sym here_id) ∙ find_only (lone l) distinct 0 (omega arith) here_filled

  pub lone_none : (x : ℕ) → id ≢ x → find (lone l) x ≡ None
  lone_none x n = by (find (lone l) x) refl
    where
      at : (i : ℕ) → find (lone l) x ≡ Some i → ⊥
      at zero e = n (sym here_id ∙ (find_finds (lone l) x 0 e).2)
      at (suc j) e = let f = find_finds (lone l) x (suc j) e in there j f.0 f.1

      by : (o : Option ℕ) → find (lone l) x ≡ o → find (lone l) x ≡ None
      by None e = e
      by (Some i) e = absurd (at i e)
