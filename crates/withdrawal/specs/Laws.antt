-- What is proved of list and withdraw (proofs/Laws.antt), besides demand 3 (specs/Demand).
use Rattle.std.specs.Prelude.{◌≡◌, ◌↔◌, true, false, List, ℕ, ◌<◌, length}
use Rattle.order.specs.Steps.{gives, rows, First}
use Rattle.bitfields.specs.Field.{number, Octets}
use Rattle.store.specs.Slots.{slot_count, filled_at, withdrawn_at, id_at}
use Rattle.store.specs.Withdrawn.{withdrawn_in}
use Rattle.validity.specs.Laws.{Valid}
use Rattle.slot_lists.specs.Listings.{refused_list}
use Rattle.withdrawal.specs.Order.{asking, asked, drawing, withdrawal, page}
use Rattle.withdrawal.specs.Demand.{Demand}

-- slot c holds the certificate that is asked for, and it is not withdrawn yet
pub record Askable (s id : List ℕ) (c : ℕ) : Type 0 where
  pub valid : Valid s
  pub id_long : length id ≡ 8
  pub slot : c < slot_count
  pub filled : filled_at s c ≡ true
  pub id_of_lem : id_at s c ≡ number id
  pub not_withdrawn : withdrawn_in s (number id) ≡ false

pub record Laws : Type 0 where
  -- the shared tests give a slot exactly if it holds a certificate that may be asked for
  pub asked_exactly : (s id : List ℕ) (c : ℕ) → (asked s id ≡ gives c) ↔ Askable s id c
  -- a refusal is by the first test of the order that fails,
  pub withdraw_refused : (s id : List ℕ) (k : ℕ) → ¬ (k ≡ 0) → ((withdrawal s id).0 ≡ k) ↔ First (rows (asking s id)) k
  pub list_refused : (s id : List ℕ) (t : ℕ) (l : List ℕ) (k : ℕ) → ¬ (k ≡ 0) → ((page s id t l).number ≡ k) ↔ First (rows (drawing s id l)) k
  -- and leaves store and list as they were, with n 0
  pub withdraw_keeps : (s id : List ℕ) → ¬ ((withdrawal s id).0 ≡ 0) → (withdrawal s id).1 ≡ s
  pub list_keeps : (s id : List ℕ) (t : ℕ) (l : List ℕ) → ¬ ((page s id t l).number ≡ 0) → page s id t l ≡ refused_list (page s id t l).number l s
  -- a withdrawn slot stays so for good, accepted or not; install and admit fill empty slots alone (admission, `filled-kept`)
  pub stays_withdrawn : (s id : List ℕ) (i : ℕ) → Octets s → i < slot_count → withdrawn_at s i ≡ true → withdrawn_at (withdrawal s id).1 i ≡ true
  -- list never changes the store, accepted or not
  pub list_reads : (s id : List ℕ) (t : ℕ) (l : List ℕ) → (page s id t l).store ≡ s
  -- demand 3
  pub demand3 : Demand
