-- The console's three pages, in a designer's words: the page that lists certificates (standing, and stored for each slot), the page that
-- asks "withdraw this?" (list, and stored for each slot that it names), and the page that says done (withdraw; then as the first).
-- Proved in proofs/Pages.antt.
use Rattle.std.specs.Prelude.{◌≡◌, ◌↔◌, ℕ, ◌≤◌, length}
use mathlib.Core.List.{List, Memᴰ}
use Rattle.bitfields.specs.Field.{Octets}
use Rattle.certificate.specs.Operations.{reading_of, id_of}
use Rattle.certificate.specs.declared.certificates.Certificate.{Certificate}
use Rattle.records.specs.declared.Record.{Record}
use Rattle.store.specs.Slots.{slot_count, HELD, GONE}
use Rattle.store.specs.Laws.{with_state}
use Rattle.validity.specs.Laws.{Valid}
use Rattle.slot_lists.specs.Listings.{named}
use Rattle.overview.specs.Order.{slot_reading, standing_listing}
use Rattle.withdrawal.specs.Order.{page, withdrawal}
use Rattle.withdrawal.specs.Laws.{Askable}
use Rattle.entries.specs.Readable.{accepted}
use Rattle.entries.specs.Stored.{record_from}
use Rattle.entries.specs.Kept.{Kept}
use Rattle.admission.specs.Order.{installed, admitted}
use Rattle.admission.specs.Admitted.{LowestEmpty}

-- what stored shows for a slot
abbrev pub shown : List ℕ → ℕ → Record
shown s i = (slot_reading s i).contents

-- the store that withdraw leaves
abbrev pub left : List ℕ → List ℕ → List ℕ
left s id = (withdrawal s id).1

-- a row of a page: stored shows a held certificate, and withdraw by the shown id takes the certificate in this very slot
pub record Acts (s : List ℕ) (i : ℕ) : Type 0 where
  pub read : (slot_reading s i).number ≡ 0
  pub held : (shown s i).state ≡ HELD
  pub takes : withdrawal s (shown s i).id ≡ (0, with_state s i GONE)

-- the second is the first but for the state
pub record SameButState (r r' : Record) : Type 0 where
  pub id : r'.id ≡ r.id
  pub issuer : r'.issuer ≡ r.issuer
  pub scope : r'.scope ≡ r.scope
  pub name : r'.name ≡ r.name
  pub key : r'.key ≡ r.key

-- a certificate was installed or admitted: stored shows it in the slot that was the lowest empty one
pub record Shows (store octets after : List ℕ) : Type 0 where
  pub slot : ℕ
  pub lowest_empty_lem : LowestEmpty store slot
  pub certificate : Certificate
  pub reads : reading_of octets ≡ accepted certificate
  -- with the fields that were read, which are what its contents say,
  pub fields : slot_reading after slot ≡ record { number = 0; contents = record_from octets certificate }
  pub kept : Kept octets certificate
  -- and with its id, the one that the operation id gives
  pub id : id_of octets ≡ record { number = 0; id = (shown after slot).id }

pub record Pages : Type 0 where
  -- the question's list is exactly what is in standing's list before the withdrawal and not after it, for the same second
  pub question : (s id : List ℕ) (c t : ℕ) (l before after : List ℕ) → Octets s → Askable s id c
      → slot_count ≤ length l → slot_count ≤ length before → slot_count ≤ length after
      → (i : ℕ) → Memᴰ i (named (page s id t l))
      ↔ (Memᴰ i (named (standing_listing s t before)) × ¬ Memᴰ i (named (standing_listing (left s id) t after)))
  -- what stored shows for a slot that standing or the question names is the certificate whose id withdraw would take
  pub standing_acts : (s : List ℕ) (t : ℕ) (l : List ℕ) → Valid s → slot_count ≤ length l
      → (i : ℕ) → Memᴰ i (named (standing_listing s t l)) → Acts s i
  pub question_acts : (s id : List ℕ) (c t : ℕ) (l : List ℕ) → Octets s → Askable s id c → slot_count ≤ length l
      → (i : ℕ) → Memᴰ i (named (page s id t l)) → Acts s i
  -- the certificate that is asked for is the one that stored shows in its slot
  pub asked_shown : (s id : List ℕ) (c : ℕ) → Octets id → Askable s id c → (shown s c).id ≡ id
  -- after the withdrawal stored shows the same but for the state, and for every other slot the same
  pub done_shown : (s id : List ℕ) (c : ℕ) → Octets s → Askable s id c
      → ((slot_reading (left s id) c).number ≡ 0) × ((shown (left s id) c).state ≡ GONE) × SameButState (shown s c) (shown (left s id) c)
  pub done_others : (s id : List ℕ) (c : ℕ) → Octets s → Askable s id c → (i : ℕ) → ¬ (i ≡ c) → slot_reading (left s id) i ≡ slot_reading s i
  -- what was installed or admitted is shown
  pub installed_shown : (s octets : List ℕ) (verdict : ℕ) (after : List ℕ) → Octets octets → installed s octets verdict ≡ (0, after) → Shows s octets after
  pub admitted_shown : (s octets : List ℕ) (verdict : ℕ) (after : List ℕ) → Octets octets → admitted s octets verdict ≡ (0, after) → Shows s octets after
