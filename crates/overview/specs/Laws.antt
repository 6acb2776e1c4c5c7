-- What is proved of stored and standing (proofs/Laws.antt).
use Rattle.std.specs.Prelude.{◌≡◌, ◌↔◌, ℕ, ◌≤◌, ◌<◌, length, get_or}
use mathlib.Core.List.{List, Memᴰ}
use Rattle.order.specs.Steps.{rows, First}
use Rattle.records.specs.Records.{record_of}
use Rattle.store.specs.Slots.{slot_count, slot_of}
use Rattle.validity.specs.Laws.{Valid}
use Rattle.chain.specs.Stored.{Stored, Stands}
use Rattle.slot_lists.specs.Listings.{Listing, refused_list, named}
use Rattle.overview.specs.Order.{reading, no_record, slot_reading, looking, standing_listing}

-- p: what standing gives for the store s, the second t and the lent list l
pub record Overview (s : List ℕ) (t : ℕ) (l : List ℕ) (p : Listing) : Type 0 where
  pub accepted : p.number ≡ 0
  -- a slot is in the list exactly if it is filled and its certificate stands,
  pub exact : (i : ℕ) → Memᴰ i (named p) ↔ (Stored s i × Stands s t i)
  -- each once, in slot order
  pub ordered : (a b : ℕ) → a < b → b < p.n → get_or (named p) a 0 < get_or (named p) b 0
  -- the count is their number
  pub counted : length (named p) ≡ p.n
  -- behind the first n octets the lent list is as it was
  pub behind : (k : ℕ) → p.n ≤ k → get_or p.list k 0 ≡ get_or l k 0
  pub lent : length p.list ≡ length l
  -- no bit of the store changes
  pub unchanged : p.store ≡ s

pub record Laws : Type 0 where
  -- stored answers 0 exactly if the store is valid and the slot holds a certificate, and gives what stands there
  pub read_exactly : (s : List ℕ) (i : ℕ) → ((slot_reading s i).number ≡ 0) ↔ (Valid s × Stored s i)
  pub read_gives : (s : List ℕ) (i : ℕ) → (slot_reading s i).number ≡ 0 → (slot_reading s i).contents ≡ record_of (slot_of s i)
  -- a refusal is by the first test of the order that fails, and gives zeros
  pub read_refused : (s : List ℕ) (i k : ℕ) → ¬ (k ≡ 0) → ((slot_reading s i).number ≡ k) ↔ First (rows (reading s i)) k
  pub read_zeros : (s : List ℕ) (i : ℕ) → ¬ ((slot_reading s i).number ≡ 0) → (slot_reading s i).contents ≡ no_record
  -- standing answers 0 exactly if the store is valid and the list has room
  pub look_exactly : (s : List ℕ) (t : ℕ) (l : List ℕ) → ((standing_listing s t l).number ≡ 0) ↔ (Valid s × (slot_count ≤ length l))
  -- a refusal is by the first test of the order that fails, and leaves store and list as they were, with n 0
  pub look_refused : (s : List ℕ) (t : ℕ) (l : List ℕ) (k : ℕ) → ¬ (k ≡ 0) → ((standing_listing s t l).number ≡ k) ↔ First (rows (looking s l)) k
  pub look_keeps : (s : List ℕ) (t : ℕ) (l : List ℕ) → ¬ ((standing_listing s t l).number ≡ 0) → standing_listing s t l ≡ refused_list (standing_listing s t l).number l s
  -- standing never changes the store, accepted or not
  pub look_reads : (s : List ℕ) (t : ℕ) (l : List ℕ) → (standing_listing s t l).store ≡ s
  -- what the list says
  pub overview : (s : List ℕ) (t : ℕ) (l : List ℕ) → Valid s → slot_count ≤ length l → Overview s t l (standing_listing s t l)
