-- Demand 3, over the definitions that the contracts of `list` and `withdraw` cite.
use Rattle.std.specs.Prelude.{◌≡◌, ◌↔◌, ℕ, ◌+◌, ◌*◌, ◌<◌, ◌≤◌, length, get_or}
use mathlib.Core.List.{List, Memᴰ}
use Rattle.bitfields.specs.Field.{number, field, Octets}
use Rattle.records.specs.Layout.{STATE, slot_bits}
use Rattle.store.specs.Slots.{slot_count, store_length, HELD, GONE, state_at, id_at}
use Rattle.validity.specs.Laws.{Valid}
use Rattle.chain.specs.Stored.{stands, Stored, Stands}
use Rattle.slot_lists.specs.Listings.{Listing, named}
use Rattle.withdrawal.specs.Order.{page, withdrawal}

-- s: the store that both get; c: the slot of the certificate; t: the second; l: the lent list; p: what list gives; w: the number that withdraw
-- answers, and the store that it leaves
pub record Demand3 (s : List ℕ) (c t : ℕ) (l : List ℕ) (p : Listing) (w : ℕ × List ℕ) : Type 0 where
  -- both are accepted
  pub listed : p.number ≡ 0
  pub withdrew : w.0 ≡ 0
  -- the page's list names every stored certificate that stands before and not after, and no other,
  pub exact : (i : ℕ) → Memᴰ i (named p) ↔ (Stored s i × Stands s t i × ¬ Stands w.1 t i)
  -- each once, in slot order
  pub ordered : (a b : ℕ) → a < b → b < p.n → get_or (named p) a 0 < get_or (named p) b 0
  -- the count is their number
  pub counted : length (named p) ≡ p.n
  -- behind the first n octets the lent list is as it was
  pub behind : (k : ℕ) → p.n ≤ k → get_or p.list k 0 ≡ get_or l k 0
  pub lent : length p.list ≡ length l
  -- drawing changes no bit of the store
  pub drawn : p.store ≡ s
  -- the withdrawal changes the state of that one certificate from held to withdrawn,
  pub held : state_at s c ≡ HELD
  pub gone : state_at w.1 c ≡ GONE
  -- and no other bit
  pub no_other_bit : (k : ℕ) → k < 8 * store_length → ¬ (k ≡ c * slot_bits + STATE.bit) → ¬ (k ≡ c * slot_bits + (STATE.bit + 1)) → field w.1 k 1 ≡ field s k 1
  pub long : length w.1 ≡ length s
  -- off the list a stored certificate stands after exactly when it stood before
  pub off_list : (i : ℕ) → Stored s i → ¬ Memᴰ i (named p) → stands w.1 t i ≡ stands s t i
  -- the store after is valid
  pub valid_after : Valid w.1
  -- if the certificate does not stand, the list is empty
  pub empty : ¬ Stands s t c → p.n ≡ 0

-- any octets that are a valid store, any certificate held there and not withdrawn, any second, any lent list of 64 octets or more
pub record Asked (s : List ℕ) (c : ℕ) (id l : List ℕ) : Type 0 where
  pub octets : Octets s
  pub valid : Valid s
  pub stored : Stored s c
  pub not_withdrawn : state_at s c ≡ HELD
  -- the id in the call is the id of the slot whose state changes
  pub id_long : length id ≡ 8
  pub id_of_lem : id_at s c ≡ number id
  pub room : slot_count ≤ length l

abbrev pub Demand : Type 0
Demand = (s : List ℕ) (c t : ℕ) (id l : List ℕ) → Asked s c id l → Demand3 s c t l (page s id t l) (withdrawal s id)

-- what a caller has that draws the page and then withdraws: for each slot that holds a certificate with that id
abbrev pub Kept3 : List ℕ → List ℕ → ℕ → List ℕ → Listing → ℕ × List ℕ → Type 0
Kept3 s id t l p w = (c : ℕ) → Asked s c id l → Demand3 s c t l p w

-- both calls on the same store and id: what each answers, refusals too, and demand 3
abbrev pub BothCalls : List ℕ → List ℕ → ℕ → List ℕ → Listing → ℕ × List ℕ → Type 0
BothCalls s id t l p w = (p ≡ page s id t l) × (w ≡ withdrawal s id) × Kept3 s id t l p w
