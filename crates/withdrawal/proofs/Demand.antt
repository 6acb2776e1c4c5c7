-- Demand 3 holds. Assumes nothing.
use mathlib.Core.Path.{◌≡◌, refl, sym, ap, subst₂, ◌∙◌}
use mathlib.Core.Logic.{◌↔◌}
use mathlib.Core.Bool.{Bool, true, false, not, ◌&&◌, false≢true}
use mathlib.Core.List.{List, [], Memᴰ}
use Rattle.std.specs.Prelude.{Some}
use Prim.Native.Nat.{ℕ, ◌≤◌, ◌<◌, zero-le}
use native.Mathlib.Omega.{arith}
use lib.ListN.{length, get_or, take}
use borrow.Author.Tests.{ne_eqb, not-true}
use Rattle.order.specs.Steps.{gives}
use Rattle.bitfields.specs.Field.{number}
use Rattle.geo.proofs.Bools.{and_split, and_join, same_test}
use Rattle.store.specs.Slots.{GONE, state_at, store_length}
use Rattle.store.specs.Search.{find}
use Rattle.store.specs.Withdrawn.{withdrawn_in}
use Rattle.store.proofs.Found.{find_only, withdrawn_found}
use Rattle.store.proofs.Withdrawn.{bit_kept, state_gone, long_kept}
use Rattle.validity.proofs.Laws as validity
use Rattle.chain.specs.Stored.{stands, Stored, Stands}
use Rattle.octets.specs.Buffers.{with_front}
use Rattle.slot_lists.specs.Listings.{Listing, written}
use Rattle.slot_lists.proofs.SlotSets.{mem_to, mem_from, slots_sorted, slots_fit, slots_none}
use Rattle.slot_lists.proofs.Listings.{front_named, front_long, front_behind}
use Rattle.withdrawal.specs.Order.{asked, after, falls, affected, withdrawal, listed_for, page}
use Rattle.withdrawal.specs.Demand.{Demand3, Asked, Demand, Kept3}
use Rattle.chain.proofs.Laws.{stands_filled}
use Rattle.withdrawal.proofs.Frame.{fewer_stand, stood}
use Rattle.withdrawal.proofs.Asked.{held_still, asked_at, page_asked, withdrawal_asked}

true_not : (b : Bool) → ¬ (b ≡ true) → not b ≡ true
true_not true n = absurd (n refl)
true_not false n = refl

not_both : (a b : Bool) → (a ≡ true → b ≡ true) → (a && not b) ≡ false
not_both true b f = rw (f refl)
not_both false b f = refl

decided : (b : Bool) {X : Type 0} → (b ≡ true → X) → (¬ (b ≡ true) → X) → X
decided true f g = f refl
decided false f g = g false≢true

affected_sorted : (s s' : List ℕ) (t a b : ℕ) → a < b → b < length (affected s s' t) → get_or (affected s s' t) a 0 < get_or (affected s s' t) b 0
unfolding affected
affected_sorted s s' t a b = slots_sorted (falls s s' t) 0 64 a b

pub affected_fit : (s s' : List ℕ) (t : ℕ) → length (affected s s' t) ≤ 64
unfolding affected
affected_fit s s' t = slots_fit (falls s s' t) 0 64

-- a slot is on the list exactly where its certificate is stored, stands before and does not after
affected_exactly : (s s' : List ℕ) (t i : ℕ) → Memᴰ i (affected s s' t) ↔ (Stored s i × Stands s t i × ¬ Stands s' t i)
unfolding affected
affected_exactly s s' t i = (
  (λ m.
      let r = mem_to (falls s s' t) 0 64 i m in
      let k = and_split (stands s t i) _ r.2 in
      (record { slot = r.1; filled = stands_filled s t i k.0 }, k.0, λ e. false≢true (sym (not-true _ k.1) ∙ e))),
  (λ r. mem_from (falls s s' t) 0 64 i zero-le r.0.slot (and_join (stands s t i) _ r.1 (true_not _ r.2))),
)

module _ (s : List ℕ) (c t : ℕ) (id l : List ℕ) (asks : Asked s c id l) where
  size : length s ≡ store_length
  size = asks.valid.size

  found : find s (number id) ≡ Some c
  found = ap (find s) (sym asks.id_of_lem) ∙ find_only s asks.valid.distinct c asks.stored.slot asks.stored.filled

  place : asked s id ≡ gives c
  place =
      sym (asked_at s id size asks.id_long (((validity.laws).valid_exactly s).1 asks.valid) c found) ∙ sym (held_still s c (ap (withdrawn_in s) asks.id_of_lem ∙ withdrawn_found s (number id) c found ∙ ne_eqb (state_at s c) GONE (omega (arith, asks.not_withdrawn))))

  withdraws : withdrawal s id ≡ (0, after s c)
  withdraws = sym (withdrawal_asked s id (gives c) place)

  pages : page s id t l ≡ written (affected s (after s c) t) l s
  unfolding listed_for
  pages = sym (page_asked s id t l (gives c) asks.room place)

  off_list : (i : ℕ) → Stored s i → ¬ Memᴰ i (affected s (after s c) t) → stands (after s c) t i ≡ stands s t i
  off_list i st m =
      same_test (stands (after s c) t i) (stands s t i) (fewer_stand s c asks.octets size asks.stored.slot asks.stored.filled t i st.slot)
      (λ e. decided (stands (after s c) t i) (λ f. f) (λ n. absurd (m ((affected_exactly s (after s c) t i).1 (st, e, n)))))

  none : ¬ Stands s t c → affected s (after s c) t ≡ []
  unfolding affected
  none no-stand =
      slots_none (falls s (after s c) t) 0 64 (λ i l u. not_both (stands s t i) (stands (after s c) t i)
      (λ e. decided (stands (after s c) t i) (λ f. f)
      (λ n. absurd (no-stand (stood s c asks.octets size asks.stored.slot asks.stored.filled asks.valid.distinct t i (omega arith) e n)))))

  -- what the definitions give
  holds_here : Demand3 s c t l (written (affected s (after s c) t) l s) (0, after s c)
  holds_here =
      let a : List ℕ = affected s (after s c) t in
      let fits : length a ≤ length l = omega (arith, affected_fit s (after s c) t, asks.room) in
      let n : take (length a) (with_front a l) ≡ a = front_named a l fits in
      record {
        listed = refl;
        withdrew = refl;
        exact = λ i. rw n (affected_exactly s (after s c) t i);
        ordered = λ x y u v. rw n (affected_sorted s (after s c) t x y u v);
        counted = ap length n;
        behind = front_behind a l fits;
        lent = front_long a l fits;
        drawn = refl;
        held = asks.not_withdrawn;
        gone = state_gone s c asks.octets size asks.stored.slot;
        no_other_bit = bit_kept s c asks.octets size asks.stored.slot;
        long = long_kept s c;
        off_list = λ i st m. off_list i st (λ on. m (rw n on));
        valid_after = (validity.laws).withdrawn s c asks.octets asks.valid asks.stored.slot asks.stored.filled;
        empty = λ no-stand. ap length (none no-stand);
      }

pub demand3 : Demand
demand3 s c t id l asks =
    subst₂ (λ (p : Listing) (w : ℕ × List ℕ). Demand3 s c t l p w) (sym (pages s c t id l asks)) (sym (withdraws s c t id l asks)) (holds_here s c t id l asks)

-- for whoever calls both, from their two contracts alone
pub kept3 : (s id : List ℕ) (t : ℕ) (l : List ℕ) (p : Listing) (w : ℕ × List ℕ) → p ≡ page s id t l → w ≡ withdrawal s id → Kept3 s id t l p w
kept3 s id t l p w e f c asks =
    subst₂ (λ (p : Listing) (w : ℕ × List ℕ). Demand3 s c t l p w) (sym e) (sym f) (demand3 s c t id l asks)
