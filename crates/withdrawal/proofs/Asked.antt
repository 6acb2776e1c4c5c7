-- What the shared tests give, and what list and withdraw make of it. Assumes nothing.
use mathlib.Core.Path.{◌≡◌, refl, sym, ap, ◌∙◌}
use mathlib.Core.Bool.{Bool, true, false, not}
use mathlib.Core.List.{List}
use Rattle.std.specs.Prelude.{None, Some}
use Prim.Native.Nat.{ℕ, ◌≤◌, ◌<◌}
use lib.ListN.{length}
use lib.Seq.{take_all}
use native.Mathlib.Omega.{arith}
use borrow.Author.Tests.{eq-eqb, ne_eqb, eqb-true, le-leb, lt-leb, not-true}
use Rattle.order.specs.Steps.{Answer, gives, refused, pick, done, need, take, run}
use Rattle.order.proofs.Steps.{gives_exactly, passes, fails, halts}
use Rattle.octets.specs.Refusals.{BAD_CALL, BAD_STORE, UNKNOWN, WITHDRAWN}
use Rattle.bitfields.specs.Field.{number}
use Rattle.bitfields.specs.Words.{word_at}
use Rattle.bitfields.proofs.Window.{word_number}
use Rattle.store.specs.Slots.{store_length, id_at}
use Rattle.store.specs.Search.{find}
use Rattle.store.proofs.Found.{find_finds}
use Rattle.validity.specs.Valid.{valid_store}
use Rattle.chain.specs.Stored.{slot_or}
use Rattle.chain.proofs.Answers.{slot_given}
use Rattle.store.specs.Withdrawn.{withdrawn_in}
use Rattle.slot_lists.specs.Listings.{refused_list}
use Rattle.withdrawal.specs.Order.{asking, asked, withdrawn_from, withdrawal, listed_for, page}
use Rattle.withdrawal.specs.Computed.{held_at}

-- what is known of a certificate that may be asked for
pub record Held (s id : List ℕ) (c : ℕ) : Type 0 where
  pub long : length s ≡ store_length
  pub id_long : length id ≡ 8
  pub good : valid_store s ≡ true
  pub found : find s (number id) ≡ Some c
  pub not_withdrawn : withdrawn_in s (number id) ≡ false

pub asked_held : (s id : List ℕ) (c : ℕ) → asked s id ≡ gives c → Held s id c
unfolding asked
asked_held s id c e =
    let g = (gives_exactly (asking s id) c).0 e in
    let i = g.1.1.1.0 in
    let found : find s (number id) ≡ Some i = slot_given UNKNOWN _ i g.1.1.1.1 in
    record {
      long = eqb-true _ _ g.0;
      id_long = eqb-true _ _ g.1.0;
      good = g.1.1.0;
      found = found ∙ ap (λ (n : ℕ). Some n) (sym g.1.1.1.2.1);
      not_withdrawn = not-true _ g.1.1.1.2.0;
    }

pub held_below : (s id : List ℕ) (c : ℕ) → Held s id c → c < 64
held_below s id c h = (find_finds s (number id) c h.found).0

pub held_still : (s : List ℕ) (i : ℕ) → withdrawn_in s (id_at s i) ≡ false → gives i ≡ held_at s i
unfolding held_at
held_still s i e = rw e

-- eight octets are one number
pub id_number : (id : List ℕ) → length id ≡ 8 → word_at id 0 ≡ number id
id_number id e = word_number id 0 (omega arith) ∙ ap number (take_all 8 id (omega arith))

-- the tests in their order
module _ (s id : List ℕ) where
  pub asked_short : ¬ (length s ≡ store_length) → refused BAD_CALL ≡ asked s id
  unfolding asked
  asked_short n = sym (fails (ne_eqb _ _ n) _ _)

  module _ (long : length s ≡ store_length) where
    pub asked_id : ¬ (length id ≡ 8) → refused BAD_CALL ≡ asked s id
    unfolding asked
    asked_id n = sym (passes (eq-eqb _ _ long) _ _ ∙ fails (ne_eqb _ _ n) _ _)

    module _ (id_long : length id ≡ 8) where
      pub asked_bad : valid_store s ≡ false → refused BAD_STORE ≡ asked s id
      unfolding asked
      asked_bad e = sym (passes (eq-eqb _ _ long) _ _ ∙ passes (eq-eqb _ _ id_long) _ _ ∙ fails e _ _)

      module _ (good : valid_store s ≡ true) where
        to_find : asked s id ≡ run (take (slot_or UNKNOWN (find s (number id))) (λ slot. need WITHDRAWN (not (withdrawn_in s (number id))) (done slot)))
        unfolding asked
        to_find = passes (eq-eqb _ _ long) _ _ ∙ passes (eq-eqb _ _ id_long) _ _ ∙ passes good _ _

        pub asked_unknown : find s (number id) ≡ None → refused UNKNOWN ≡ asked s id
        asked_unknown e = sym (to_find ∙ halts (ap (slot_or UNKNOWN) e) _)

        pub asked_at : (c : ℕ) → find s (number id) ≡ Some c → held_at s c ≡ asked s id
        unfolding held_at run
        asked_at c e = by (withdrawn_in s (number id)) refl
          where
            same : withdrawn_in s (id_at s c) ≡ withdrawn_in s (number id)
            same = ap (withdrawn_in s) (find_finds s (number id) c e).2

            by : (b : Bool) → withdrawn_in s (number id) ≡ b → pick (withdrawn_in s (id_at s c)) (refused WITHDRAWN) (gives c) ≡ asked s id
            by true q = sym (to_find ∙ rw (e, same, q))
            by false q = sym (to_find ∙ rw (e, same, q))

-- list and withdraw go by them
pub page_short : (s id : List ℕ) (t : ℕ) (l : List ℕ) → length l < 64 → refused_list BAD_CALL l s ≡ page s id t l
unfolding page listed_for
page_short s id t l h = sym (ap (listed_for s t l) (fails (lt-leb 64 (length l) h) BAD_CALL (asking s id)))

pub page_asked : (s id : List ℕ) (t : ℕ) (l : List ℕ) (a : Answer ℕ) → 64 ≤ length l → asked s id ≡ a → listed_for s t l a ≡ page s id t l
unfolding page asked
page_asked s id t l a h e = sym (ap (listed_for s t l) (passes (le-leb 64 (length l) h) BAD_CALL (asking s id) ∙ e))

pub page_refused : (s id : List ℕ) (t : ℕ) (l : List ℕ) (k : ℕ) → 64 ≤ length l → asked s id ≡ refused k → refused_list k l s ≡ page s id t l
unfolding listed_for
page_refused s id t l k h e = page_asked s id t l (refused k) h e

pub withdrawal_asked : (s id : List ℕ) (a : Answer ℕ) → asked s id ≡ a → withdrawn_from s a ≡ withdrawal s id
unfolding withdrawal
withdrawal_asked s id a e = ap (withdrawn_from s) (sym e)
