-- The laws of specs/Laws.antt hold. Assumes nothing.
use mathlib.Core.Path.{◌≡◌, refl, sym, ap, ◌∙◌}
use mathlib.Core.Logic.{◌↔◌, inr}
use mathlib.Core.Bool.{true}
use mathlib.Core.List.{List}
use Rattle.std.specs.Prelude.{Some}
use Prim.Native.Nat.{ℕ, ◌<◌}
use lib.Dec.{eqb}
use Rattle.order.specs.Steps.{Answer, gives, refused, rows, First, run}
use Rattle.order.specs.Steps as order
use Rattle.order.proofs.Steps.{refuses_at}
use Rattle.geo.proofs.Bools.{or_join}
use Rattle.bitfields.specs.Field.{number, Octets}
use Rattle.store.specs.Slots.{withdrawn_at}
use Rattle.store.specs.Search.{find}
use Rattle.store.proofs.Found.{find_finds, find_only}
use Rattle.store.proofs.Withdrawn.{withdrawn_kept}
use Rattle.validity.proofs.Laws.{valid_of}
use Rattle.validity.proofs.Laws as validity
use Rattle.store.specs.Withdrawn.{withdrawn_in}
use Rattle.slot_lists.specs.Listings.{refused_list}
use Rattle.withdrawal.specs.Order.{asking, asked, drawing, withdrawn_from, withdrawal, listed_for, page}
use Rattle.withdrawal.specs.Laws.{Askable, Laws}
use Rattle.withdrawal.proofs.Asked.{Held, asked_held, held_below, held_still, asked_at}
use Rattle.withdrawal.proofs.Demand.{demand3}

askable : (s id : List ℕ) (c : ℕ) → Held s id c → Askable s id c
askable s id c h =
    let f = find_finds s (number id) c h.found in
    record {
      valid = valid_of s h.good;
      id_long = h.id_long;
      slot = f.0;
      filled = f.1;
      id_of_lem = f.2;
      not_withdrawn = h.not_withdrawn;
    }

pub asked_from : (s id : List ℕ) (c : ℕ) → Askable s id c → asked s id ≡ gives c
asked_from s id c a =
    let found : find s (number id) ≡ Some c = ap (find s) (sym a.id_of_lem) ∙ find_only s a.valid.distinct c a.slot a.filled in
    sym (asked_at s id a.valid.size a.id_long (((validity.laws).valid_exactly s).1 a.valid) c found)
    ∙ sym (held_still s c (ap (withdrawn_in s) a.id_of_lem ∙ a.not_withdrawn))

-- the numbers, by what the tests answer
from_number : (s : List ℕ) (a : Answer ℕ) → (withdrawn_from s a).0 ≡ order.number a
from_number s (gives c) = refl
from_number s (refused k) = refl

from_keeps : (s : List ℕ) (a : Answer ℕ) → ¬ ((withdrawn_from s a).0 ≡ 0) → (withdrawn_from s a).1 ≡ s
from_keeps s (gives c) n = absurd (n refl)
from_keeps s (refused k) n = refl

for_number : (s : List ℕ) (t : ℕ) (l : List ℕ) (a : Answer ℕ) → (listed_for s t l a).number ≡ order.number a
unfolding listed_for
for_number s t l (gives c) = refl
for_number s t l (refused k) = refl

for_keeps : (s : List ℕ) (t : ℕ) (l : List ℕ) (a : Answer ℕ) → ¬ ((listed_for s t l a).number ≡ 0) → listed_for s t l a ≡ refused_list (listed_for s t l a).number l s
unfolding listed_for
for_keeps s t l (gives c) n = absurd (n refl)
for_keeps s t l (refused k) n = refl

for_reads : (s : List ℕ) (t : ℕ) (l : List ℕ) (a : Answer ℕ) → (listed_for s t l a).store ≡ s
unfolding listed_for
for_reads s t l (gives c) = refl
for_reads s t l (refused k) = refl

withdraw_refused : (s id : List ℕ) (k : ℕ) → ¬ (k ≡ 0) → ((withdrawal s id).0 ≡ k) ↔ First (rows (asking s id)) k
unfolding withdrawal asked
withdraw_refused s id k z =
    let e = refuses_at (asking s id) k z in
    let same = from_number s (run (asking s id)) in
    ((λ q. e.0 (sym same ∙ q)), (λ f. same ∙ e.1 f))

list_refused : (s id : List ℕ) (t : ℕ) (l : List ℕ) (k : ℕ) → ¬ (k ≡ 0) → ((page s id t l).number ≡ k) ↔ First (rows (drawing s id l)) k
unfolding page
list_refused s id t l k z =
    let e = refuses_at (drawing s id l) k z in
    let same = for_number s t l (run (drawing s id l)) in
    ((λ q. e.0 (sym same ∙ q)), (λ f. same ∙ e.1 f))

withdraw_keeps : (s id : List ℕ) → ¬ ((withdrawal s id).0 ≡ 0) → (withdrawal s id).1 ≡ s
unfolding withdrawal
withdraw_keeps s id n = from_keeps s (asked s id) n

-- the state that changes becomes withdrawn, and no other changes
stays_withdrawn : (s id : List ℕ) (i : ℕ) → Octets s → i < 64 → withdrawn_at s i ≡ true → withdrawn_at (withdrawal s id).1 i ≡ true
unfolding withdrawal
stays_withdrawn s id i are below gone = by (asked s id) refl
  where
    by : (a : Answer ℕ) → asked s id ≡ a → withdrawn_at (withdrawn_from s a).1 i ≡ true
    by (gives c) e =
        let h = asked_held s id c e in
        withdrawn_kept s c are h.long (held_below s id c h) i below ∙ or_join (eqb i c) (withdrawn_at s i) (inr gone)
    by (refused k) e = gone

list_keeps : (s id : List ℕ) (t : ℕ) (l : List ℕ) → ¬ ((page s id t l).number ≡ 0) → page s id t l ≡ refused_list (page s id t l).number l s
unfolding page
list_keeps s id t l n = for_keeps s t l (run (drawing s id l)) n

list_reads : (s id : List ℕ) (t : ℕ) (l : List ℕ) → (page s id t l).store ≡ s
unfolding page
list_reads s id t l = for_reads s t l (run (drawing s id l))

pub laws : Laws
laws =
    record {
      asked_exactly = λ s id c. ((λ e. askable s id c (asked_held s id c e)), asked_from s id c);
      withdraw_refused = withdraw_refused;
      list_refused = list_refused;
      withdraw_keeps = withdraw_keeps;
      list_keeps = list_keeps;
      stays_withdrawn = stays_withdrawn;
      list_reads = list_reads;
      demand3 = demand3;
    }
