-- What the withdrawal of slot c leaves as it was: a walk of the store that it leaves is a walk of the old store with c regarded as withdrawn.
-- Assumes nothing.
use mathlib.Core.Path.{◌≡◌, refl, sym, ap, ap₂, subst, ◌∙◌, fun_ext}
use mathlib.Core.Bool.{Bool, true, false, not, ◌&&◌, ◌||◌}
use mathlib.Core.List.{List}
use Rattle.std.specs.Prelude.{Option, None, Some}
use Prim.Native.Nat.{ℕ, ◌+◌, ◌-◌, ◌<◌}
use native.Mathlib.Omega.{arith}
use lib.Dec.{eqb}
use lib.ListN.{length}
use borrow.Author.Tests.{ne_eqb, eqb-true, eq-eqb}
use Rattle.order.specs.Steps.{Answer, gives, number, run}
use Rattle.octets.specs.Refusals.{UNKNOWN}
use Rattle.bitfields.specs.Field.{Octets}
use Rattle.geo.proofs.Bools.{and_split, and_join}
use Rattle.store.specs.Slots.{filled_at, withdrawn_at, id_at, store_length}
use Rattle.store.specs.Search.{find}
use Rattle.store.specs.Laws.{Distinct}
use Rattle.store.proofs.Found.{find_finds}
use Rattle.store.proofs.Withdrawn.{id_kept, issuer_kept, scope_kept, filled_kept, withdrawn_kept, find_kept}
use Rattle.chain.specs.declared.subjects.Subject.{Subject}
use Rattle.chain.specs.Places.{Place}
use Rattle.chain.specs.Walk.{own_rows, walk}
use Rattle.chain.specs.Chains.{Sound, Chain}
use Rattle.chain.specs.Laws.{StoredIn, Passed}
use Rattle.chain.specs.Stored.{subject_at, subject_or, issuer_in, walk_number, followers, stands_by, stands}
use Rattle.chain.specs.Computed.{no_slot, also_at}
use Rattle.store.specs.Withdrawn.{at_found, withdrawn_in}
use Rattle.chain.proofs.Own.{none_also}
use Rattle.chain.proofs.Walks.{chain_map}
use Rattle.chain.proofs.Chains as chains
use Rattle.chain.proofs.Laws.{accepted_exactly, passed_stored, stands_exactly, stands_filled, laws}
use Rattle.withdrawal.specs.Order.{after, falls}
use Rattle.withdrawal.specs.Computed.{falls_with}

id_of_lem : (s : List ℕ) (i : ℕ) → id_at s i ≡ (subject_at s i).id
unfolding subject_at
id_of_lem s i = refl

stands_now : (s : List ℕ) (t i : ℕ) → stands_by (also_at s no_slot) s t i ≡ stands s t i
unfolding stands
stands_now s t i = ap (λ (g : ℕ → Bool). stands_by g s t i) (none_also s)

-- regarding c as withdrawn matters at its id alone, and only adds to what is withdrawn
also_other : (s : List ℕ) (c y : ℕ) → ¬ (y ≡ id_at s c) → also_at s c y ≡ withdrawn_in s y
unfolding also_at
also_other s c y n = by (find s y) refl
  where
    by : (o : Option ℕ) → find s y ≡ o → (at_found (λ i. eqb i c) o || withdrawn_in s y) ≡ withdrawn_in s y
    by None e = refl
    by (Some i) e = rw (ne_eqb i c (λ q. n (sym (find_finds s y i e).2 ∙ ap (id_at s) q)))

or_right : (a b : Bool) → (a || b) ≡ false → b ≡ false
or_right true b e = let z : ◌≡◌ {A = ℕ} 0 1 = cc in absurd (omega arith)
or_right false b e = e

also_more : (s : List ℕ) (c y : ℕ) → also_at s c y ≡ false → withdrawn_in s y ≡ false
unfolding also_at
also_more s c y e = or_right (at_found (λ i. eqb i c) (find s y)) (withdrawn_in s y) e

module _ (s : List ℕ) (c : ℕ) (are : Octets s) (size : length s ≡ store_length) (h : c < 64) (filled : filled_at s c ≡ true) where
  subject_kept : (i : ℕ) → i < 64 → subject_at (after s c) i ≡ subject_at s i
  unfolding subject_at
  subject_kept i hi =
      let a : id_at (after s c) i ≡ id_at s i = id_kept s c are size h i hi in
      λ d. record { id = a d; issuer = issuer_kept s c are size h i hi d; scope = scope_kept s c are size h i hi d }

  or_kept : (x : ℕ) (o : Option ℕ) → find s x ≡ o → subject_or UNKNOWN (after s c) o ≡ subject_or UNKNOWN s o
  or_kept x None e = refl
  or_kept x (Some i) e = ap (λ (d : Subject). gives d) (subject_kept i (find_finds s x i e).0)

  issuer_same : issuer_in (after s c) ≡ issuer_in s
  unfolding issuer_in
  issuer_same =
      fun_ext (λ x. ap (subject_or UNKNOWN (after s c)) (find_kept s c are size h filled x.issuer) ∙ or_kept x.issuer (find s x.issuer) refl)

  found_kept : (x : ℕ) (o : Option ℕ) → find s x ≡ o → at_found (withdrawn_at (after s c)) o ≡ (at_found (λ i. eqb i c) o || at_found (withdrawn_at s) o)
  found_kept x None e = refl
  found_kept x (Some i) e = withdrawn_kept s c are size h i (find_finds s x i e).0

  -- what counts as withdrawn after: what did, and c
  pub gone_after : (x : ℕ) → withdrawn_in (after s c) x ≡ also_at s c x
  unfolding withdrawn_in also_at
  gone_after x = ap (at_found (withdrawn_at (after s c))) (find_kept s c are size h filled x) ∙ found_kept x (find s x) refl

  walk_same : (g : ℕ → Bool) (t : ℕ) (p : Place) (n : ℕ) (x : Subject) → walk_number g (after s c) t p n x ≡ walk_number g s t p n x
  unfolding walk_number
  walk_same g t p n x = ap (λ (up : Subject → Answer Subject). number (run (walk up (own_rows g t p) n x))) issuer_same

  pub stands_after : (t i : ℕ) → i < 64 → stands (after s c) t i ≡ stands_by (also_at s c) s t i
  unfolding stands
  stands_after t i hi =
      ap₂ (λ (f : Bool) (n : ℕ). f && eqb n 0) (filled_kept s c are size h filled i hi)
      (ap (λ (g : ℕ → Bool). walk_number g (after s c) t None followers (subject_at (after s c) i)) (fun_ext gone_after)
      ∙ walk_same (also_at s c) t None followers (subject_at (after s c) i)
      ∙ ap (walk_number (also_at s c) s t None followers) (subject_kept i hi))

  -- how the code asks for it
  pub falls_with_lem : (t i : ℕ) → i < 64 → falls_with s t c i ≡ falls s (after s c) t i
  unfolding falls_with
  falls_with_lem t i hi = ap₂ (λ (a b : Bool). a && not b) (stands_now s t i) (sym (stands_after t i hi))

  -- who stands after stood before
  pub fewer_stand : (t i : ℕ) → i < 64 → stands (after s c) t i ≡ true → stands s t i ≡ true
  unfolding stands
  fewer_stand t i hi e =
      let k = and_split (filled_at s i) _ (sym (stands_after t i hi) ∙ e) in
      and_join (filled_at s i) _ k.0
      (eq-eqb _ 0 (laws.fewer (withdrawn_in s) (also_at s c) (also_more s c) s t None followers (subject_at s i) (eqb-true _ 0 k.1)))

  -- who stood before and does not after stood through c, which stood too
  pub stood : Distinct s → (t i : ℕ) → i < 64 → stands s t i ≡ true → ¬ (stands (after s c) t i ≡ true) → stands s t c ≡ true
  stood distinct t i hi e n = (stands_exactly s t c filled).1 (rw (sym here) chain)
    where
      fi : filled_at s i ≡ true
      fi = stands_filled s t i e

      passed : Passed (issuer_in s) (λ d. Sound (withdrawn_in s) t None d × StoredIn s d) (id_at s c) 7
      passed =
          passed_stored (withdrawn_in s) (also_at s c) (id_at s c) (also_other s c) s t None followers (subject_at s i)
          (record { slot = i; below = hi; filled = fi; here = refl }) ((stands_exactly s t i fi).0 e)
          (λ k. n (stands_after t i hi ∙ and_join (filled_at s i) _ fi (eq-eqb _ 0 ((accepted_exactly (also_at s c) s t None followers (subject_at s i)).1 k))))

      stored : StoredIn s passed.certificate
      stored = (chains.chain_own (issuer_in s) passed.chain).1

      here : passed.certificate ≡ subject_at s c
      here =
          let same : stored.slot ≡ c = distinct stored.slot c stored.below h stored.filled filled (id_of_lem s stored.slot ∙ ap (λ (d : Subject). d.id) stored.here ∙ passed.is) in
          sym stored.here ∙ ap (subject_at s) same

      chain : Chain (issuer_in s) (Sound (withdrawn_in s) t None) 7 passed.certificate
      chain =
          let sum : passed.after + (7 - passed.after) ≡ 7 = omega (arith, passed.no_more) in
          chain_map (issuer_in s) (λ d w. w.0) (subst (λ (m : ℕ). Chain (issuer_in s) (λ d. Sound (withdrawn_in s) t None d × StoredIn s d) m passed.certificate) sum
          (chains.more_by (issuer_in s) passed.after (7 - passed.after) passed.chain))
