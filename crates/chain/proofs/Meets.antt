-- Which ids a walk meets, and that no other id's withdrawal changes what it answers. Assumes nothing.
--     unmet       own tests that agree at every id met: the same answer
--     stranger    withdrawing an id that is not met changes nothing
use mathlib.Core.Path.{◌≡◌, refl, subst}
use mathlib.Core.Logic.{inr}
use mathlib.Core.Bool.{Bool}
use mathlib.Core.List.{List, Memᴰ}
use Prim.Native.Nat.{ℕ, zero, suc}
use Rattle.order.specs.Steps.{Answer, gives, Steps, done, stop, fork, run, Well, well, Check, needs}
use Rattle.order.proofs.Steps.{gives_exactly, needs_from, needs_same, take_same, fork_same}
use Rattle.scope.specs.Issued.{issued_rows}
use Rattle.chain.specs.declared.subjects.Subject.{Subject}
use Rattle.chain.specs.Places.{Place}
use Rattle.chain.specs.Walk.{own_rows, is_root, climb, walk, next, meets}

module _ (up : Subject → Answer Subject) where
  -- the walk on from c matters only at the certificate that comes next
  on_same : (own : Subject → List Check) (c : Subject) (f f' : Subject → Steps Well) → ((j : Subject) → next up own c ≡ gives j → run (f j) ≡ run (f' j))
      → run (needs (own c) (fork (is_root c) (done well) (climb up c f))) ≡ run (needs (own c) (fork (is_root c) (done well) (climb up c f')))
  on_same own c f f' h =
      needs_same (own c) _ _ (λ w. fork_same (is_root c) _ _ _ (λ r. take_same (up c) _ _ (λ j s. needs_same (issued_rows c.scope j.scope) _ _ (λ i.
      h j ((gives_exactly (needs (own c) (fork (is_root c) (stop 0) (climb up c (λ j. done j)))) j).1
      (needs_from (own c) _ j w (inr (r, (j, s, needs_from (issued_rows c.scope j.scope) (done j) j i refl)))))))))

  module _ (own own' : Subject → List Check) where
    -- own' agrees with own at every certificate whose id is met
    abbrev pub Agree : ℕ → Subject → Type 0
    Agree n c = (d : Subject) → Memᴰ d.id (meets up own n c) → own' d ≡ own d

    met_first : (n : ℕ) (c : Subject) → Memᴰ c.id (meets up own n c)
    unfolding meets
    met_first zero c = Memᴰ.head refl
    met_first (suc n) c = Memᴰ.head refl

    met_next : (n : ℕ) (c j : Subject) → next up own c ≡ gives j → Agree (suc n) c → Agree n j
    unfolding meets
    met_next n c j e a d m = a d (Memᴰ.tail (rw e m))

    pub unmet : (n : ℕ) (c : Subject) → Agree n c → run (walk up own' n c) ≡ run (walk up own n c)
    unfolding walk
    unmet zero c a = rw (a c (met_first zero c))
    unmet (suc n) c a =
        rw (a c (met_first (suc n) c)) (on_same own c (λ j. walk up own' n j) (λ j. walk up own n j) (λ j e. unmet n j (met_next n c j e a)))

  -- withdrawals that differ at the id x alone
  pub stranger : (gone gone' : ℕ → Bool) (x : ℕ) → ((y : ℕ) → ¬ (y ≡ x) → gone' y ≡ gone y) → (t : ℕ) (p : Place) (n : ℕ) (c : Subject)
      → ¬ Memᴰ x (meets up (own_rows gone t p) n c) → run (walk up (own_rows gone' t p) n c) ≡ run (walk up (own_rows gone t p) n c)
  stranger gone gone' x same t p n c f =
      unmet (own_rows gone t p) (own_rows gone' t p) n c (λ d m.
      rw (same d.id (λ e. f (subst (λ (y : ℕ). Memᴰ y (meets up (own_rows gone t p) n c)) e m))))
