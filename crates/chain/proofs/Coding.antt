-- What the code of a walk cites at its returns. Assumes nothing.
use mathlib.Core.Path.{◌≡◌, refl, sym, ap, ◌∙◌}
use mathlib.Core.Bool.{Bool, false}
use mathlib.Core.List.{List, [], ◌∷◌}
use Prim.Native.Nat.{ℕ, zero, suc, ◌-◌}
use native.Mathlib.Omega.{arith}
use Rattle.order.specs.Steps.{Answer, number, onward, Steps, done, fork, run, Well, well, Check, needs, Pass, Coded, first_of}
use Rattle.order.proofs.Steps.{all_pass, first_fails, passes, run_follow}
use Rattle.octets.specs.Refusals.{CHAIN_TOO_LONG}
use Rattle.chain.specs.declared.subjects.Subject.{Subject}
use Rattle.chain.specs.Walk.{is_root, climb, walk}
use Rattle.chain.specs.Chains.{Root, anchor, itself, too_long}
use Rattle.chain.proofs.Walks.{walk_gives}
use Rattle.chain.proofs.Stopped.{walk_stops}
use borrow.Author.Tests.{ne_eqb}

pub needs_pass : {R : Type 0} (cs : List Check) (s : Steps R) → Pass cs → run (needs cs s) ≡ run s
needs_pass [] s w = refl
needs_pass (c ∷ cs) s (e, w) = passes e c.code (needs cs s) ∙ needs_pass cs s w

fork_no : (b : Bool) (s : Steps Well) → b ≡ false → run (fork b (done well) s) ≡ run s
unfolding run
fork_no b s e = rw e

module _ (up : Subject → Answer Subject) (own : Subject → List Check) (coded : (c : Subject) → Coded (own c)) where
  pub at_own : (n : ℕ) (c : Subject) → ¬ (first_of (own c) ≡ 0) → first_of (own c) ≡ number (run (walk up own n c))
  at_own n c z = sym (ap number ((walk_stops up own n c (first_of (own c))).1 (itself ((first_fails (own c) (first_of (own c)) z).0 refl))))

  pub at_root : (n : ℕ) (c : Subject) → first_of (own c) ≡ 0 → Root c → 0 ≡ number (run (walk up own n c))
  at_root n c e r = sym (ap number ((walk_gives up own n c).1 (anchor ((all_pass (own c) (coded c)).0 e) r)))

  pub at_last : (n : ℕ) (c : Subject) → first_of (own c) ≡ 0 → ¬ Root c → n ≡ 0 → CHAIN_TOO_LONG ≡ number (run (walk up own n c))
  at_last zero c e r z = sym (ap number ((walk_stops up own zero c CHAIN_TOO_LONG).1 (too_long ((all_pass (own c) (coded c)).0 e) r)))
  at_last (suc n) c e r z = absurd (let f : ¬ (suc n ≡ 0) = omega arith in f z)

  -- the step up is what is left
  pub at_up : (n : ℕ) (c : Subject) → first_of (own c) ≡ 0 → ¬ Root c → ¬ (n ≡ 0)
      → run (walk up own n c) ≡ onward (run (climb up c (λ j. done j))) (λ j. run (walk up own (n - 1) j))
  unfolding walk
  at_up zero c e r z = absurd (z refl)
  at_up (suc n) c e r z =
      let p : suc n - 1 ≡ n = omega arith in
      rw p (needs_pass (own c) _ ((all_pass (own c) (coded c)).0 e) ∙ fork_no (is_root c) _ (ne_eqb _ _ r) ∙ run_follow (climb up c (λ j. done j)) (λ j. walk up own n j))
