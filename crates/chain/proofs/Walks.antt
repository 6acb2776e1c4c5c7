-- The walk accepts exactly the chains. Assumes nothing.
use mathlib.Core.Path.{◌≡◌, refl}
use mathlib.Core.Logic.{◌⊎◌, inl, inr, ◌↔◌}
use mathlib.Core.Bool.{Bool, true, false, not}
use mathlib.Core.List.{List, [], ◌∷◌}
use Prim.Native.Nat.{ℕ, zero, suc}
use lib.Dec.{leb, ltb}
use borrow.Author.Tests.{leb-true, ltb-true, le-leb, lt-ltb, eqb-true, eqb-false, eq-eqb, not-true}
use Rattle.order.specs.Steps.{Answer, gives, number, Steps, done, stop, fork, run, Well, well, Gives, And, Named, Numbered, Check, needs, Pass}
use Rattle.order.proofs.Steps.{gives_exactly, zero_exactly, needs_to, needs_from}
use Rattle.octets.specs.Refusals.{CHAIN_TOO_LONG}
use Rattle.geo.proofs.Bools.{and_split, and_join}
use Rattle.scope.specs.Issued.{issued_rows}
use Rattle.scope.proofs.Exactly.{pass_exactly}
use Rattle.scope.specs.declared.Scope.{Scope}
use Rattle.chain.specs.declared.subjects.Subject.{Subject}
use Rattle.chain.specs.Places.{Place}
use Rattle.std.specs.Prelude.{None, Some}
use Rattle.chain.specs.Walk.{place_rows, own_rows, is_root, climb, walk}
use Rattle.chain.specs.Chains.{InPlace, Sound, Chain, anchor, link}

module _ (up : Subject → Answer Subject) where
  -- the walk over any own tests
  module _ (own : Subject → List Check) where
    chain_to : (n : ℕ) (c : Subject) → Gives (walk up own n c) well → Chain up (λ d. Pass (own d)) n c
    unfolding walk
    chain_to zero c g = go (needs_to (own c) _ well g)
      where
        go : Pass (own c) × Gives (fork (is_root c) (done well) (stop CHAIN_TOO_LONG)) well → Chain up (λ d. Pass (own d)) zero c
        go (w, inl h) = anchor w (eqb-true _ _ h.0)
        go (w, inr h) = absurd h.1
    chain_to (suc n) c g = go (chain_to n) (needs_to (own c) _ well g)
      where
        go : ((j : Subject) → Gives (walk up own n j) well → Chain up (λ d. Pass (own d)) n j) → Pass (own c) × Gives (fork (is_root c) (done well) (climb up c (λ j. walk up own n j))) well → Chain up (λ d. Pass (own d)) (suc n) c
        go ih (w, inl h) = anchor w (eqb-true _ _ h.0)
        go ih (w, inr (r, (j, s, x))) =
            let y = needs_to (issued_rows c.scope j.scope) (walk up own n j) well x in
            link w (eqb-false _ _ r) (record { found = s; issued = (pass_exactly c.scope j.scope).0 y.0 }) (ih j y.1)

    -- a root, or what follows
    root_or : (b : Bool) (s : Steps Well) → ((b ≡ true) ⊎ Gives s well) → Gives (fork b (done well) s) well
    root_or true s f = inl (refl, refl)
    root_or false s (inl e) = inl (e, refl)
    root_or false s (inr g) = inr (refl, g)

    chain_from : (n : ℕ) (c : Subject) → Chain up (λ d. Pass (own d)) n c → Gives (walk up own n c) well
    unfolding walk
    chain_from zero c (anchor w r) = needs_from (own c) _ well w (root_or (is_root c) (stop CHAIN_TOO_LONG) (inl (eq-eqb _ _ r)))
    chain_from (suc n) c (anchor w r) =
        needs_from (own c) _ well w (root_or (is_root c) (climb up c (λ j. walk up own n j)) (inl (eq-eqb _ _ r)))
    chain_from (suc n) c (link {j = j} w z f k) =
        needs_from (own c) _ well w (root_or (is_root c) (climb up c (λ j. walk up own n j))
        (inr (j, f.found, needs_from (issued_rows c.scope j.scope) (walk up own n j) well ((pass_exactly c.scope j.scope).1 f.issued) (chain_from n j k))))

    pub walk_gives : (n : ℕ) (c : Subject) → (run (walk up own n c) ≡ gives well) ↔ Chain up (λ d. Pass (own d)) n c
    walk_gives n c =
        let e = gives_exactly (walk up own n c) well in ((λ z. chain_to n c (e.0 z)), (λ w. e.1 (chain_from n c w)))

    module _ (found : (c : Subject) → Named (up c)) (rows : (c : Subject) → Numbered (needs (own c) (done well))) where
      needs_numbered : (cs : List Check) (s : Steps Well) → Numbered (needs cs (done well)) → Numbered s → Numbered (needs cs s)
      needs_numbered [] s w n = n
      needs_numbered (c ∷ cs) s w n = go c.code (needs_numbered cs s) w
        where
          go : (k : ℕ) → (Numbered (needs cs (done well)) → Numbered s → Numbered (needs cs s)) → And k (Numbered (needs cs (done well))) → And k (Numbered (needs cs s))
          go zero f w = w
          go (suc k) f w = f w n

      walk_numbered : (n : ℕ) (c : Subject) → Numbered (walk up own n c)
      unfolding walk
      walk_numbered zero c = needs_numbered (own c) _ (rows c) (tt, tt)
      walk_numbered (suc n) c = needs_numbered (own c) _ (rows c) (tt, (found c, λ j. walk_numbered n j))

      -- the walk answers 0 exactly if there is a chain
      pub walk_zero : (n : ℕ) (c : Subject) → (number (run (walk up own n c)) ≡ 0) ↔ Chain up (λ d. Pass (own d)) n c
      walk_zero n c =
          let e = zero_exactly (walk up own n c) (walk_numbered n c) in
          ((λ z. chain_to n c (e.0 z).1), (λ w. e.1 (well, chain_from n c w)))

  -- chains of certificates that each are so
  pub chain_map : {A B : Subject → Type 0} → ((c : Subject) → A c → B c) → {n : ℕ} {c : Subject} → Chain up A n c → Chain up B n c
  chain_map f (anchor {c = c} w r) = anchor (f c w) r
  chain_map f (link {c = c} w z i k) = link (f c w) z i (chain_map f k)

-- the rows of a place
place_to : (p : Place) (s : Scope) → Pass (place_rows p s) → InPlace p s
place_to None s w = tt
place_to (Some p) s w = w.0

place_from : (p : Place) (s : Scope) → InPlace p s → Pass (place_rows p s)
place_from None s w = tt
place_from (Some p) s w = (w, tt)

place_numbered : (p : Place) (s : Scope) → Numbered (needs (place_rows p s) (done well))
place_numbered None s = tt
place_numbered (Some p) s = tt

not_from : (b : Bool) → b ≡ false → not b ≡ true
not_from b e = rw e

module _ (gone : ℕ → Bool) (t : ℕ) (p : Place) where
  pub sound_to : (c : Subject) → Pass (own_rows gone t p c) → Sound gone t p c
  sound_to c (a, (b, d)) =
      let h = and_split (leb c.scope.start t) (ltb t c.scope.end) b in
      record { not_withdrawn = not-true (gone c.id) a; second = (leb-true _ _ h.0, ltb-true _ _ h.1); position = place_to p c.scope d }

  pub sound_from : (c : Subject) → Sound gone t p c → Pass (own_rows gone t p c)
  sound_from c w = (
    not_from _ w.not_withdrawn,
    (
      and_join _ _ (le-leb _ _ w.second.0) (lt-ltb _ _ w.second.1),
      place_from p c.scope w.position,
    ),
  )

  -- a walk reaches a root exactly if there is a chain from the first certificate to it
  pub walk_exactly : (up : Subject → Answer Subject) → ((c : Subject) → Named (up c)) → (n : ℕ) (c : Subject)
      → (number (run (walk up (own_rows gone t p) n c)) ≡ 0) ↔ Chain up (Sound gone t p) n c
  walk_exactly up found n c =
      let e = walk_zero up (own_rows gone t p) found (λ d. place_numbered p d.scope) n c in
      ((λ z. chain_map up sound_to (e.0 z)), (λ w. e.1 (chain_map up sound_from w)))
