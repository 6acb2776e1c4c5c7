-- The laws of specs/Laws.antt hold. Assumes nothing.
use mathlib.Core.Path.{◌≡◌, refl, ap, ◌∙◌}
use mathlib.Core.Logic.{◌↔◌, ⊎_elim}
use mathlib.Core.Bool.{Bool, true}
use mathlib.Core.List.{List, Memᴰ}
use Rattle.std.specs.Prelude.{Option, None, Some}
use Prim.Native.Nat.{ℕ, suc}
use borrow.Author.Tests.{eqb-true, eq-eqb}
use Rattle.order.specs.Steps.{gives, number, Named}
use Rattle.order.proofs.Steps.{gives_refused}
use Rattle.geo.proofs.Bools.{and_split, and_join}
use Rattle.octets.specs.Refusals.{UNKNOWN}
use Rattle.store.specs.Slots.{filled_at}
use Rattle.store.specs.Search.{find}
use Rattle.store.proofs.Found.{find_finds}
use Rattle.chain.specs.declared.subjects.Subject.{Subject}
use Rattle.chain.specs.Places.{Place}
use Rattle.chain.specs.Walk.{own_rows, meets}
use Rattle.chain.specs.Chains.{Sound, Root, Chain, anchor, link, top}
use Rattle.chain.specs.Stored.{subject_at, subject_or, issuer_in, walk_number, followers, stands}
use Rattle.store.specs.Withdrawn.{withdrawn_in}
use Rattle.chain.specs.Laws.{Passed, StoredIn, Laws}
use Rattle.chain.proofs.Walks.{walk_exactly, chain_map}
use Rattle.chain.proofs.Stopped.{walk_stops}
use Rattle.chain.proofs.Meets as met
use Rattle.chain.proofs.Chains as chains

named : (l : List ℕ) (o : Option ℕ) → Named (subject_or UNKNOWN l o)
named l None = tt
named l (Some i) = tt

issuer_named : (l : List ℕ) (c : Subject) → Named (issuer_in l c)
unfolding issuer_in
issuer_named l c = named l (find l c.issuer)

pub accepted_exactly : (gone : ℕ → Bool) (l : List ℕ) (t : ℕ) (p : Place) (n : ℕ) (c : Subject)
    → (walk_number gone l t p n c ≡ 0) ↔ Chain (issuer_in l) (Sound gone t p) n c
unfolding walk_number
accepted_exactly gone l t p n c = walk_exactly gone t p (issuer_in l) (issuer_named l) n c

-- whoever is found is stored
pub found_stored : (l : List ℕ) (c j : Subject) → issuer_in l c ≡ gives j → StoredIn l j
unfolding issuer_in
found_stored l c j e = go (find l c.issuer) refl e
  where
    go : (o : Option ℕ) → find l c.issuer ≡ o → subject_or UNKNOWN l o ≡ gives j → StoredIn l j
    go None f e = absurd (gives_refused j UNKNOWN e)
    go (Some i) f e =
        let t = find_finds l c.issuer i f in
        let same : subject_at l i ≡ j = cc in
        record { slot = i; below = t.0; filled = t.1; here = same }

-- from a stored certificate on, each of a chain is stored
chain_stored : (l : List ℕ) (Own : Subject → Type 0) (n : ℕ) (c : Subject) → StoredIn l c → Chain (issuer_in l) Own n c → Chain (issuer_in l) (λ d. Own d × StoredIn l d) n c
chain_stored l Own n c s (anchor w r) = anchor (w, s) r
chain_stored l Own (suc n) c s (link {j = j} w z f k) = link (w, s) z f (chain_stored l Own n j (found_stored l c j f.found) k)

-- a stored certificate that passed before and does not after passed through x, which is stored and passed too
pub passed_stored : (gone gone' : ℕ → Bool) (x : ℕ) → ((y : ℕ) → ¬ (y ≡ x) → gone' y ≡ gone y) → (l : List ℕ) (t : ℕ) (p : Place) (n : ℕ) (c : Subject)
    → StoredIn l c → Chain (issuer_in l) (Sound gone t p) n c → ¬ Chain (issuer_in l) (Sound gone' t p) n c
    → Passed (issuer_in l) (λ d. Sound gone t p d × StoredIn l d) x n
passed_stored gone gone' x same l t p n c s k f =
    ⊎_elim (λ k'. absurd (f (chain_map (issuer_in l) (λ d w. w.0) k'))) (λ q. q)
    (chains.through (issuer_in l) (λ d. Sound gone t p d × StoredIn l d) (λ d. Sound gone' t p d × StoredIn l d) x
    (λ d q w. (record { not_withdrawn = same d.id q ∙ w.0.not_withdrawn; second = w.0.second; position = w.0.position }, w.1))
    (chain_stored l (Sound gone t p) n c s k))

root_stored : (l : List ℕ) (Own : Subject → Type 0) (n : ℕ) (c : Subject) → StoredIn l c → (k : Chain (issuer_in l) Own n c) → StoredIn l (top k)
root_stored l Own n c s (anchor w r) = s
root_stored l Own (suc n) c s (link {j = j} w z f k) = root_stored l Own n j (found_stored l c j f.found) k

root_found : (l : List ℕ) (Own : Subject → Type 0) (n : ℕ) (c : Subject) → ¬ Root c → (k : Chain (issuer_in l) Own n c) → StoredIn l (top k)
root_found l Own n c no_root (anchor w r) = absurd (no_root r)
root_found l Own (suc n) c no_root (link {j = j} w z f k) = root_stored l Own n j (found_stored l c j f.found) k

stranger : (gone gone' : ℕ → Bool) (x : ℕ) → ((y : ℕ) → ¬ (y ≡ x) → gone' y ≡ gone y) → (l : List ℕ) (t : ℕ) (p : Place) (n : ℕ) (c : Subject)
    → ¬ Memᴰ x (meets (issuer_in l) (own_rows gone t p) n c) → walk_number gone' l t p n c ≡ walk_number gone l t p n c
unfolding walk_number
stranger gone gone' x same l t p n c f = ap number (met.stranger (issuer_in l) gone gone' x same t p n c f)

-- what stands is stored
pub stands_filled : (l : List ℕ) (t i : ℕ) → stands l t i ≡ true → filled_at l i ≡ true
unfolding stands
stands_filled l t i e = (and_split (filled_at l i) _ e).0

pub stands_exactly : (l : List ℕ) (t i : ℕ) → filled_at l i ≡ true → (stands l t i ≡ true) ↔ Chain (issuer_in l) (Sound (withdrawn_in l) t None) followers (subject_at l i)
unfolding stands
stands_exactly l t i f =
    let e = accepted_exactly (withdrawn_in l) l t None followers (subject_at l i) in (
      (λ z. e.0 (eqb-true _ 0 (and_split (filled_at l i) _ z).1)),
      (λ k. and_join (filled_at l i) _ f (eq-eqb _ 0 (e.1 k))),
    )

pub laws : Laws
laws = record {
  accepted_exactly = accepted_exactly;
  refused_first = λ gone l t p n c k. walk_stops (issuer_in l) (own_rows gone t p) n c k;
  no_longer = λ up Own n c k. chains.no_longer up k;
  top_root = λ up Own n c k. chains.top_root up k;
  root_stored = root_stored;
  root_found = root_found;
  more = λ gone l t p n c z. (accepted_exactly gone l t p (suc n) c).1 (chains.more (issuer_in l) ((accepted_exactly gone l t p n c).0 z));
  stranger = stranger;
  fewer = λ gone gone' milder l t p n c z. (accepted_exactly gone l t p n c).1 (chains.fewer (issuer_in l) gone gone' t p milder ((accepted_exactly gone' l t p n c).0 z));
  through = λ gone gone' x same l t p n c z no_more.
      chains.passed (issuer_in l) gone gone' t p x same ((accepted_exactly gone l t p n c).0 z) (λ k. no_more ((accepted_exactly gone' l t p n c).1 k));
  stands_exactly = stands_exactly;
}
