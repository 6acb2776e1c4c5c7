-- The sets of a round: from which slots a root is reached by a chain of at most so many certificates. Assumes nothing.
use mathlib.Core.Path.{◌≡◌, refl, sym, ap, subst, ◌∙◌}
use mathlib.Core.Bool.{Bool, true, false}
use mathlib.Core.List.{List}
use Prim.Native.Nat.{ℕ, zero, suc, ◌+◌, ◌-◌, ◌<◌}
use native.Mathlib.Nat.{suc-ne-zero}
use native.Mathlib.Omega.{arith}
use lib.Dec.{eqb}
use lib.ListN.{get_or}
use borrow.Author.Tests.{ne_eqb, eqb-true, eqb-false}
use Rattle.order.specs.Steps.{Answer, gives, refused, Named}
use Rattle.octets.specs.Reading.{pick}
use Rattle.store.specs.Slots.{filled_at}
use Rattle.store.specs.Withdrawn.{withdrawn_in}
use Rattle.store.proofs.Found.{find_finds}
use Rattle.chain.specs.declared.subjects.Subject.{Subject}
use Rattle.std.specs.Prelude.{None}
use Rattle.chain.specs.Walk.{is_root}
use Rattle.chain.specs.Chains.{Root}
use Rattle.chain.specs.Stored.{subject_at, walk_number, followers, stands}
use Rattle.chain.specs.Computed.{no_slot, also_at, own_number, upward, stepped, Leads}
use Rattle.chain.proofs.Own.{none_also}
use Rattle.chain.proofs.Walked.{at_own, at_root, at_last, at_stop, at_on, step_own, step_root, step_upward, step_led, up_found, up_named}
use Rattle.slot_lists.specs.Computed.{bit, bits_from}
use Rattle.slot_lists.proofs.SlotSets.{bits_at, bits_same, bits_none}
use Rattle.overview.specs.Computed.{link_of, link_at, Links, Below, Within, leads_to, reaches}
use Rattle.overview.specs.declared.links.Link.{Link}
use Rattle.overview.specs.declared.links.Link.TheVariants as link

bit_of : (b : Bool) → eqb (bit b) 1 ≡ b
unfolding bit
bit_of true = refl
bit_of false = refl

-- where a link leads
lead_on : (p : ℕ → Bool) (j : ℕ) → j < 64 → leads_to (bits_from p 0 64) (link.To j) ≡ p j
unfolding leads_to
lead_on p j h =
    let e : 0 + j ≡ j = omega arith in
    rw (bits_at p 0 64 j h) (bit_of (p (0 + j)) ∙ ap p e)

lead_root : (x : ℕ) → leads_to x link.AtRoot ≡ true
unfolding leads_to
lead_root x = refl

lead_none : (x : ℕ) → leads_to x link.NoWay ≡ false
unfolding leads_to
lead_none x = refl

-- a refusal on the way leads nowhere
pub refused_on : (k : ℕ) → ¬ (k ≡ 0) → link_of (refused k) ≡ link.NoWay
refused_on k z = rw (ne_eqb k 0 z)

-- a step leads to a slot that a store has
below_of : (l : List ℕ) (n : ℕ) (a : Answer ℕ) → Leads l n a → Below (link_of a)
below_of l n (gives j) h = h.1
below_of l n (refused k) h = by (eqb k 0)
  where
    by : (b : Bool) → Below (pick b link.AtRoot link.NoWay)
    by true = tt
    by false = tt

no_zero : (a : Answer ℕ) → Named a → (k : ℕ) → a ≡ refused k → ¬ (k ≡ 0)
no_zero a h zero e z = rw e at h
no_zero a h (suc k) e z = suc-ne-zero k z

module _ (l : List ℕ) (t i : ℕ) where
  abbrev c : Subject
  c = subject_at l i

  abbrev own : ℕ
  own = own_number (withdrawn_in l) t None c

  pub link_empty : filled_at l i ≡ false → link_at l t i ≡ link.NoWay
  unfolding link_at
  link_empty e = rw e

  reach_empty : (n : ℕ) → filled_at l i ≡ false → reaches l t (suc n) i ≡ false
  unfolding reaches
  reach_empty n e = rw e

  module _ (f : filled_at l i ≡ true) where
    -- the link, by what the step answers
    link_as : (a : Answer ℕ) → a ≡ stepped (withdrawn_in l) l t None followers c → link_at l t i ≡ link_of a
    unfolding link_at
    link_as a e = rw (f, sym e)

    pub link_stepped : (a : Answer ℕ) → a ≡ stepped (also_at l no_slot) l t None followers c → link_of a ≡ link_at l t i
    link_stepped a e = sym (link_as a (e ∙ ap (λ (g : ℕ → Bool). stepped g l t None followers c) (none_also l)))

    -- by what the walk answers
    reach_as : (n k : ℕ) → k ≡ walk_number (withdrawn_in l) l t None n c → reaches l t (suc n) i ≡ eqb k 0
    unfolding reaches
    reach_as n k e = rw (f, sym e)

    module _ (passes : own ≡ 0) (r : ¬ Root c) where
      on_up : (a : Answer ℕ) → upward l c ≡ a → link_at l t i ≡ link_of a
      on_up a u = link_as a (sym u ∙ step_upward l (withdrawn_in l) t None followers c passes r (omega arith))

      -- a refusal on the way up
      stops : (n k : ℕ) → upward l c ≡ refused k → ¬ (k ≡ 0) → reaches l t (suc n) i ≡ false
      stops zero k u z = reach_as 0 18 (at_last l (withdrawn_in l) t None 0 c passes r refl)
      stops (suc n) k u z = reach_as (suc n) k (at_stop l (withdrawn_in l) t None (suc n) c k passes r (omega arith) u) ∙ ne_eqb k 0 z

      -- the issuer, with one certificate less
      goes_on : (n j : ℕ) → upward l c ≡ gives j → reaches l t (suc n) i ≡ reaches l t n j
      unfolding reaches
      goes_on zero j u = reach_as 0 18 (at_last l (withdrawn_in l) t None 0 c passes r refl)
      goes_on (suc n) j u =
          let found = up_found l c j u in
          let filled : filled_at l j ≡ true = (find_finds l _ j found.1).1 in
          let less : suc n - 1 ≡ n = omega arith in
          reach_as (suc n) _ (at_on l (withdrawn_in l) t None (suc n) c j passes r (omega arith) u) ∙ rw (filled, less)

  pub link_below : Below (link_at l t i)
  unfolding link_at
  link_below = by (filled_at l i)
    where
      a : Answer ℕ
      a = stepped (withdrawn_in l) l t None followers c

      by : (b : Bool) → Below (pick b (link_of a) link.NoWay)
      by true = below_of l followers a (step_led l (withdrawn_in l) t None followers c a refl)
      by false = tt

  level : (n : ℕ) → leads_to (bits_from (reaches l t n) 0 64) (link_at l t i) ≡ reaches l t (suc n) i
  level n = by_state (filled_at l i) refl
    where
      set : ℕ
      set = bits_from (reaches l t n) 0 64

      by_answer : (f : filled_at l i ≡ true) → own ≡ 0 → ¬ Root c → (a : Answer ℕ) → upward l c ≡ a → leads_to set (link_at l t i) ≡ reaches l t (suc n) i
      by_answer f e r (refused k) u =
          let z : ¬ (k ≡ 0) = no_zero (upward l c) (up_named l c) k u in
          ap (leads_to set) (on_up f e r (refused k) u ∙ refused_on k z) ∙ lead_none set ∙ sym (stops f e r n k u z)
      by_answer f e r (gives j) u =
          ap (leads_to set) (on_up f e r (gives j) u) ∙ lead_on (reaches l t n) j (up_found l c j u).0 ∙ sym (goes_on f e r n j u)

      by_kind : (f : filled_at l i ≡ true) → own ≡ 0 → (b : Bool) → is_root c ≡ b → leads_to set (link_at l t i) ≡ reaches l t (suc n) i
      by_kind f e true q =
          let r : Root c = eqb-true _ _ q in
          ap (leads_to set) (link_as f (refused 0) (step_root l (withdrawn_in l) t None followers c e r)) ∙ lead_root set
          ∙ sym (reach_as f n 0 (at_root l (withdrawn_in l) t None n c e r))
      by_kind f e false q = by_answer f e (eqb-false _ _ q) (upward l c) refl

      by_own : (f : filled_at l i ≡ true) → (k : ℕ) → own ≡ k → leads_to set (link_at l t i) ≡ reaches l t (suc n) i
      by_own f zero e = by_kind f e (is_root c) refl
      by_own f (suc k) e =
          let z : ¬ (own ≡ 0) = λ x. suc-ne-zero k (sym e ∙ x) in
          ap (leads_to set) (link_as f (refused own) (step_own l (withdrawn_in l) t None followers c z) ∙ refused_on own z) ∙ lead_none set
          ∙ sym (reach_as f n own (at_own l (withdrawn_in l) t None n c z) ∙ ne_eqb own 0 z)

      by_state : (b : Bool) → filled_at l i ≡ b → leads_to set (link_at l t i) ≡ reaches l t (suc n) i
      by_state true f = by_own f own refl
      by_state false e = ap (leads_to set) (link_empty e) ∙ lead_none set ∙ sym (reach_empty n e)

-- the rounds: the first set is empty, each has one certificate more, and the last has what stands
module _ (l : List ℕ) (t : ℕ) where
  pub no_level : 0 ≡ bits_from (reaches l t 0) 0 64
  unfolding reaches
  no_level = sym (bits_none (reaches l t 0) 0 64 (λ i a b. refl))

  pub next_level : (links : List Link) → Links l t links → (n x y : ℕ) → x ≡ bits_from (reaches l t n) 0 64
      → y ≡ bits_from (λ i. leads_to x (get_or links i link.NoWay)) 0 64 → y ≡ bits_from (reaches l t (suc n)) 0 64
  next_level links are n x y e q =
      q ∙ bits_same (λ i. leads_to x (get_or links i link.NoWay)) (reaches l t (suc n)) 0 64
      (λ i a b. ap (leads_to x) (are i b) ∙ ap (λ (m : ℕ). leads_to m (link_at l t i)) e ∙ level l t i n)

  pub links_within : (links : List Link) → Links l t links → Within links
  links_within links are i h = subst Below (sym (are i h)) (link_below l t i)

  -- a round that adds none: no later one does
  pub still : (links : List Link) → Links l t links → (n x y : ℕ) → x ≡ bits_from (reaches l t n) 0 64 → y ≡ bits_from (λ i. leads_to x (get_or links i link.NoWay)) 0 64 → y ≡ x
      → (k : ℕ) → x ≡ bits_from (reaches l t (k + n)) 0 64
  still links are n x y e q same zero = e ∙ ap (λ (m : ℕ). bits_from (reaches l t m) 0 64) (omega arith)
  still links are n x y e q same (suc k) =
      let more : suc (k + n) ≡ suc k + n = omega arith in
      next_level links are (k + n) x x (still links are n x y e q same k) (sym same ∙ q) ∙ ap (λ (m : ℕ). bits_from (reaches l t m) 0 64) more

  pub last_level : (n x : ℕ) → n ≡ 8 → x ≡ bits_from (reaches l t n) 0 64 → x ≡ bits_from (stands l t) 0 64
  unfolding reaches stands
  last_level n x h e = rw h at e
