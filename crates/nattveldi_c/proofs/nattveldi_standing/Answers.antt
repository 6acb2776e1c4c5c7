-- `nattveldi_c::nattveldi_standing` meets its contract. Assumes nothing.
use Prim.Native.Nat.{ℕ, ◌≤◌}
use native.Mathlib.Omega.{arith}
use mathlib.Core.Path.{◌≡◌, ap, ◌∙◌}
use mathlib.Core.List.{List}
use lib.IntN.{ℤ}
use mir.Syntax.{w32}
use mir.Val.{SFits}
use mir.Facts.{to_z-of_z}
use borrow.Author.Rules.{rules}
use Rattle.store.specs.Slots.{slot_count}
use Rattle.slot_lists.specs.Listings.{Listing}
use Rattle.overview.specs.Order.{standing_listing}
use Rattle.overview.proofs.Laws.{look_few}
use Rattle.nattveldi_c.proofs.Lists.{same_n, same_answer}
use Rattle.nattveldi_c.specs.Calls.{list_answer, standing_call}
use Rattle.nattveldi_c.proofs.nattveldi_standing.Goals as goal

few : (p : Listing) (s : List ℕ) (t : ℕ) (l : List ℕ) → p ≡ standing_listing s t l → p.n ≤ slot_count
few p s t l e = omega (arith, look_few s t l, ap (λ (q : Listing). q.n) e)

answered : (p : Listing) (s : List ℕ) (t : ℕ) (l : List ℕ) → p ≡ standing_listing s t l → list_answer p ≡ standing_call s t l
unfolding standing_call
answered p s t l e = ap list_answer e

-- the answer, and what is left
abbrev left : List ℕ → List ℕ → ℤ → ℤ × List ℕ × List ℕ
left list store z = (z, list, store)

pub counted-requires : goal.counted-requires
counted-requires c = rw (← same_n c.standing.new.lent c.args.store.now c.standing.result) (few _ _ _ _ c.standing.ensures)

pub returns : goal.returns
returns c =
    let h : SFits w32 c.counted.result = search rules in
    rw (to_z-of_z h) (ap (left _ _) c.counted.ensures ∙ same_answer _ _ c.standing.result ∙ answered _ _ _ _ c.standing.ensures)
