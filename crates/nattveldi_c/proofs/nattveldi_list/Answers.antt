-- `nattveldi_c::nattveldi_list` meets its contract. Assumes nothing.
use Prim.Native.Nat.{ℕ, ◌≤◌}
use native.Mathlib.Omega.{arith}
use mathlib.Core.Path.{◌≡◌, ap, ◌∙◌}
use mathlib.Core.List.{List}
use lib.IntN.{ℤ}
use mir.Syntax.{w32}
use mir.Val.{SFits}
use mir.Facts.{to_z-of_z}
use borrow.Author.Rules.{rules}
use Rattle.store.specs.Slots.{slot_count}
use Rattle.slot_lists.specs.Listings.{Listing}
use Rattle.withdrawal.specs.Order.{page}
use Rattle.page_text.proofs.Pages.{page_slots}
use Rattle.nattveldi_c.proofs.Lists.{same_n, same_answer}
use Rattle.nattveldi_c.specs.Calls.{list_answer, list_call}
use Rattle.nattveldi_c.proofs.nattveldi_list.Goals as goal

few : (p : Listing) (s id : List ℕ) (t : ℕ) (l : List ℕ) → p ≡ page s id t l → p.n ≤ slot_count
few p s id t l e = omega (arith, (page_slots s id t l).few, ap (λ (q : Listing). q.n) e)

answered : (p : Listing) (s id : List ℕ) (t : ℕ) (l : List ℕ) → p ≡ page s id t l → list_answer p ≡ list_call s id t l
unfolding list_call
answered p s id t l e = ap list_answer e

-- the answer, and what is left
abbrev left : List ℕ → List ℕ → ℤ → ℤ × List ℕ × List ℕ
left list store z = (z, list, store)

pub counted-requires : goal.counted-requires
counted-requires c = rw (← same_n c.list.new.lent c.args.store.now c.list.result) (few _ _ _ _ _ c.list.ensures)

pub returns : goal.returns
returns c =
    let h : SFits w32 c.counted.result = search rules in
    rw (to_z-of_z h) (ap (left _ _) c.counted.ensures ∙ same_answer _ _ c.list.result ∙ answered _ _ _ _ _ c.list.ensures)
