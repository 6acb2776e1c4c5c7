-- Texts that are written one behind the other. Assumes nothing.
use mathlib.Core.Path.{◌∙◌}
use mathlib.Core.List.{List, [], ◌++◌}
use Prim.Native.Nat.{ℕ, ◌+◌, ◌≤◌}
use native.Mathlib.Omega.{arith}
use lib.ListN.{length, length-append}
use Rattle.octets.proofs.Buffered.{octets_none, octets_joined}
use Rattle.text.specs.Text.{Written}

-- what a writer says that has written nothing, and that writes one text more
pub written_none : (l : List ℕ) (at : ℕ) → Written l at [] at l
written_none l at = (omega arith, octets_none l at)

pub written_more : (l : List ℕ) (at : ℕ) (a b : List ℕ) {p r : ℕ} {m out : List ℕ} → Written l at a p m → Written m p b r out
    → p + length b ≤ length l → Written l at (a ++ b) r out
written_more l at a b (p, m) (r, out) h = (omega (arith, length-append a b), out ∙ rw (m, p) (octets_joined l at a b (omega arith)))
