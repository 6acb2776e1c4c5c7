-- Octets that are the same, and those of a slot. Assumes nothing.
use mathlib.Core.Path.{◌≡◌, refl, ap}
use mathlib.Core.Logic.{◌↔◌}
use mathlib.Core.Bool.{Bool, true, ◌&&◌}
use mathlib.Core.List.{List, [], ◌∷◌}
use lib.Dec.{eqb}
use lib.Pointwise.{pointwise, bytes_decides}
use Prim.Native.Nat.{ℕ}
use Rattle.store.specs.Copies.{same_octets}

-- as slices are compared
pub pointwise_same : (a b : List ℕ) → pointwise eqb a b ≡ same_octets a b
unfolding same_octets
pointwise_same [] [] = refl
pointwise_same [] (y ∷ ys) = refl
pointwise_same (x ∷ xs) [] = refl
pointwise_same (x ∷ xs) (y ∷ ys) = ap (λ (t : Bool). eqb x y && t) (pointwise_same xs ys)

pub same_exactly : (a b : List ℕ) → (same_octets a b ≡ true) ↔ (a ≡ b)
same_exactly a b = rw (← pointwise_same a b) (bytes_decides a b)
