-- Whether a slot holds given octets.
use Rattle.std.specs.Prelude.{Bool, true, false, ◌&&◌, List, [], ◌∷◌, ℕ, eqb}

-- two lists of octets are the same
unfoldable pub same_octets : List ℕ → List ℕ → Bool
same_octets [] [] = true
same_octets [] (b ∷ bs) = false
same_octets (a ∷ as') [] = false
same_octets (a ∷ as') (b ∷ bs) = eqb a b && same_octets as' bs
