-- Sets of slots as lists in slot order.
use Rattle.std.specs.Prelude.{Bool, cond, List, [], ◌∷◌, ℕ, zero, suc}

-- of the k slots from i on, those at which p holds, ascending
unfoldable pub slots_from : (ℕ → Bool) → ℕ → ℕ → List ℕ
slots_from p i zero = []
slots_from p i (suc k) = cond (p i) (i ∷ slots_from p (suc i) k) (slots_from p (suc i) k)
