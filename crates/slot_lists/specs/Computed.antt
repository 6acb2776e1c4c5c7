-- What the code answers on the way: a set of slots as a number. No contract of an operation rests on it.
use Rattle.std.specs.Prelude.{Bool, cond, List, [], ◌∷◌, ℕ, zero, suc, ◌+◌, ◌*◌, ◌/◌, ◌%◌, eqb}

unfoldable pub bit : Bool → ℕ
bit b = cond b 1 0

-- the set as a number: bit j is slot i + j
unfoldable pub bits_from : (ℕ → Bool) → ℕ → ℕ → ℕ
bits_from p i zero = 0
bits_from p i (suc k) = bits_from p (suc i) k * 2 + bit (p i)

-- the slots of such a number r, whose lowest bit is slot i
unfoldable pub slots_in : ℕ → ℕ → ℕ → List ℕ
slots_in r i zero = []
slots_in r i (suc k) = cond (eqb (r % 2) 1) (i ∷ slots_in (r / 2) (suc i) k) (slots_in (r / 2) (suc i) k)
