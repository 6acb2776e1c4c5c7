-- How many slots are filled.
use Rattle.std.specs.Prelude.{ℕ, zero, suc, ◌+◌, Bool, true, false, List}
use Rattle.store.specs.Slots.{filled_at}

abbrev pub one_if : Bool → ℕ
one_if true = 1
one_if false = 0

unfoldable pub filled_below : ℕ → List ℕ → ℕ
filled_below zero l = 0
filled_below (suc n) l = one_if (filled_at l n) + filled_below n l
