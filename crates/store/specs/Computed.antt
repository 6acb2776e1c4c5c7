-- What the code answers on the way; no contract of an operation rests on it.
use Rattle.std.specs.Prelude.{ℕ, ◌+◌, Bool, ◌||◌, List, eqb}
use Rattle.store.specs.Slots.{id_at}

-- one of the eight slots from i on has this id, filled or not
abbrev pub some_of_eight : List ℕ → ℕ → ℕ → Bool
some_of_eight l id i =
    eqb (id_at l i) id || eqb (id_at l (i + 1)) id || eqb (id_at l (i + 2)) id || eqb (id_at l (i + 3)) id || eqb (id_at l (i + 4)) id
    || eqb (id_at l (i + 5)) id || eqb (id_at l (i + 6)) id || eqb (id_at l (i + 7)) id
