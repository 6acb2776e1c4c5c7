-- What counts as withdrawn (01, "The store"): the one definition for the walk, for the tests of an issuer and of a stored copy, for list
-- and withdraw.
use Rattle.std.specs.Prelude.{Bool, false, List, ℕ, Option, None, Some}
use Rattle.store.specs.Slots.{withdrawn_at}
use Rattle.store.specs.Search.{find}

-- a test of the slot that was found; where none was, it fails
abbrev pub at_found : (ℕ → Bool) → Option ℕ → Bool
at_found p None = false
at_found p (Some i) = p i

-- the certificate with this id counts as withdrawn: it is stored, and its slot's state says so
unfoldable pub withdrawn_in : List ℕ → ℕ → Bool
withdrawn_in l id = at_found (withdrawn_at l) (find l id)
