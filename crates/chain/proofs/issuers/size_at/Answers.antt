use Rattle.std.proofs.Common.{◌≡◌, arith, take, length, min, ℕ, List}
use Rattle.std.proofs.lemmas.Grind.{common_steps}
use Rattle.records.specs.Records.{permissions_of}
use Rattle.store.proofs.Places.{permissions_long}
use Rattle.chain.proofs.issuers.size_at.Goals as goal

all_taken : (n : ℕ) (vs : List ℕ) → length vs ≡ 16 → take (min n 16) vs ≡ take n vs
all_taken n vs h = grind (arith, common_steps)

pub returns : goal.returns
unfolding permissions_of
returns c =
    let a = c.args in
    (omega (arith, c.min.ensures), rw (c.min.ensures, c.permission_count_at.ensures) (all_taken _ _ (permissions_long a.store.now a.slot)))
