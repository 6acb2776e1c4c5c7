-- The loop keeps the hash value after i blocks. Assumes nothing.
use Rattle.std.proofs.Common.{◌≡◌, set}
use Rattle.sha256.specs.Hash.{padded, hash_at}
use Rattle.sha256.proofs.digest_with_zero_at.Given as goal

abbrev pub invariant-loop-i : goal.invariant-loop-i
invariant-loop-i l = l.h ≡ hash_at (padded (set l.s l.zero 0)) l.i
