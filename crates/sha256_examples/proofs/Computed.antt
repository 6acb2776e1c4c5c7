-- The definition gives the digests of FIPS 180-4's examples: antt computes it. Assumes nothing.
use mathlib.Core.Path.{refl}
use Rattle.sha256.specs.Round.{T₁, T₂, round_of}
use Rattle.sha256.specs.Constants.{K, constants, initial}
use Rattle.sha256.specs.Block.{W, schedule, scheduled, rounds, sum_of, compress_of}
use Rattle.sha256.specs.Hash.{padded, hash_at, sha256}
use Rattle.sha256_examples.specs.Examples.{examples, Right}

pub right : Right examples
unfolding sha256 hash_at padded compress_of sum_of rounds round_of T₁ T₂ K constants initial W schedule scheduled
right = (refl, (refl, (refl, tt)))
