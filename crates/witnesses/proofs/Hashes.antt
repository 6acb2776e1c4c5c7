-- The ids of the two certificates: antt computes SHA-256 over their octets. Assumes nothing.
use mathlib.Core.Path.{◌≡◌, refl}
use lib.ListN.{drop}
use Rattle.sha256.specs.Round.{T₁, T₂, round_of}
use Rattle.sha256.specs.Constants.{K, constants, initial}
use Rattle.sha256.specs.Block.{W, schedule, scheduled, rounds, sum_of, compress_of}
use Rattle.sha256.specs.Hash.{padded, hash_at, sha256}
use Rattle.writing.specs.Written.{big_endian_octets, intx_octets}
use Rattle.layout.specs.Layout.{written}
use Rattle.witnesses.specs.Inputs.{anchor, anchor_id, pass, pass_id}

pub anchor_hash : drop 24 (sha256 anchor) ≡ anchor_id
unfolding anchor written big_endian_octets intx_octets sha256 hash_at padded compress_of sum_of rounds round_of T₁ T₂ K constants initial W schedule scheduled
anchor_hash = refl

pub pass_hash : drop 24 (sha256 pass) ≡ pass_id
unfolding pass written big_endian_octets intx_octets sha256 hash_at padded compress_of sum_of rounds round_of T₁ T₂ K constants initial W schedule scheduled
pass_hash = refl
