-- The store of specs/Example with its images as antt computes them. Assumes nothing.
use mathlib.Core.Path.{◌≡◌}
use mathlib.Core.List.{List}
use Prim.Native.Nat.{ℕ}
use Rattle.bitfields.specs.Field.{Octets}
use Rattle.sample_stores.proofs.Stores.{store_put, store_put_lem, store_octets}
use Rattle.worked_numbers.specs.Example.{certificates, shown}

unfoldable pub written : List ℕ
written = store_put certificates

pub shown_written : shown ≡ written
unfolding shown written
shown_written = store_put_lem certificates

pub written_octets : Octets written
unfolding written
written_octets = store_octets certificates
