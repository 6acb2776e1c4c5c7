-- The table holds: antt computes the definitions. Assumes nothing.
use mathlib.Core.Path.{refl}
use Rattle.octets.specs.Numbers.{big_endian_on, leading_ones, unsigned_at, intx_at}
use Rattle.octets.specs.Durations.{duration_at}
use Rattle.octets.specs.Coordinates.{latitude_at}
use Rattle.worked_numbers.proofs.Shown.{listed, standing}
use Rattle.worked_numbers.specs.Cases.{AllHold, table}

pub worked : AllHold table
unfolding intx_at duration_at latitude_at unsigned_at leading_ones big_endian_on
worked = (refl, (refl, (refl, (refl, (refl, (refl, (refl, (refl, (refl, (refl, (refl, (listed, (standing, tt)))))))))))))
