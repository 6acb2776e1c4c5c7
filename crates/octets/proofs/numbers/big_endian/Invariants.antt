-- the value is that of the octets so far
use Rattle.std.proofs.Common.{◌≡◌, ◌^◌, ◌<◌, take, drop}
use Rattle.octets.specs.Numbers.{big_endian}
use Rattle.octets.proofs.numbers.big_endian.Given as goal

abbrev pub invariant-loop-octet : goal.invariant-loop-octet
invariant-loop-octet l = (l.value < 256 ^ l.octet-index) × (l.value ≡ big_endian (take l.octet-index (take l.n (drop l.at l.s))))
