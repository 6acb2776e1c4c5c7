-- Eight octets a turn. Assumes nothing.
use Prim.Native.Nat.{◌+◌, ◌-◌, ◌*◌}
use mathlib.Core.Path.{◌≡◌}
use Rattle.bitfields.specs.Zero.{zero_bits}
use Rattle.validity.specs.Masks.{skip_of}
use Rattle.validity.proofs.rooms.room_zero.Given as goal

abbrev pub invariant-loop-word : goal.invariant-loop-word
invariant-loop-word l =
    l.zero ≡ zero_bits l.s (l.first * 8 + skip_of l.row) ((l.at + 8 * l.word) * 8 - (l.first * 8 + skip_of l.row))
