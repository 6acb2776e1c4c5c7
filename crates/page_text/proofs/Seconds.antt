-- Four octets as one number. Assumes nothing.
use mathlib.Core.Path.{◌≡◌, sym, ap, ◌∙◌}
use mathlib.Core.List.{List}
use Prim.Native.Nat.{ℕ, ◌+◌, ◌*◌}
use native.Mathlib.Omega.{arith}
use lib.ListN.{length, get_or}
use lib.Seq.{take_all}
use Rattle.bitfields.specs.Field.{number}
use Rattle.bitfields.proofs.Window.{listed, take_listed}

pub four_number : (s : List ℕ) → length s ≡ 4
    → get_or s 0 0 * 16777216 + get_or s 1 0 * 65536 + (get_or s 2 0 * 256 + get_or s 3 0) ≡ number s
unfolding listed number
four_number s long =
    let e : get_or s 0 0 * 16777216 + get_or s 1 0 * 65536 + (get_or s 2 0 * 256 + get_or s 3 0) ≡ number (listed s 0 0 4) = omega arith in
    e ∙ ap number (sym (take_listed s 0 4 0 (omega arith)) ∙ take_all 4 s (omega arith))
