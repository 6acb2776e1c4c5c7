-- `text::hexadecimal::write_hex` meets its contract. Assumes nothing.
use Rattle.text.specs.Text.{hex_of}
use Rattle.text.proofs.Hex.{hex_first, hex_more}
use Rattle.text.proofs.Texts.{written_none, written_more}
use lib.ListN.{take}
use mathlib.Core.List.{[], ◌∷◌, ◌++◌}
use native.Mathlib.Omega.{arith}
use Rattle.text.proofs.hexadecimal.write_hex.Goals as goal

pub loop-octet-init : goal.loop-octet-init
unfolding hex_of
loop-octet-init c = written_none c.args.out.now c.args.at

pub loop-octet-preserved : goal.loop-octet-preserved
loop-octet-preserved c =
    let d = c.args.out.now in
    let s = c.args.octets.now in
    let i = c.loop-octet.octet-index in
    let n = hex_first s i (omega arith) in
    rw (hex_more s i (omega arith), ← c.hex_digit.ensures, ← c.hex_digit-in-loop-octet.ensures)
    (written_more d c.args.at (hex_of (take i s) ++ (c.hex_digit.result ∷ [])) (c.hex_digit-in-loop-octet.result ∷ [])
    (written_more d c.args.at (hex_of (take i s)) (c.hex_digit.result ∷ []) c.loop-octet.invariant c.write_octet-place.ensures (omega arith))
    c.write_octet-place-in-loop-octet.ensures (omega arith))
