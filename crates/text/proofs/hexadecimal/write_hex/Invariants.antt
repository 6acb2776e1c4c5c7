-- `text::hexadecimal::write_hex` meets its contract. The invariant: the digits of the first octets are written. Assumes nothing.
use Rattle.text.specs.Text.{hex_of, Written}
use lib.ListN.{take}
use Rattle.text.proofs.hexadecimal.write_hex.Given as goal

abbrev pub invariant-loop-octet : goal.invariant-loop-octet
invariant-loop-octet l = Written l.initial.out l.at (hex_of (take l.octet-index l.octets)) l.place l.out
