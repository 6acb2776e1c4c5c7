-- The laws of specs/Laws.antt hold. Assumes nothing.
use Rattle.text.specs.Laws.{Laws}
use Rattle.octets.proofs.Buffered.{octets_joined, octets_long}
use Rattle.text.proofs.Hex.{hex_back, hex_digits, hex_long}
use Rattle.text.proofs.Decimals.{decimal_back, decimal_digits, decimal_leading, decimal_some, decimal_ten}

pub laws : Laws
laws =
    record {
      decimal_back = decimal_back;
      decimal_digits = decimal_digits;
      decimal_leading = decimal_leading;
      decimal_some = decimal_some;
      decimal_ten = decimal_ten;
      hex_back = hex_back;
      hex_digits = hex_digits;
      hex_long = hex_long;
      texts_joined = octets_joined;
      text_long = octets_long;
    }
