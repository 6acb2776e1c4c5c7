-- The chip's verdict on a good signature; every other octet says that it is not (01, "Order of checks").
use Rattle.std.specs.Prelude.{ℕ}

abbrev pub GOOD : ℕ
GOOD = 1
