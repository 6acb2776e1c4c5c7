-- The kinds of certificates (001, clause 6.3), as far as document 01 reads them.
use Rattle.std.specs.Prelude.{ℕ}

abbrev pub TICKET : ℕ
TICKET = 1

abbrev pub AUTHORITY : ℕ
AUTHORITY = 2

abbrev pub ROOT : ℕ
ROOT = 4
