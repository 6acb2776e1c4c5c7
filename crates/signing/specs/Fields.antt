-- What the headers of a message say that was read: it has a generation time and an its_aid (message/specs/Inside, `dated` and `named`).
use Rattle.std.specs.Prelude.{ℕ, unwrap_or}
use Rattle.headers.specs.declared.fields.Fields.{Fields}

abbrev pub generated : Fields → ℕ
generated f = unwrap_or f.generation 0

abbrev pub its_aid : Fields → ℕ
its_aid f = unwrap_or f.aid 0
