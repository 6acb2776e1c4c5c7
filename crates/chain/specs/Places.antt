-- Where a walk asks.
use Rattle.std.specs.Prelude.{Option}
use Rattle.geo.specs.declared.Position.{Position}

-- the position that every certificate of a walk must hold, or none: then no region is asked for it
abbrev pub Place : Type 0
Place = Option Position
