-- The octets of the slot. Assumes nothing.
use mathlib.Core.Path.{refl}
use Rattle.bitfields.proofs.Law.{field_lt}
use Rattle.records.specs.Layout.{PARITY}
use Rattle.records.specs.Records.{record_of}
use Rattle.store.proofs.fields.key_at.Goals as goal

pub returns : goal.returns
unfolding record_of
returns c =
    rw (c.get8.ensures, c.octet_array.ensures, c.octets_at-octets.ensures) (refl, field_lt _ PARITY.bit PARITY.width)
