-- What stands in s lies inside. Assumes nothing.
use mathlib.Core.Logic.{⊎_elim}
use native.Mathlib.Omega.{arith}
use Rattle.entries.proofs.Facts.{outlined_facts}
use Rattle.entries.proofs.record_from.Goals as goal

pub id_from-id-requires : goal.id_from-id-requires
id_from-id-requires c = (outlined_facts _ _ c.type_inv.s c.requires).certificate_in_lem

pub octets_of-issuer-requires : goal.octets_of-issuer-requires
octets_of-issuer-requires c = let f = outlined_facts _ _ c.type_inv.s c.requires in (omega arith, (f.digest_in, f.digest_short))

pub octets_of-name-requires : goal.octets_of-name-requires
octets_of-name-requires c = let f = outlined_facts _ _ c.type_inv.s c.requires in (omega arith, (f.name_in, f.name_short))

pub octets_of-key-requires : goal.octets_of-key-requires
octets_of-key-requires c = let f = outlined_facts _ _ c.type_inv.s c.requires in (omega arith, (f.key_in, omega (arith, f.key_whole)))

pub overflow_sub-result : goal.overflow_sub-result
overflow_sub-result c = let f = outlined_facts _ _ c.type_inv.s c.requires in ⊎_elim (λ e. omega (arith, e)) (λ e. omega (arith, e)) f.key_type
