use Rattle.certificate.proofs.Filled.{stands}
use Rattle.certificate.proofs.certificates.certificate_of.Goals as goal

pub attributes_of-attributes-requires : goal.attributes_of-attributes-requires
attributes_of-attributes-requires c = (stands _ _ c.requires).1

pub restrictions_of-restrictions-requires : goal.restrictions_of-restrictions-requires
restrictions_of-restrictions-requires c = (stands _ _ c.requires).2
