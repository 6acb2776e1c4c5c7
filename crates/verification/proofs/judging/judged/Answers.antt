-- By its parts. Assumes nothing.
use Rattle.std.proofs.Common.{arith}
use Rattle.verification.proofs.Signer.{named_inside, carried_stands}
use Rattle.verification.proofs.judging.judged.Goals as goal

pub named_signer-requires : goal.named_signer-requires
named_signer-requires c = named_inside _ _ c.requires _ c.in-Named.is

pub carried_signer-requires : goal.carried_signer-requires
carried_signer-requires c = carried_stands _ _ c.requires (λ i. omega (arith, c.type_inv.octets i)) _ _ c.in-Carried.is
