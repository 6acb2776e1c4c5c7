-- `sha256::rounds::round` meets its contract.
-- Assumes nothing.
use Rattle.sha256.specs.Round.{T₁, T₂, round_of}
use Rattle.sha256.proofs.rounds.round.Goals as goal

pub returns : goal.returns
unfolding round_of T₁ T₂
returns c = cc
