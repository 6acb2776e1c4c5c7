-- The length by a lemma, since no search can count a million elements.
use Rattle.std.proofs.Common.{ℕ, sym}
use Rattle.std.proofs.lemmas.List.{length-replicate}
use Rattle.sha256_vectors.proofs.million_a.Goals as goal

pub returns : goal.returns
returns c = sym (length-replicate {A = ℕ} 1000000 97)
