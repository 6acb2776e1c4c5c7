-- The last block has the length, another has not. Assumes nothing.
use Rattle.std.proofs.Common.{◌≡◌, ℕ, ◌*◌, List, [], ◌∷◌, ◌++◌, length, ap, sym, ◌∙◌, arith, length-set}
use Rattle.sha256.specs.Hash.{octets8}
use Rattle.sha256.proofs.Filled.{Filled, one_put, one_apart, whole, last}
use Rattle.sha256.proofs.message.Message.block.Goals as goal
use Rattle.sha256.proofs.message.Message.block.Goals.{then-start-n+then-n-end, else-start-n}

pub returns-else-end-n : goal.returns-else-end-n
returns-else-end-n c =
    let m : List ℕ = c.args.self.now in
    let size : length m ≡ length c.self.inside.octets.now = ap length (sym c.self.view_is) ∙ length-set _ _ 0 in
    let front : Filled m (64 * c.args.i) c.octets_from-b.result = record { size = omega arith; holds = c.octets_from-b.ensures } in
    let one : Filled (m ++ 128 ∷ []) (64 * c.args.i) c.if-start-n.b = elim c.if-start-n.branch [
      | then-start-n+then-n-end w ↦ rw (w.b-is) (one_put _ size front (omega arith) (omega arith))
      | else-start-n w ↦ rw (w.b-is) (one_apart _ size front (λ j l e. omega (arith, w.else-start-n.either)))
    ] in
    whole _ _ _ one (omega arith)

pub returns-then-end-n : goal.returns-then-end-n
returns-then-end-n c =
    let m : List ℕ = c.args.self.now in
    let size : length m ≡ length c.self.inside.octets.now = ap length (sym c.self.view_is) ∙ length-set _ _ 0 in
    let front : Filled m (64 * c.args.i) c.octets_from-b.result = record { size = omega arith; holds = c.octets_from-b.ensures } in
    let one : Filled (m ++ 128 ∷ []) (64 * c.args.i) c.if-start-n.b = elim c.if-start-n.branch [
      | then-start-n+then-n-end w ↦ rw (w.b-is) (one_put _ size front (omega arith) (omega arith))
      | else-start-n w ↦ rw (w.b-is) (one_apart _ size front (λ j l e. omega (arith, w.else-start-n.either)))
    ] in
    last _ _ _ _ one (omega arith) (c.copy_from_slice.ensures.after ∙ c.length_octets.ensures ∙ ap (λ (n : ℕ). octets8 (8 * n)) (sym size))
