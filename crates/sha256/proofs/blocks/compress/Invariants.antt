-- Both loops keep `Turn`: the working variables after t rounds, and the schedule's last words. Assumes nothing.
use Rattle.sha256.proofs.Ring.{Turn}
use Rattle.sha256.proofs.blocks.compress.Given as goal

abbrev pub invariant-loop-t : goal.invariant-loop-t
invariant-loop-t l = Turn l.h l.m l.v l.w l.t

abbrev pub invariant-loop-t-2 : goal.invariant-loop-t-2
invariant-loop-t-2 l = Turn l.h l.m l.v l.w l.t
