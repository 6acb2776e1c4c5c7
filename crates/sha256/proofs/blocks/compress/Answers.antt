-- Both loops keep `Turn`: the working variables after t rounds, and the schedule's last words. Assumes nothing.
use Rattle.std.proofs.Common.{◌≡◌, ◌%◌, sym, refl, ◌∙◌, arith}
use Rattle.sha256.specs.Constants.{K, constants}
use Rattle.sha256.specs.Block.{compress_of}
use Rattle.sha256.proofs.Ring.{turn_none, turn_more, ring_next}
use Rattle.sha256.proofs.Schedule.{W_first}
use Rattle.sha256.proofs.blocks.compress.Goals as goal

pub loop-t-init : goal.loop-t-init
loop-t-init c = turn_none _ _ _ refl

pub loop-t-preserved : goal.loop-t-preserved
unfolding K constants
loop-t-preserved c =
    let place : c.loop-t.t ≡ c.loop-t.t % 16 = omega arith in
    turn_more c.loop-t.invariant place c.round-v.ensures refl (c.word_at-x.ensures ∙ sym (W_first _ _ c.loop-t-test.true))

pub loop-t-2-preserved : goal.loop-t-2-preserved
unfolding K constants
loop-t-2-preserved c =
    let i = c.loop-t-2.invariant in
    turn_more i refl c.round-v-in-loop-t-2.ensures refl (c.next_word-x.ensures ∙ ring_next (omega arith) i.ring)

pub returns : goal.returns
unfolding compress_of
returns c =
    let e : c.loop-t-2.t ≡ 64 = omega arith in
    let s = c.loop-t-2.invariant.state in
    cc
