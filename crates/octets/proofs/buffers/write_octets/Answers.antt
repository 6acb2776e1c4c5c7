use Rattle.std.proofs.Common.{◌∙◌, arith, length, ◌+◌, ◌-◌}
use Rattle.std.proofs.lemmas.Slice.{put_mid-paste}
use Rattle.octets.proofs.Buffered.{octets_pasted}
use Rattle.octets.proofs.buffers.write_octets.Goals as goal

pub returns : goal.returns
returns c =
    let a = c.args in
    put_mid-paste a.at (a.at + length a.octets.now - a.at) a.buffer.now _ a.octets.now (length a.octets.now) c.copy_from_slice.ensures.after (omega arith) (omega arith)
    ∙ octets_pasted a.buffer.now a.at a.octets.now
