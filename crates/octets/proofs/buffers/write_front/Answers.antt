-- `octets::buffers::write_front` meets its contract. Assumes nothing.
use mathlib.Core.Path.{◌∙◌}
use Rattle.octets.proofs.Buffered.{octets_front}
use Rattle.octets.proofs.buffers.write_front.Goals as goal

pub returns : goal.returns
returns c = let a = c.args in
    c.write_octets.ensures ∙ octets_front a.buffer.now a.octets.now
