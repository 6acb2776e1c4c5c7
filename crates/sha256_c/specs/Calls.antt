-- What the function answers, and what its buffer then holds.
use Rattle.std.specs.Prelude.{ℕ, List, length, ltb}
use Rattle.octets.specs.Reading.{pick}
use Rattle.octets.specs.Buffers.{with_front}
use Rattle.sha256.specs.Hash.{sha256}

unfoldable pub digest_call : List ℕ → List ℕ → ℕ × List ℕ
digest_call message buffer = pick (ltb (length buffer) 32) (1, buffer) (0, with_front (sha256 message) buffer)
