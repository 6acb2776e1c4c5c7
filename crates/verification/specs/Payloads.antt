-- The payload as a part of the caller's message.
use Rattle.std.specs.Prelude.{ℕ, ◌+◌, List, [], length, take, drop, leb}
use Rattle.octets.specs.Reading.{pick}
use Rattle.octets.specs.declared.vectors.Part.{Part}

-- the octets of a part; none of one that passes the end
unfoldable pub payload_of : List ℕ → Part → List ℕ
payload_of message p = pick (leb (p.start + p.length) (length message)) (take p.length (drop p.start message)) []
