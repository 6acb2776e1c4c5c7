-- Where the signer of a message that was read stands. Assumes nothing.
use mathlib.Core.Path.{◌≡◌, sym, ◌∙◌}
use mathlib.Core.List.{List}
use Prim.Native.Nat.{ℕ, ◌+◌, ◌≤◌}
use native.Mathlib.Omega.{arith}
use lib.ListN.{length}
use Rattle.bitfields.specs.Field.{Octets}
use Rattle.message.specs.Inside.{SignedBy, id, certificate}
use Rattle.message.specs.Messages.{Message}
use Rattle.message.proofs.Inside.{inside}
use Rattle.entries.specs.Standing.{Standing}
use Rattle.entries.proofs.Standing.{standing, widened}
use Rattle.verification.specs.Accepted.{Reads}
use Rattle.message.specs.Signers.{CARRIED}

-- a certificate that it carries stands in the message's octets
pub carried_standing : (s : List ℕ) (m : Message) → Octets s → Reads s m → m.headers.signer.form ≡ CARRIED → Standing s m.headers.signer.certificate
carried_standing s m o r e = by (inside s m r.0 r.1).signer
  where
    by : SignedBy s m.headers.signer → Standing s m.headers.signer.certificate
    by (id h) = absurd (let z : ◌≡◌ {A = ℕ} 1 2 = sym h.type ∙ e in omega arith)
    by (certificate h) = standing s h.first _ h.after o (widened s h.end h.first _ h.after o h.read)

-- else the eight octets of an id do
pub digest_in : (s : List ℕ) (m : Message) → Reads s m → ¬ (m.headers.signer.form ≡ CARRIED)
    → (m.headers.signer.digest.start + 8 ≤ length s) × (m.headers.signer.digest.length ≡ 8)
digest_in s m r n = by (inside s m r.0 r.1).signer
  where
    by : SignedBy s m.headers.signer → (m.headers.signer.digest.start + 8 ≤ length s) × (m.headers.signer.digest.length ≡ 8)
    by (id h) = (h.within, h.eight)
    by (certificate h) = absurd (n h.type)
