-- The readers of a message go forward: a refusal is a number from 3 to 6. Assumes nothing.
use mathlib.Core.Bool.{Bool, true}
use mathlib.Core.List.{List}
use Prim.Native.Nat.{ℕ, ◌+◌}
use native.Mathlib.Nat.{le_refl}
use native.Mathlib.Omega.{arith}
use lib.ListN.{length, get_or, take}
use lib.Dec.{leb, ltb, eqb}
use Rattle.octets.specs.Forward.{Forward}
use Rattle.octets.specs.Numbers.{octet_at}
use Rattle.octets.specs.Vectors.{span_at, run_at}
use Rattle.octets.specs.Elements.{exactly_at}
use Rattle.octets.proofs.Forward.{stray_forward, forward_need, forward_pick, forward_from, forward_then, forward_inner, octet_forward, span_forward, run_forward, exactly_forward}
use Rattle.certificate.specs.Certificates.{certificate_at}
use Rattle.certificate.specs.Signatures.{signature_at}
use Rattle.certificate.proofs.Forward.{certificate_forward, signature_forward}
use Rattle.headers.specs.Fields.{named, stray_of, fields_in}
use Rattle.headers.proofs.Forward.{fields_forward}
use Rattle.message.specs.Signers.{named_at, carried_at, signer_info_at, signer_at}
use Rattle.message.specs.Vectors.{headers_in, headers_at, complete_headers}
use Rattle.message.specs.Bodies.{payload_at, trailer_in, trailer_at}
use Rattle.message.specs.Messages.{whole_message}

-- ---- the signer
module _ (s : List ℕ) (at : ℕ) where
  pub named_forward : Forward at (named_at s at)
  unfolding named_at
  named_forward = forward_then at (run_at 8 s at) _ (run_forward s at 8) (λ start end. le_refl end)

  pub carried_forward : Forward at (carried_at s at)
  unfolding carried_at
  carried_forward = forward_then at (certificate_at s at) _ (certificate_forward s at) (λ certificate end. le_refl end)

module _ (s : List ℕ) (at : ℕ) where
  pub signer_info_forward : Forward at (signer_info_at s at)
  unfolding signer_info_at
  signer_info_forward =
      forward_then at (octet_at s at) _ (octet_forward s at) (λ type a.
      forward_pick a (eqb type 1) _ _ (named_forward s a)
      (forward_need a 6 (eqb type 2) _ (omega arith) (omega arith) (carried_forward s a)))

module _ (s : List ℕ) (at : ℕ) where
  pub signer_forward : Forward at (signer_at s at)
  unfolding signer_at
  signer_forward =
      let n = stray_forward (named (get_or s at 0)) in
      let info = forward_from at (at + 1) (signer_info_at s (at + 1)) (omega arith) (signer_info_forward s (at + 1)) in
      forward_pick at (ltb at (length s)) _ _
      (forward_need at (stray_of (get_or s at 0)) (eqb (get_or s at 0) 128) _ n.0 n.1 info) (le_refl at)

-- ---- headers, payload and trailer
module _ (s : List ℕ) (at : ℕ) where
  pub headers_in_forward : Forward at (headers_in s at)
  unfolding headers_in
  headers_in_forward =
      forward_then at (signer_at s at) _ (signer_forward s at) (λ signer a.
      forward_then a (fields_in s a) _ (fields_forward s a) (λ fields next. le_refl next))

  pub payload_forward : (complete : Bool) → Forward at (payload_at complete s at)
  unfolding payload_at
  payload_forward complete =
      forward_then at (exactly_at 1 s at) _ (exactly_forward s at 1) (λ type a.
      forward_need a 5 complete _ (omega arith) (omega arith) (span_forward s a))

  pub trailer_in_forward : Forward at (trailer_in s at)
  unfolding trailer_in
  trailer_in_forward =
      forward_need at 5 (ltb at (length s)) _ (omega arith) (omega arith)
      (forward_then at (exactly_at 1 s at) _ (exactly_forward s at 1) (λ type a.
      forward_then a (signature_at true s a) _ (signature_forward s a true) (λ signature next.
      forward_need next 5 (leb (length s) next) _ (omega arith) (omega arith) (le_refl next))))

module _ (s : List ℕ) (at : ℕ) where
  pub headers_forward : Forward at (headers_at s at)
  unfolding headers_at
  headers_forward =
      forward_then at (span_at s at) _ (span_forward s at) (λ start end.
      forward_inner end start (headers_in (take end s) start) _ (headers_in_forward (take end s) start) (λ h n. le_refl end))

  pub trailer_forward : Forward at (trailer_at s at)
  unfolding trailer_at
  trailer_forward =
      forward_then at (span_at s at) _ (span_forward s at) (λ start end.
      forward_inner end start (trailer_in (take end s) start) _ (trailer_in_forward (take end s) start) (λ x n. le_refl end))

-- ---- the whole
pub message_forward : (s : List ℕ) → Forward 0 (whole_message s)
unfolding whole_message
message_forward s =
    forward_need 0 3 (leb (length s) 2048) _ (omega arith) (omega arith)
    (forward_then 0 (exactly_at 2 s 0) _ (exactly_forward s 0 2) (λ version a.
    forward_then a (headers_at s a) _ (headers_forward s a) (λ headers b.
    forward_then b (payload_at (complete_headers headers) s b) _ (payload_forward s b (complete_headers headers)) (λ start c.
    forward_then c (trailer_at s c) _ (trailer_forward s c) (λ signature next.
    forward_need next 5 (leb (length s) next) _ (omega arith) (omega arith) (le_refl next))))))
