-- Payload and trailer are read exactly. Assumes nothing.
use Prim.Native.Nat.{ℕ, ◌+◌, ◌^◌, ◌<◌}
use mathlib.Core.Path.{◌≡◌, refl, sym, ◌∙◌}
use mathlib.Core.Bool.{Bool, true}
use mathlib.Core.List.{List, ◌∷◌, append-nil}
use native.Mathlib.Omega.{arith}
use lib.ListN.{length, length-append}
use Rattle.message.specs.Bodies.{payload_at, trailer_in, trailer_at}
use Rattle.writing.specs.Written.{Octets, intx_octets, vector_octets}
use Rattle.writing.specs.Exactly.{Exact, ExactIn}
use Rattle.writing.proofs.Numbers.{exactly_exact}
use Rattle.writing.proofs.Vectors.{span_exact}
use Rattle.writing.proofs.Containers.{vector_end_exact}
use Rattle.writing.proofs.Contents.{some_in}
use Rattle.writing.proofs.Sequences.{seq, test, end}
use Rattle.writing.proofs.Shapes.{before, exactly, contained, reshape, reshape_in}
use Rattle.layout.specs.Contents.{Signature}
use Rattle.layout.specs.WellFormed.{WellFormedSignature}
use Rattle.layout.specs.Layout.{point_octets, signature_octets}
use Rattle.layout.specs.Fields.{signature_fields}
use Rattle.layout.proofs.Signatures.{signature_exact}
use Rattle.message_layout.specs.Layout.{payload_octets}

-- complete: no required header was lacking, which is to say that t holds
pub payload_exact : (complete t : Bool) → complete ≡ t
    → Exact (λ (w : List ℕ). (t ≡ true) × (Octets w × (length w < 2 ^ 28))) payload_octets (λ at w. at + 1 + length (intx_octets (length w))) (payload_at complete)
unfolding payload_at
payload_exact complete t e =
    reshape (exactly (seq _ (before (exactly_exact 1 (omega arith))) (λ at u g. test 5 complete (before span_exact))) (λ p rest g. (tt, tt)))
    (record {
      to = λ w. (tt, w);
      good = λ w g. (tt, (e ∙ g.0, g.1));
      writes = λ w g. refl;
      values = λ at w g. refl;
      onto = λ x g. (x.1, (sym e ∙ g.1.0, g.1.1), refl);
    })

-- type 1 and a signature, up to the end
trailer_in_exact : ExactIn WellFormedSignature (λ x. 1 ∷ signature_octets x) (λ at x. signature_fields (at + 1) x) trailer_in
unfolding trailer_in
trailer_in_exact =
    reshape_in (some_in 5 (contained (seq _ (before (exactly_exact 1 (omega arith))) (λ at u g.
    seq _ (before (signature_exact true true refl)) (λ a x h.
    end (λ s n. 5) (λ n. signature_fields a x)))) (λ x rest f. f.1.1)))
    (record {
      to = λ x. (tt, (x, tt));
      good = λ x g. (omega arith, ((tt, ((refl, g), tt)), (tt, (tt, refl))));
      writes = λ x g. simp append-nil;
      values = λ at x g. refl;
      onto = λ x g. (x.1.0, g.1.0.1.0.1, refl);
    })

pub signature_size : (x : Signature) → WellFormedSignature x → length (signature_octets x) ≡ 66
signature_size x g = omega (arith, length-append (point_octets x.r) x.s, g.r.0, g.s.0)

pub trailer_exact : Exact WellFormedSignature (λ x. vector_octets (1 ∷ signature_octets x)) (λ at x. signature_fields (at + length (intx_octets (length (1 ∷ signature_octets x))) + 1) x) trailer_at
unfolding trailer_at
trailer_exact =
    reshape (vector_end_exact trailer_in_exact)
    (record {
      to = λ x. x;
      good = λ x g. (g, omega (arith, signature_size x g));
      writes = λ x g. refl;
      values = λ at x g. refl;
      onto = λ x g. (x, g.0, refl);
    })
