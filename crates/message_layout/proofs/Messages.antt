-- Version, headers, payload and trailer are read exactly, from a position to the end of input. Assumes nothing.
use Prim.Native.Nat.{ℕ, ◌+◌, ◌-◌, ◌^◌, ◌<◌}
use mathlib.Core.Path.{◌≡◌, refl}
use mathlib.Core.Bool.{true}
use mathlib.Core.List.{List, ◌∷◌, ◌++◌, append-nil}
use native.Mathlib.Omega.{arith}
use lib.Dec.{leb}
use lib.ListN.{length}
use Rattle.octets.specs.Reading.{Out, got, bind, need}
use Rattle.octets.specs.Vectors.{part}
use Rattle.octets.specs.Elements.{exactly_at}
use Rattle.message.specs.Vectors.{headers_at, complete_headers}
use Rattle.message.specs.Bodies.{payload_at, trailer_at}
use Rattle.message.specs.Messages.{Message}
use Rattle.writing.specs.Written.{Octets, intx_octets, vector_octets}
use Rattle.writing.specs.Exactly.{ExactIn}
use Rattle.writing.proofs.Numbers.{exactly_exact}
use Rattle.writing.proofs.Sequences.{seq, end}
use Rattle.writing.proofs.Shapes.{before, contained, reshape_in}
use Rattle.layout.specs.Contents.{Signature}
use Rattle.layout.specs.WellFormed.{WellFormedSignature}
use Rattle.layout.specs.Layout.{signature_octets}
use Rattle.layout.specs.Fields.{signature_fields}
use Rattle.message_layout.specs.Layout.{payload_octets}
use Rattle.message_layout.proofs.Headers as vector
use Rattle.message_layout.proofs.Headers.{required, headers_at_exact, headers_complete}
use Rattle.message_layout.proofs.Bodies.{payload_exact, trailer_exact}

-- what the parts of a message say together
pub record Parts : Type 0 where
  pub headers : vector.Given
  pub payload : List ℕ
  pub signature : Signature

pub record WellFormedParts (x : Parts) : Type 0 where
  pub headers : vector.WellFormedGiven x.headers
  pub headers_short : length (vector.given_octets x.headers) < 2 ^ 28
  pub complete : required x.headers ≡ true
  pub payload : Octets x.payload
  pub payload_short : length x.payload < 2 ^ 28
  pub signature : WellFormedSignature x.signature

abbrev pub parts_octets : Parts → List ℕ
parts_octets x = 2 ∷ (vector_octets (vector.given_octets x.headers) ++ (payload_octets x.payload ++ vector_octets (1 ∷ signature_octets x.signature)))

abbrev pub parts_fields : ℕ → Parts → Message
parts_fields at x =
    let a = at + 1 in
    let b = a + length (vector_octets (vector.given_octets x.headers)) in
    let start = b + 1 + length (intx_octets (length x.payload)) in
    let c = b + length (payload_octets x.payload) in
    let d = c + length (intx_octets (length (1 ∷ signature_octets x.signature))) + 1 in
    record {
      headers = vector.given_fields (a + length (intx_octets (length (vector.given_octets x.headers)))) x.headers;
      payload = part start (c - start);
      signed = part 0 d;
      signature = signature_fields d x.signature;
    }

-- the reader, at a position
abbrev pub parts_at : List ℕ → ℕ → Out Message
parts_at s at =
    bind (exactly_at 2 s at) (λ version a.
    bind (headers_at s a) (λ headers b.
    bind (payload_at (complete_headers headers) s b) (λ start c.
    bind (trailer_at s c) (λ signature next.
    need 5 (leb (length s) next) (
    got (record {
      headers = headers;
      payload = part start (c - start);
      signed = part 0 signature.octets.start;
      signature = signature;
    }) next)))))

pub parts_exact : ExactIn WellFormedParts parts_octets parts_fields parts_at
parts_exact =
    reshape_in (contained (seq _ (before (exactly_exact 2 (omega arith))) (λ at u g.
    seq _ (before headers_at_exact) (λ a x h.
    seq _ (before (payload_exact _ (required x) (headers_complete (a + length (intx_octets (length (vector.given_octets x)))) x))) (λ b w i.
    seq _ (before trailer_exact) (λ c y j.
    end (λ s n. 5) (λ n. record {
      headers = vector.given_fields (a + length (intx_octets (length (vector.given_octets x)))) x;
      payload = part (b + 1 + length (intx_octets (length w))) (c - (b + 1 + length (intx_octets (length w))));
      signed = part 0 (c + length (intx_octets (length (1 ∷ signature_octets y))) + 1);
      signature = signature_fields (c + length (intx_octets (length (1 ∷ signature_octets y))) + 1) y;
    })))))) (λ x rest f. f.1.1.1.1))
    (record {
      to = λ x. (tt, (x.headers, (x.payload, (x.signature, tt))));
      good = λ x g. (
        (tt, ((g.headers, g.headers_short), ((g.complete, (g.payload, g.payload_short)), (g.signature, tt)))),
        (tt, (tt, (tt, (tt, refl)))),
      );
      writes = λ x g. simp append-nil;
      values = λ at x g. refl;
      onto = λ x g. (
        record { headers = x.1.0; payload = x.1.1.0; signature = x.1.1.1.0 },
        record {
          headers = g.0.1.0.0;
          headers_short = g.0.1.0.1;
          complete = g.0.1.1.0.0;
          payload = g.0.1.1.0.1.0;
          payload_short = g.0.1.1.0.1.1;
          signature = g.0.1.1.1.0;
        },
        refl,
      );
    })
