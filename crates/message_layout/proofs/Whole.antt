-- A message's contents, and what its parts say. Assumes nothing.
use Prim.Native.Nat.{ℕ, ◌+◌, ◌-◌, ◌^◌, ◌≤◌, ◌<◌}
use mathlib.Core.Path.{◌≡◌, refl, ap₂}
use mathlib.Core.List.{List, [], ◌∷◌, ◌++◌}
use mathlib.Core.Option.{Option, none, some}
use native.Mathlib.Omega.{arith}
use lib.ListN.{length, length-append}
use Rattle.octets.specs.Vectors.{part}
use Rattle.geo.proofs.Bools.{never}
use Rattle.writing.specs.Written.{intx_octets, vector_octets}
use Rattle.writing.specs.Elements.{IfThere}
use Rattle.layout.specs.Contents.{Signature}
use Rattle.layout.specs.Fields.{signature_fields}
use Rattle.message_layout.specs.Contents.{Signer, Deviation, Location, Contents}
use Rattle.message_layout.specs.WellFormed.{WellFormedDigests, WellFormed}
use Rattle.message_layout.specs.Layout.{digest_octets, header_octets, payload_octets, trailer_octets, written, signed_octets}
use Rattle.message_layout.specs.Fields.{signer_fields, header_fields, fields_of}
use Rattle.message_layout.proofs.Messages.{Parts, WellFormedParts, parts_octets, parts_fields}
use Rattle.message_layout.proofs.Sizes.{headers_short, payload_short, digests_short}

abbrev pub parts_of : Contents → Parts
parts_of c =
    record {
      headers = record {
        signer = some c.signer;
        fields = record {
          generation = some c.generation;
          deviation = c.deviation;
          expiration = c.expiration;
          location = c.location;
          digests = c.digests;
          aid = some c.aid;
        };
      };
      payload = c.payload;
      signature = c.signature;
    }

pub parts_good : (c : Contents) → WellFormed c → WellFormedParts (parts_of c)
parts_good c g =
    record {
      headers = record {
        signer = g.signer;
        fields = record {
          generation = g.generation;
          deviation = g.deviation;
          expiration = g.expiration;
          location = g.location;
          digests = digests_short c g;
          aid = g.aid;
        };
        alone = tt;
      };
      headers_short = omega (arith, headers_short c g);
      complete = refl;
      payload = g.payload;
      payload_short = omega (arith, payload_short c g);
      signature = g.signature;
    }

-- both are written alike
pub parts_written : (c : Contents) → parts_octets (parts_of c) ≡ written c
unfolding written
parts_written c = refl

-- and read alike
pub parts_read : (c : Contents) → parts_fields 0 (parts_of c) ≡ fields_of c
unfolding fields_of signed_octets
parts_read c =
    let h = vector_octets (header_octets c) in
    let p = payload_octets c.payload in
    let n = intx_octets (length c.payload) in
    let i = intx_octets (length (trailer_octets c)) in
    let start = 1 + length h + 1 + length n in
    let size : 1 + length h + length p - start ≡ length c.payload = omega (arith, length-append n c.payload) in
    let signed : 1 + length h + length p + length i + 1 ≡ length (signed_octets c) =
    omega (arith, length-append h (p ++ (i ++ (1 ∷ []))), length-append p (i ++ (1 ∷ [])), length-append i (1 ∷ [])) in
    ap₂ (λ (k m : ℕ).
    record {
      headers = record { signer = signer_fields (1 + length (intx_octets (length (header_octets c))) + 1) c.signer; fields = header_fields c };
      payload = part start k;
      signed = part 0 m;
      signature = signature_fields m c.signature;
    }) size signed

digests_good : (z : Option (List (List ℕ))) → IfThere (λ ds. WellFormedDigests ds × (length (digest_octets ds) < 2 ^ 28)) z → IfThere WellFormedDigests z
digests_good none g = tt
digests_good (some ds) g = g.0

-- parts that are complete come of contents
abbrev parts_from : Option Signer → Option ℕ → Option Deviation → Option ℕ → Option Location → Option (List (List ℕ)) → Option ℕ → List ℕ → Signature → Parts
parts_from signer generation deviation expiration location digests aid payload signature =
    record {
      headers = record {
        signer = signer;
        fields = record { generation = generation; deviation = deviation; expiration = expiration; location = location; digests = digests; aid = aid };
      };
      payload = payload;
      signature = signature;
    }

contents_from : (signer : Option Signer) (generation : Option ℕ) (deviation : Option Deviation) (expiration : Option ℕ) (location : Option Location) (digests : Option (List (List ℕ))) (aid : Option ℕ)
    (payload : List ℕ) (signature : Signature)
    → WellFormedParts (parts_from signer generation deviation expiration location digests aid payload signature)
    → length (parts_octets (parts_from signer generation deviation expiration location digests aid payload signature)) ≤ 2048
    → (c : Contents) × WellFormed c × (parts_of c ≡ parts_from signer generation deviation expiration location digests aid payload signature)
unfolding written
contents_from none t d e l ds a p s g h = never g.complete
contents_from (some x) none d e l ds a p s g h = never g.complete
contents_from (some x) (some t) d e l ds none p s g h = never g.complete
contents_from (some x) (some t) d e l ds (some a) p s g h = (
  record { signer = x; generation = t; deviation = d; expiration = e; location = l; digests = ds; aid = a; payload = p; signature = s },
  record {
    signer = g.headers.signer;
    generation = g.headers.fields.generation;
    deviation = g.headers.fields.deviation;
    expiration = g.headers.fields.expiration;
    location = g.headers.fields.location;
    digests = digests_good ds g.headers.fields.digests;
    aid = g.headers.fields.aid;
    payload = g.payload;
    signature = g.signature;
    size = h;
  },
  refl,
)

pub contents_of : (x : Parts) → WellFormedParts x → length (parts_octets x) ≤ 2048 → (c : Contents) × WellFormed c × (parts_of c ≡ x)
contents_of x g h =
    let y = x.headers in
    let f = y.fields in
    contents_from y.signer f.generation f.deviation f.expiration f.location f.digests f.aid x.payload x.signature g h
