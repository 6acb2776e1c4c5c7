-- In a message of at most 2,048 octets, each vector is short. Assumes nothing.
use Prim.Native.Nat.{ℕ, ◌^◌, ◌≤◌, ◌<◌}
use mathlib.Core.List.{List, ◌∷◌, ◌++◌}
use mathlib.Core.Option.{Option, none, some}
use native.Mathlib.Omega.{arith}
use lib.ListN.{length, length-append}
use Rattle.writing.specs.Written.{intx_octets, vector_octets}
use Rattle.writing.specs.Elements.{IfThere, element_octets}
use Rattle.message_layout.specs.Contents.{Contents}
use Rattle.message_layout.specs.WellFormed.{WellFormedDigests, WellFormed}
use Rattle.message_layout.specs.Layout.{signer_octets, generation_octets, deviation_octets, expiration_octets, location_octets, digest_octets, digests_octets, field_octets, header_octets, payload_octets, trailer_octets, written}

-- what stands in a vector is no longer than the vector
vector_size : (w : List ℕ) → length w ≤ length (vector_octets w)
vector_size w = omega (arith, length-append (intx_octets (length w)) w)

pub headers_short : (c : Contents) → WellFormed c → length (header_octets c) ≤ 2048
unfolding written
headers_short c g =
    let h = vector_octets (header_octets c) in
    omega (arith, g.size, vector_size (header_octets c), length-append h (payload_octets c.payload ++ vector_octets (trailer_octets c)))

pub payload_short : (c : Contents) → WellFormed c → length c.payload ≤ 2048
unfolding written
payload_short c g =
    let h = vector_octets (header_octets c) in
    let p = payload_octets c.payload in
    let t = vector_octets (trailer_octets c) in
    omega (arith, g.size, vector_size c.payload, length-append h (p ++ t), length-append p t)

element_short : (z : Option (List (List ℕ))) → IfThere WellFormedDigests z → length (element_octets 4 digests_octets z) ≤ 2048 → IfThere (λ ds. WellFormedDigests ds × (length (digest_octets ds) < 2 ^ 28)) z
element_short none g h = tt
element_short (some ds) g h = (g, omega (arith, h, vector_size (digest_octets ds)))

pub digests_short : (c : Contents) → WellFormed c → IfThere (λ ds. WellFormedDigests ds × (length (digest_octets ds) < 2 ^ 28)) c.digests
digests_short c g =
    let t = generation_octets c.generation in
    let d = element_octets 1 deviation_octets c.deviation in
    let e = element_octets 2 expiration_octets c.expiration in
    let l = element_octets 3 location_octets c.location in
    let ds = element_octets 4 digests_octets c.digests in
    let a : List ℕ = 5 ∷ intx_octets c.aid in
    element_short c.digests g.digests
    (omega (
      arith,
      headers_short c g,
      length-append (signer_octets c.signer) (field_octets c),
      length-append t (d ++ (e ++ (l ++ (ds ++ a)))),
      length-append d (e ++ (l ++ (ds ++ a))),
      length-append e (l ++ (ds ++ a)),
      length-append l (ds ++ a),
      length-append ds a,
    ))
