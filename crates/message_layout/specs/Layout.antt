-- How a signed message is written (01, "The signed message"; 001, clause 5).
use Rattle.std.specs.Prelude.{ℕ, List, [], ◌∷◌, ◌++◌, length}
use Rattle.writing.specs.Written.{big_endian_octets, intx_octets, vector_octets}
use Rattle.writing.specs.Elements.{element_octets}
use Rattle.writing.specs.Items.{all_octets}
use Rattle.writing.specs.Fields.{coordinate_octets}
use Rattle.layout.specs.Layout as certificate
use Rattle.layout.specs.Layout.{signature_octets}
use Rattle.message_layout.specs.Contents.{Signer, named, carried, Deviation, Location, Contents}

-- type 1 and an id; type 2 and a certificate (001, clauses 4.2.10 and 4.2.11)
abbrev pub signer_octets : Signer → List ℕ
signer_octets (named id) = 1 ∷ id
signer_octets (carried x) = 2 ∷ certificate.written x

-- Time64 (clause 4.2.15)
abbrev pub generation_octets : ℕ → List ℕ
generation_octets time = big_endian_octets 8 time

-- Time64WithStandardDeviation (clause 4.2.16)
abbrev pub deviation_octets : Deviation → List ℕ
deviation_octets d = big_endian_octets 8 d.time ++ (d.confidence ∷ [])

-- Time32 (clause 4.2.14)
abbrev pub expiration_octets : ℕ → List ℕ
expiration_octets second = big_endian_octets 4 second

-- latitude, longitude, elevation (clause 4.2.19)
abbrev pub location_octets : Location → List ℕ
location_octets l = coordinate_octets l.latitude ++ (coordinate_octets l.longitude ++ l.elevation)

-- one after the other (clauses 4.2.13 and 5.4)
abbrev pub digest_octets : List (List ℕ) → List ℕ
digest_octets ds = all_octets (λ (d : List ℕ). d) ds

abbrev pub digests_octets : List (List ℕ) → List ℕ
digests_octets ds = vector_octets (digest_octets ds)

-- headers 0 to 5, ascending (clauses 5.1 and 5.5)
abbrev pub field_octets : Contents → List ℕ
field_octets c =
    0 ∷ (generation_octets c.generation
    ++ (element_octets 1 deviation_octets c.deviation
    ++ (element_octets 2 expiration_octets c.expiration
    ++ (element_octets 3 location_octets c.location
    ++ (element_octets 4 digests_octets c.digests
    ++ (5 ∷ intx_octets c.aid))))))

-- header 128, the signer, first (clauses 5.1 and 5.4)
abbrev pub header_octets : Contents → List ℕ
header_octets c = 128 ∷ (signer_octets c.signer ++ field_octets c)

-- type 1, signed, and the octets (clauses 5.2 and 5.3)
abbrev pub payload_octets : List ℕ → List ℕ
payload_octets payload = 1 ∷ vector_octets payload

-- type 1, and the signature (clauses 5.6 and 5.7)
abbrev pub trailer_octets : Contents → List ℕ
trailer_octets c = 1 ∷ signature_octets c.signature

-- the whole: version 2, headers, payload, trailer (clause 5.1)
unfoldable pub written : Contents → List ℕ
written c = 2 ∷ (vector_octets (header_octets c) ++ (payload_octets c.payload ++ vector_octets (trailer_octets c)))

-- what the signature covers: all before it, the length of the trailer and the signature's type too (clause 5.6)
unfoldable pub signed_octets : Contents → List ℕ
signed_octets c = 2 ∷ (vector_octets (header_octets c) ++ (payload_octets c.payload ++ (intx_octets (length (trailer_octets c)) ++ (1 ∷ []))))
