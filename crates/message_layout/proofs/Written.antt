-- What is written of a message is octets. Assumes nothing.
use native.Mathlib.Omega.{arith}
use Rattle.writing.specs.Written.{Octets, vector_octets}
use Rattle.writing.specs.Elements.{element_octets}
use Rattle.writing.specs.Fields.{coordinate_octets}
use Rattle.writing.proofs.Octets.{octets_append}
use Rattle.writing.proofs.Digits.{be_octets}
use Rattle.writing.proofs.Written.{intx_octets_lem, vector_octets_lem, element_octets_lem}
use Rattle.layout.specs.Layout.{point_octets}
use Rattle.layout.proofs.Tests.{signature_octet}
use Rattle.layout.proofs.Exactness as certificates
use Rattle.message_layout.specs.Contents.{Signer, named, carried, Location, Contents}
use Rattle.message_layout.specs.WellFormed.{WellFormedSigner, WellFormedLocation, WellFormed}
use Rattle.message_layout.specs.Layout.{signer_octets, generation_octets, deviation_octets, expiration_octets, location_octets, digest_octets, digests_octets, field_octets, header_octets, payload_octets, trailer_octets, written}
use Rattle.message_layout.proofs.Digests.{digest_octets_lem}

signer_octets_lem : (x : Signer) → WellFormedSigner x → Octets (signer_octets x)
signer_octets_lem (named id) g = (omega arith, g.1)
signer_octets_lem (carried x) g = (omega arith, (certificates.exactness).octets x g)

location_octets_lem : (l : Location) → WellFormedLocation l → Octets (location_octets l)
location_octets_lem l g =
    octets_append (coordinate_octets l.latitude) _ (be_octets 4 _) (octets_append (coordinate_octets l.longitude) l.elevation (be_octets 4 _) g.elevation.1)

pub written_octets : (c : Contents) → WellFormed c → Octets (written c)
unfolding written
written_octets c g = (
  omega arith,
  octets_append (vector_octets (header_octets c)) _ (vector_octets_lem (header_octets c) headers)
      (octets_append (payload_octets c.payload) _ (omega arith, vector_octets_lem c.payload g.payload) (vector_octets_lem (trailer_octets c) trailer)),
)
  where
    fields : Octets (field_octets c)
    fields = (
      omega arith,
      octets_append (generation_octets c.generation) _ (be_octets 8 c.generation)
          (octets_append (element_octets 1 deviation_octets c.deviation) _
          (element_octets_lem 1 (omega arith) deviation_octets (λ d h. octets_append (generation_octets d.time) _ (be_octets 8 d.time) (h.confidence, tt)) c.deviation g.deviation)
          (octets_append (element_octets 2 expiration_octets c.expiration) _ (element_octets_lem 2 (omega arith) expiration_octets (λ t h. be_octets 4 t) c.expiration g.expiration)
          (octets_append (element_octets 3 location_octets c.location) _ (element_octets_lem 3 (omega arith) location_octets location_octets_lem c.location g.location)
          (octets_append (element_octets 4 digests_octets c.digests) _ (element_octets_lem 4 (omega arith) digests_octets (λ ds h. vector_octets_lem (digest_octets ds) (digest_octets_lem ds h)) c.digests g.digests)
          (omega arith, intx_octets_lem c.aid))))),
    )

    headers : Octets (header_octets c)
    headers = (omega arith, octets_append (signer_octets c.signer) (field_octets c) (signer_octets_lem c.signer g.signer) fields)

    trailer : Octets (trailer_octets c)
    trailer = (
      omega arith,
      (
        omega arith,
        octets_append (point_octets c.signature.r) c.signature.s (signature_octet c.signature.r.type g.signature.type, g.signature.r.1) g.signature.s.1,
      ),
    )
