-- What read and id answer: antt computes the definitions. Assumes nothing.
use Prim.Native.Nat.{ℕ}
use mathlib.Core.Path.{◌≡◌, refl, ap, ◌∙◌}
use mathlib.Core.List.{List}
use lib.ListN.{set, drop}
use Rattle.sha256.specs.Hash.{sha256}
use Rattle.octets.specs.Items.{items_from}
use Rattle.octets.specs.Numbers.{big_endian_on, leading_ones, octet_at, unsigned_at, intx_at}
use Rattle.octets.specs.Elements.{exactly_at}
use Rattle.octets.specs.Reading.{got}
use Rattle.octets.specs.Vectors.{span_at, run_at}
use Rattle.attributes.specs.Points.{point_at}
use Rattle.attributes.specs.Keys.{verification_key_at, encryption_key_at}
use Rattle.attributes.specs.Assurances.{assurance_at}
use Rattle.attributes.specs.Permissions.{ssp_at, permission_at, permissions_in, list_at}
use Rattle.attributes.specs.Vector.{attributes_in}
use Rattle.restrictions.specs.Periods.{until_at, between_at, period_at}
use Rattle.restrictions.specs.Rectangles.{everywhere}
use Rattle.restrictions.specs.Areas.{area_at}
use Rattle.restrictions.specs.Vector.{restrictions_in}
use Rattle.certificate.specs.Heads.{signer_at, kind_at, name_at, head_at}
use Rattle.certificate.specs.Bodies.{attributes_at, restrictions_at}
use Rattle.certificate.specs.Signatures.{signature_at}
use Rattle.certificate.specs.Certificates.{certificate_at}
use Rattle.certificate.specs.Operations.{whole, answer_of, identified_of, reading_of, id_of, certificate_id}
use Rattle.writing.specs.Written.{big_endian_octets, intx_octets}
use Rattle.layout.specs.Layout.{written}
use Rattle.witnesses.specs.Inputs.{anchor, anchor_id}
use Rattle.witnesses.specs.Table.{AllReached, anchor_fields, reading}
use Rattle.witnesses.proofs.Hashes.{anchor_hash}

pub anchor_read : whole anchor ≡ got anchor_fields 115
unfolding anchor written big_endian_octets intx_octets whole certificate_at head_at signer_at kind_at name_at attributes_at attributes_in verification_key_at encryption_key_at assurance_at list_at permissions_in permission_at ssp_at point_at restrictions_at restrictions_in period_at until_at between_at area_at everywhere signature_at span_at run_at intx_at octet_at unsigned_at exactly_at items_from big_endian_on leading_ones
anchor_read = refl

pub anchor_answer : reading_of anchor ≡ record { number = 0; certificate = anchor_fields }
unfolding reading_of
anchor_answer = ap answer_of anchor_read

-- its signature's point type is 0 already
anchor_whole : set anchor 50 0 ≡ anchor
unfolding anchor written big_endian_octets intx_octets
anchor_whole = refl

anchor_named : id_of anchor ≡ record { number = 0; id = anchor_id }
unfolding id_of certificate_id
anchor_named = ap (identified_of anchor) anchor_read
    ∙ ap (λ (t : List ℕ). record { number = 0; id = t }) (ap (λ (s : List ℕ). drop 24 (sha256 s)) anchor_whole ∙ anchor_hash)

-- the refusals are computed as the table states them
pub reading_reached : AllReached reading
unfolding reading_of id_of whole certificate_at head_at exactly_at octet_at signer_at kind_at
reading_reached =
    ((refl, (refl, tt)), ((refl, (refl, tt)), ((refl, (refl, tt)), ((refl, (refl, tt)), ((anchor_answer, (anchor_named, tt)), tt)))))
