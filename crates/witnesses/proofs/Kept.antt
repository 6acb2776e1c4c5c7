-- The records that the store keeps of `anchor` and `pass`: antt computes all but the ids, which proofs/Hashes has. Assumes nothing.
use Prim.Native.Nat.{ℕ}
use mathlib.Core.Path.{◌≡◌, refl, ap, ◌∙◌}
use mathlib.Core.List.{List}
use lib.ListN.{take, drop, set}
use Rattle.sha256.specs.Hash.{sha256}
use Rattle.octets.specs.Items.{items_from}
use Rattle.octets.specs.Numbers.{big_endian_on, leading_ones, octet_at, unsigned_at, intx_at}
use Rattle.octets.specs.Elements.{exactly_at}
use Rattle.octets.specs.Reading.{got}
use Rattle.octets.specs.Vectors.{span_at, run_at}
use Rattle.attributes.specs.Points.{point_at}
use Rattle.attributes.specs.Keys.{verification_key_at, encryption_key_at}
use Rattle.attributes.specs.Assurances.{assurance_at}
use Rattle.attributes.specs.Permissions.{ssp_at, permission_at, permissions_in, list_at}
use Rattle.attributes.specs.Vector.{attributes_in}
use Rattle.restrictions.specs.Periods.{until_at, between_at, period_at}
use Rattle.restrictions.specs.Rectangles.{everywhere}
use Rattle.restrictions.specs.Areas.{area_at}
use Rattle.restrictions.specs.Vector.{restrictions_in}
use Rattle.certificate.specs.Heads.{signer_at, kind_at, name_at, head_at}
use Rattle.certificate.specs.Bodies.{attributes_at, restrictions_at}
use Rattle.certificate.specs.Signatures.{signature_at}
use Rattle.certificate.specs.Certificates.{certificate_at}
use Rattle.certificate.specs.Operations.{whole, answer_of, reading_of}
use Rattle.certificate.specs.declared.certificates.Certificate.{Certificate}
use Rattle.writing.specs.Written.{big_endian_octets, intx_octets}
use Rattle.layout.specs.Contents.{self, issuer, ticket, root, until, between}
use Rattle.layout.specs.Layout.{written}
use Rattle.layout.specs.Fields.{fields_at}
use Rattle.records.specs.declared.Record.{Record}
use Rattle.store.specs.Slots.{HELD}
use Rattle.entries.specs.Readable.{accepted}
use Rattle.entries.specs.Stored.{id_from, scope_from, record_from}
use Rattle.witnesses.specs.Inputs.{contents, anchor, anchor_id, pass, pass_id, everywhere as unbounded, stored, message}
use Rattle.witnesses.specs.Table.{carried}
use Rattle.witnesses.proofs.Hashes.{anchor_hash, pass_hash}
use Rattle.sample_stores.specs.Stores.{eight}

-- what is read of them where they stand
abbrev pub anchor_at : ℕ → Certificate
anchor_at at = fields_at at (contents self root (until 1000))

abbrev pub pass_at : ℕ → Certificate
pass_at at = fields_at at (contents (issuer (eight 0x02)) ticket (between 200 300))

-- what is kept of them
abbrev pub anchor_kept : Record
anchor_kept = stored anchor_id 4 (eight 0x00) HELD 0 1000 unbounded

abbrev pub pass_kept : Record
pass_kept = stored pass_id 1 (eight 0x02) HELD 200 300 unbounded

anchor_whole : whole anchor ≡ got (anchor_at 0) 115
unfolding anchor fields_at written big_endian_octets intx_octets whole certificate_at head_at signer_at kind_at name_at attributes_at attributes_in verification_key_at encryption_key_at assurance_at list_at permissions_in permission_at ssp_at point_at restrictions_at restrictions_in period_at until_at between_at area_at everywhere signature_at span_at run_at intx_at octet_at unsigned_at exactly_at items_from big_endian_on leading_ones
anchor_whole = refl

pub anchor_read : reading_of anchor ≡ accepted (anchor_at 0)
unfolding reading_of
anchor_read = ap answer_of anchor_whole

pass_whole : whole pass ≡ got (pass_at 0) 128
unfolding pass fields_at written big_endian_octets intx_octets whole certificate_at head_at signer_at kind_at name_at attributes_at attributes_in verification_key_at encryption_key_at assurance_at list_at permissions_in permission_at ssp_at point_at restrictions_at restrictions_in period_at until_at between_at area_at everywhere signature_at span_at run_at intx_at octet_at unsigned_at exactly_at items_from big_endian_on leading_ones
pass_whole = refl

pub pass_read : reading_of pass ≡ accepted (pass_at 0)
unfolding reading_of
pass_read = ap answer_of pass_whole

-- the octets of a certificate are the same in a message
anchor_cut : set (take 115 (drop 0 anchor)) 50 0 ≡ anchor
unfolding anchor written big_endian_octets intx_octets
anchor_cut = refl

anchor_carried : set (take 115 (drop 5 (carried anchor))) 50 0 ≡ anchor
unfolding message anchor written big_endian_octets intx_octets
anchor_carried = refl

pass_cut : set (take 128 (drop 0 pass)) 63 0 ≡ pass
unfolding pass written big_endian_octets intx_octets
pass_cut = refl

pass_carried : set (take 128 (drop 5 (carried pass))) 63 0 ≡ pass
unfolding message pass written big_endian_octets intx_octets
pass_carried = refl

anchor_same_id : id_from anchor (anchor_at 0) ≡ anchor_id
unfolding id_from fields_at big_endian_octets intx_octets
anchor_same_id = ap (λ (s : List ℕ). drop 24 (sha256 s)) anchor_cut ∙ anchor_hash

pub anchor_record : record_from anchor (anchor_at 0) ≡ anchor_kept
unfolding record_from scope_from fields_at anchor written big_endian_octets intx_octets everywhere
anchor_record = ap (λ (t : List ℕ). stored t 4 (eight 0x00) HELD 0 1000 unbounded) anchor_same_id

anchor_carried_id : id_from (carried anchor) (anchor_at 5) ≡ anchor_id
unfolding id_from fields_at big_endian_octets intx_octets
anchor_carried_id = ap (λ (s : List ℕ). drop 24 (sha256 s)) anchor_carried ∙ anchor_hash

pub anchor_carried_record : record_from (carried anchor) (anchor_at 5) ≡ anchor_kept
unfolding record_from scope_from fields_at anchor written big_endian_octets intx_octets message everywhere
anchor_carried_record = ap (λ (t : List ℕ). stored t 4 (eight 0x00) HELD 0 1000 unbounded) anchor_carried_id

pass_same_id : id_from pass (pass_at 0) ≡ pass_id
unfolding id_from fields_at big_endian_octets intx_octets
pass_same_id = ap (λ (s : List ℕ). drop 24 (sha256 s)) pass_cut ∙ pass_hash

pub pass_record : record_from pass (pass_at 0) ≡ pass_kept
unfolding record_from scope_from fields_at pass written big_endian_octets intx_octets everywhere
pass_record = ap (λ (t : List ℕ). stored t 1 (eight 0x02) HELD 200 300 unbounded) pass_same_id

pass_carried_id : id_from (carried pass) (pass_at 5) ≡ pass_id
unfolding id_from fields_at big_endian_octets intx_octets
pass_carried_id = ap (λ (s : List ℕ). drop 24 (sha256 s)) pass_carried ∙ pass_hash

pub pass_carried_record : record_from (carried pass) (pass_at 5) ≡ pass_kept
unfolding record_from scope_from fields_at pass written big_endian_octets intx_octets message everywhere
pass_carried_record = ap (λ (t : List ℕ). stored t 1 (eight 0x02) HELD 200 300 unbounded) pass_carried_id
