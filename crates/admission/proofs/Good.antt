-- The image of a record that keeps the store's rules is a good slot; so is that of each certificate that stands in octets. Assumes nothing.
use Prim.Native.Nat.{ℕ, ◌≤◌}
use mathlib.Core.Path.{◌≡◌, ap, ◌∙◌}
use mathlib.Core.Bool.{Bool, true, false, ◌&&◌, ◌||◌}
use mathlib.Core.Logic.{◌⊎◌, inl, inr}
use mathlib.Core.List.{List}
use native.Mathlib.Omega.{arith}
use borrow.Author.Tests.{lt-ltb, le-leb, eq-eqb}
use lib.Dec.{eqb}
use lib.ListN.{get_or, replicate, get_or-replicate}
use Rattle.octets.specs.Reading.{pick}
use Rattle.geo.proofs.Bools.{and_join}
use Rattle.certificate.specs.declared.certificates.Certificate.{Certificate}
use Rattle.bitfields.specs.Field.{Octets}
use Rattle.bitfields.specs.Zero.{zero_bits}
use Rattle.bitfields.proofs.Unused.{unused_zero_lem}
use Rattle.records.specs.Layout.{KIND, START, END, NAME_LENGTH, RECTANGLE_COUNT, PERMISSION_COUNT, PADDING, value_of, slot_bits}
use Rattle.records.specs.Ranges.{InRange, Sized}
use Rattle.records.specs.Records.{image_of}
use Rattle.records.specs.declared.Record.{Record}
use Rattle.records.proofs.Fields.{image_long, image_issuer, image_state, image_kind, image_start, image_end, image_name_length, image_rectangle_count, image_permission_count, image_rectangle, image_padding}
use Rattle.records.proofs.Unused.{image_name_unused, image_permissions_unused, image_rectangles_unused}
use Rattle.validity.proofs.Each.{each_all}
use Rattle.validity.specs.Good.{good_kind, good_period, good_name, good_rectangle, rectangle_good, good_region, good_permissions, good_padding, good_record, good_slot, latest_end}
use Rattle.entries.specs.Standing.{Standing}
use Rattle.entries.specs.Stored.{record_from}
use Rattle.entries.proofs.Facts.{facts}
use Rattle.entries.proofs.Rules.{Rules, rules}

-- one of the three kinds
kind_test : (v : ℕ) (z : Bool) → (v ≡ 1) ⊎ ((v ≡ 2) ⊎ ((v ≡ 4) × (z ≡ true))) → eqb v 1 || eqb v 2 || (eqb v 4 && z) ≡ true
kind_test v z (inl e) = ap (λ (n : ℕ). eqb n 1 || eqb n 2 || (eqb n 4 && z)) e
kind_test v z (inr (inl e)) = ap (λ (n : ℕ). eqb n 1 || eqb n 2 || (eqb n 4 && z)) e
kind_test v z (inr (inr h)) = ap (λ (n : ℕ). eqb n 1 || eqb n 2 || (eqb n 4 && z)) h.0 ∙ h.1

module _ (r : Record) (ranged : InRange r) (fits : Sized r) (keeps : Rules r) where
  issuer_zero : r.issuer ≡ replicate 8 0 → zero_bits (image_of r) 64 64 ≡ true
  issuer_zero e =
      unused_zero_lem (image_of r) 64 8 8 0 (omega arith) (omega (arith, image_long r))
      (λ i a b. ap (λ (t : List ℕ). get_or t i 0) (image_issuer r ranged fits ∙ e) ∙ get_or-replicate 8 i 0 0 b)

  kind_good : good_kind (image_of r) ≡ true
  kind_good =
      let k : value_of (image_of r) KIND ≡ r.scope.kind = image_kind r ranged fits in
      kind_test (value_of (image_of r) KIND) (zero_bits (image_of r) 64 64)
      (elim keeps.kind [ inl e ↦ inl (k ∙ e) | inr (inl e) ↦ inr (inl (k ∙ e)) | inr (inr h) ↦ inr (inr (k ∙ h.0, issuer_zero h.1)) ])

  period_good : good_period (image_of r) ≡ true
  period_good =
      let a : value_of (image_of r) START ≡ r.scope.start = image_start r ranged fits in
      let b : value_of (image_of r) END ≡ r.scope.end = image_end r ranged fits in
      and_join _ _ (lt-ltb (value_of (image_of r) START) (value_of (image_of r) END) (omega (arith, keeps.start_before)))
      (le-leb (value_of (image_of r) END) latest_end (omega (arith, keeps.end_latest)))

  name_good : good_name (image_of r) ≡ true
  name_good =
      let n : ℕ = value_of (image_of r) NAME_LENGTH in
      let e : n ≡ r.name.length = image_name_length r ranged fits in
      let h : n ≤ 32 = omega (arith, keeps.name_short) in
      and_join _ _ (le-leb n 32 h) (image_name_unused r ranged fits n h (λ i a b. keeps.name_rest i (omega arith)))

  region_good : good_region (image_of r) ≡ true
  unfolding rectangle_good
  region_good =
      let n : ℕ = value_of (image_of r) RECTANGLE_COUNT in
      let e : n ≡ r.scope.region.count = image_rectangle_count r ranged fits in
      let h : n ≤ 4 = omega (arith, keeps.rectangles_few) in
      and_join _ _ (le-leb n 4 h)
      (and_join _ _
      (each_all (rectangle_good (image_of r)) n (λ i k. ap good_rectangle (image_rectangle r ranged fits i (omega arith)) ∙ keeps.rectangles_good i (omega arith)))
      (image_rectangles_unused r ranged fits n h (λ i a b. keeps.rectangles_rest i (omega arith))))

  permissions_good : good_permissions (image_of r) ≡ true
  permissions_good =
      let n : ℕ = value_of (image_of r) PERMISSION_COUNT in
      let e : n ≡ r.scope.permissions.count = image_permission_count r ranged fits in
      let h : n ≤ 16 = omega (arith, keeps.permissions_few) in
      and_join _ _ (le-leb n 16 h) (image_permissions_unused r ranged fits n h (λ i a b. keeps.permissions_rest i (omega arith)))

  padding_good : good_padding (image_of r) ≡ true
  padding_good = eq-eqb (value_of (image_of r) PADDING) 0 (image_padding r ranged fits)

  record_good : good_record (image_of r) ≡ true
  unfolding good_record
  record_good =
      and_join _ _ (and_join _ _ (and_join _ _ (and_join _ _ kind_good period_good) name_good) region_good) (and_join _ _ permissions_good padding_good)

  pub image_good : good_slot (image_of r) ≡ true
  unfolding good_slot
  image_good =
      ap (λ (n : ℕ). pick (eqb n 0) (zero_bits (image_of r) 0 slot_bits) (pick (eqb n 3) false (good_record (image_of r)))) (image_state r ranged fits ∙ keeps.held)
      ∙ record_good

pub good : (s : List ℕ) (c : Certificate) → Octets s → Standing s c → good_slot (image_of (record_from s c)) ≡ true
good s c o e = let f = facts s c o e in image_good (record_from s c) f.in_range_lem f.sized (rules s c o e)
