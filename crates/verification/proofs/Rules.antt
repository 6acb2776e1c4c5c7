-- The tests and the rules that they decide. Assumes nothing.
use mathlib.Core.Path.{◌≡◌, refl, sym, ap, subst, ◌∙◌}
use mathlib.Core.Logic.{inl, inr}
use mathlib.Core.Bool.{Bool, true, false, not, ◌&&◌}
use mathlib.Core.List.{List}
use Rattle.std.specs.Prelude.{Option, None, Some, IfSome}
use Prim.Native.Nat.{ℕ, ◌+◌, ◌-◌, ◌*◌, ◌≤◌, ◌<◌}
use native.Mathlib.Omega.{arith}
use borrow.Author.Tests.{leb-true, ltb-true, le-leb, lt-ltb, eqb-true, eq-eqb, ne_eqb, not-true}
use lib.Dec.{eqb}
use lib.ListN.{drop}
use Rattle.order.specs.Steps.{gives, run, Well, well, Gives}
use Rattle.order.proofs.Steps.{gives_exactly}
use Rattle.geo.proofs.Bools.{never, and_split, and_join}
use Rattle.octets.specs.Reading.{pick}
use Rattle.bitfields.specs.Field.{number, Octets}
use Rattle.bitfields.proofs.Octets.{octets_take, octets_drop}
use Rattle.headers.specs.declared.fields.Fields.{Fields}
use Rattle.message.specs.Messages.{Message}
use Rattle.scope.specs.Issued.{listed, Among}
use Rattle.scope.proofs.Sets.{listed_among, among_listed}
use Rattle.records.specs.Layout.{STATE, PADDING, value_of, slot_length}
use Rattle.records.specs.Records.{record_of, image_of}
use Rattle.records.specs.Ranges.{InRange, Sized}
use Rattle.records.specs.declared.Record.{Record}
use Rattle.records.proofs.Laws.{laws as record-laws}
use Rattle.store.specs.Slots.{slot_of, state_at, filled_at}
use Rattle.store.specs.Search.{find}
use Rattle.store.specs.Laws.{Holds}
use Rattle.store.proofs.Found.{find_none, found_to, found_from}
use Rattle.store.proofs.Stored.{slot_long}
use Rattle.validity.specs.Good.{good_kind, good_period, good_name, good_region, good_permissions, good_padding, good_record, good_slot}
use Rattle.validity.specs.Laws.{Valid}
use Rattle.chain.specs.Chains.{Sound, Chain}
use Rattle.chain.specs.Stored.{slot_or, issuer_in, followers}
use Rattle.store.specs.Withdrawn.{withdrawn_in}
use Rattle.geo.specs.declared.Position.{Position}
use Rattle.chain.proofs.Answers.{slot_given}
use Rattle.chain.proofs.Walks.{walk_gives, chain_map, sound_to, sound_from}
use Rattle.entries.specs.Stored.{part_of, record_from}
use Rattle.entries.proofs.Facts.{facts}
use Rattle.signing.specs.Fields.{generated, its_aid}
use Rattle.signing.specs.Times.{allowed_age, whole_second, unexpired, in_time}
use Rattle.signing.specs.Places.{position_of}
use Rattle.signing.specs.Copies.{comparing, copying}
use Rattle.signing.specs.Signers.{signing, subject_of, entitling}
use Rattle.verification.specs.Accepted.{Reads, Fresh, Unchanged, Signs, by_id, by_certificate}
use Rattle.store.proofs.Copied.{same_exactly}
use Rattle.verification.proofs.Reading.{carried_standing}
use Rattle.message.specs.Signers.{CARRIED}

differs : (n k : ℕ) → eqb n k ≡ false → ¬ (n ≡ k)
differs n k e z = never (sym e ∙ eq-eqb n k z)

-- ---- in time

fresh_to : (a b g : ℕ) → a - b + (b - a) ≤ g → Fresh a b g
fresh_to a b g h = (omega arith, omega arith)

fresh_from : (a b g : ℕ) → Fresh a b g → a - b + (b - a) ≤ g
fresh_from a b g h = omega (arith, h.0, h.1)

unexpired_to : (e : Option ℕ) (t : ℕ) → unexpired e t ≡ true → IfSome e (λ second. whole_second t < second)
unexpired_to None t h = tt
unexpired_to (Some second) t h = ltb-true _ _ h

unexpired_from : (e : Option ℕ) (t : ℕ) → IfSome e (λ second. whole_second t < second) → unexpired e t ≡ true
unexpired_from None t h = refl
unexpired_from (Some second) t h = lt-ltb _ _ h

module _ (f : Fields) (time age : ℕ) where
  pub time_to : in_time f time age ≡ true → Fresh (generated f) time (allowed_age age) × IfSome f.expiration (λ second. whole_second time < second)
  unfolding in_time
  time_to e = let h = and_split _ _ e in (fresh_to _ _ _ (leb-true _ _ h.0), unexpired_to f.expiration time h.1)

  pub time_from : Fresh (generated f) time (allowed_age age) → IfSome f.expiration (λ second. whole_second time < second) → in_time f time age ≡ true
  unfolding in_time
  time_from a e = and_join _ _ (le-leb _ _ (fresh_from _ _ _ a)) (unexpired_from f.expiration time e)

-- ---- a stored copy

-- a filled slot that keeps the rules has zero padding
record_padding : (l : List ℕ) → good_record l ≡ true → value_of l PADDING ≡ 0
unfolding good_record
record_padding l h =
    eqb-true (value_of l PADDING) 0
    (and_split (good_permissions l) (good_padding l) (and_split (good_kind l && good_period l && good_name l && good_region l) (good_permissions l && good_padding l) h).1).1

good_padding_lem : (l : List ℕ) → eqb (value_of l STATE) 0 ≡ false → good_slot l ≡ true → value_of l PADDING ≡ 0
unfolding good_slot
good_padding_lem l e g = by (eqb (value_of l STATE) 3) (rw e at g)
  where
    by : (b : Bool) → pick b false (good_record l) ≡ true → value_of l PADDING ≡ 0
    by true h = never h
    by false h = record_padding l h

not_empty : (b : Bool) → not b ≡ true → b ≡ false
not_empty true e = sym e
not_empty false e = refl

-- the octets of a filled slot are its record's image
slot_image : (l : List ℕ) (i : ℕ) → Octets l → Valid l → i < 64 → filled_at l i ≡ true → image_of (record_of (slot_of l i)) ≡ slot_of l i
unfolding state_at
slot_image l i o v h f =
    record-laws.image_back (slot_of l i) (octets_take slot_length (drop (i * slot_length) l) (octets_drop (i * slot_length) l o)) (slot_long l i v.size h)
    (good_padding_lem (slot_of l i) (not_empty _ f) (v.slots i h))

slot_of_lem : {i j : ℕ} → Some i ≡ Some j → i ≡ j
slot_of_lem {i} {j} e = ap (λ (o : Option ℕ). in_some o) e
  where
    in_some : Option ℕ → ℕ
    in_some None = i
    in_some (Some k) = k

module _ (store : List ℕ) (r : Record) (o : Octets store) (v : Valid store) (ranged : InRange r) (sized : Sized r) where
  pub copy_to : (w : Well) → run (copying store r) ≡ gives w → Unchanged store r
  copy_to w e =
      let g = (gives_exactly (copying store r) w).0 e in
      record { not_withdrawn = not-true _ g.0; same = by (find store (number r.id)) refl g.1 }
    where
      by : (s : Option ℕ) → find store (number r.id) ≡ s → Gives (comparing store r s) w → (i : ℕ) → Holds store (number r.id) i → record_of (slot_of store i) ≡ r
      by None f g i h = absurd (find_none store (number r.id) f i h.slot h.filled h.has_id_lem)
      by (Some j) f (same, q) i h =
          let here : i ≡ j = slot_of_lem (sym (found_from store (number r.id) i v.distinct h) ∙ f) in
          ap (λ (k : ℕ). record_of (slot_of store k)) here ∙ ap record_of ((same_exactly (slot_of store j) (image_of r)).0 same) ∙ record-laws.round_trip r ranged sized

  pub copy_from : Unchanged store r → run (copying store r) ≡ gives well
  copy_from u = (gives_exactly (copying store r) well).1 (ap not u.not_withdrawn, by (find store (number r.id)) refl)
    where
      by : (s : Option ℕ) → find store (number r.id) ≡ s → Gives (comparing store r s) well
      by None f = refl
      by (Some j) f =
          let h = found_to store (number r.id) j f in (
            (same_exactly (slot_of store j) (image_of r)).1 (sym (slot_image store j o v h.slot h.filled) ∙ ap image_of (u.same j h)),
            refl,
          )

-- ---- the signer

module _ (store octets : List ℕ) (m : Message) (os : Octets store) (oo : Octets octets) (v : Valid store) (read : Reads octets m) where
  abbrev carried_record : Record
  carried_record = record_from octets m.headers.signer.certificate

  pub signs_to : (r : Record) → run (signing store octets m) ≡ gives r → Signs store octets m r
  signs_to r e = by ((gives_exactly (signing store octets m) r).0 e)
    where
      by : Gives (signing store octets m) r → Signs store octets m r
      by (inl (c, (w, u, q))) =
          let form = eqb-true m.headers.signer.form CARRIED c in
          let f = facts octets m.headers.signer.certificate oo (carried_standing octets m oo read form) in
          subst (λ (s : Record). Signs store octets m s) (sym q) (by_certificate form (copy_to store carried_record os v f.in_range_lem f.sized w u))
      by (inr (c, (i, f, q))) =
          subst (λ (s : Record). Signs store octets m s) (sym q)
          (by_id i (differs m.headers.signer.form CARRIED c) (found_to store _ i (slot_given 7 (find store (number (part_of octets m.headers.signer.digest))) i f)))

  pub signs_from : (r : Record) → Signs store octets m r → run (signing store octets m) ≡ gives r
  signs_from _ (by_id i n h) =
      (gives_exactly (signing store octets m) (record_of (slot_of store i))).1
      (inr (ne_eqb _ _ n, (i, ap (slot_or 7) (found_from store (number (part_of octets m.headers.signer.digest)) i v.distinct h), refl)))
  signs_from _ (by_certificate form u) =
      let f = facts octets m.headers.signer.certificate oo (carried_standing octets m oo read form) in
      (gives_exactly (signing store octets m) carried_record).1
      (inl (eq-eqb _ _ form, (well, copy_from store carried_record os v f.in_range_lem f.sized u, refl)))

-- ---- what the signer may

module _ (store : List ℕ) (f : Fields) (own : Position) (r : Record) where
  abbrev chained : Type 0
  chained = Chain (issuer_in store) (Sound (withdrawn_in store) (whole_second (generated f)) (Some (position_of f.location own))) followers (subject_of r)

  pub entitled_to : (w : Well) → run (entitling store f own r) ≡ gives w → (r.scope.kind ≡ 1) × chained × Among (its_aid f) (listed r.scope.permissions)
  entitled_to w e = by ((gives_exactly (entitling store f own r) w).0 e)
    where
      by : Gives (entitling store f own r) w → (r.scope.kind ≡ 1) × chained × Among (its_aid f) (listed r.scope.permissions)
      by (k, (tt, walked, (aid, q))) = (
        eqb-true r.scope.kind 1 k,
        chain_map (issuer_in store) (sound_to _ _ _) ((walk_gives (issuer_in store) _ followers (subject_of r)).0 walked),
        listed_among (its_aid f) (listed r.scope.permissions) aid,
      )

  pub entitled_from : r.scope.kind ≡ 1 → chained → Among (its_aid f) (listed r.scope.permissions) → run (entitling store f own r) ≡ gives well
  entitled_from k c a =
      (gives_exactly (entitling store f own r) well).1 (
        eq-eqb _ _ k,
        (
          well,
          (walk_gives (issuer_in store) _ followers (subject_of r)).1 (chain_map (issuer_in store) (sound_from _ _ _) c),
          (among_listed (its_aid f) (listed r.scope.permissions) a, refl),
        ),
      )
