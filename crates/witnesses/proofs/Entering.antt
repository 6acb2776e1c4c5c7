-- What install and admit answer, but 16. Assumes nothing.
use Prim.Native.Nat.{ℕ}
use mathlib.Core.Path.{◌≡◌, refl, sym, ap, subst, ◌∙◌}
use mathlib.Core.Bool.{Bool, true, false}
use Rattle.std.specs.Prelude.{None, Some}
use mathlib.Core.List.{List, [], ◌∷◌}
use mathlib.Core.Logic.{◌≢◌}
use lib.Dec.{eqb}
use native.Mathlib.Omega.{arith}
use lib.ListN.{replicate}
use Rattle.order.specs.Steps.{run}
use Rattle.octets.specs.Numbers.{octet_at}
use Rattle.octets.specs.Elements.{exactly_at}
use Rattle.geo.specs.Area.{inside_of}
use Rattle.certificate.specs.Heads.{signer_at, kind_at, head_at}
use Rattle.certificate.specs.Certificates.{certificate_at}
use Rattle.certificate.specs.Operations.{whole, reading_of}
use Rattle.certificate.specs.declared.certificates.Certificate.{Certificate}
use Rattle.layout.specs.Fields.{fields_at}
use Rattle.bitfields.specs.Field.{number, digits_at, field, octets, with_digits}
use Rattle.bitfields.specs.Runs.{fields_of}
use Rattle.records.specs.Records.{region_of, permissions_of, scope_of, image_of, items_of}
use Rattle.records.specs.declared.Record.{Record}
use Rattle.store.specs.Slots.{with_slot, state_at, id_at}
use Rattle.store.specs.Search.{lowest_from, find, lowest_empty}
use Rattle.validity.specs.Each.{each_below}
use Rattle.validity.specs.Good.{rectangle_good, good_record, good_slot}
use Rattle.validity.specs.Valid.{slot_good, differs, fresh, valid_store}
use Rattle.entries.specs.Readable.{accepted}
use Rattle.entries.specs.Stored.{record_from}
use Rattle.admission.specs.Order.{wanted, absent, entered, installed, admitted}
use Rattle.admission.specs.Computed.{below_number, issuer_number, issuer_refusal, test_number, placed}
use Rattle.admission.proofs.Tests.{issuer_unknown, issuer_found, anchor_passes, issuer_asked, test_issuer, test_signature, test_passes}
use Rattle.admission.proofs.Entered.{placed_stops, placed_full, placed_slot, entered_unread, entered_kind, entered_placed}
use Rattle.witnesses.specs.Inputs.{anchor, anchor_id, pass, pass_id, empty, marked, chains, taken, gone_issuer, ticket_issuer, other_issuer, short_issuer, bay_issuer}
use Rattle.witnesses.specs.Table.{EachReached, unentered}
use Rattle.witnesses.proofs.Opened.{Open}
use Rattle.witnesses.proofs.Empty.{empty_open, empty_finds}
use Rattle.witnesses.proofs.Lone.{Image, lone, lone_open, lone_found, lone_none, gone_is, ticket_is, unpermitted_is, short_is, bounded_is}
use Rattle.witnesses.proofs.Walked.{chained_open, on_chains}
use Rattle.witnesses.proofs.Images.{chained, took, taken_is, gone, ticket, unpermitted, short, bounded}
use Rattle.witnesses.proofs.Kept.{anchor_at, anchor_kept, anchor_read, anchor_record, pass_at, pass_kept, pass_read, pass_record}
use Rattle.sample_stores.specs.Stores.{eight}
use Rattle.records.proofs.Numbers.{digits_put, run_put, items_put, image_put}
use Rattle.store.specs.Withdrawn.{withdrawn_in}

-- ---- before a record is made

pub short_store : EachReached (unentered [] [] 1)
unfolding entered run
short_store = (refl, (refl, tt))

pub bad_store : EachReached (unentered marked [] 2)
unfolding entered run marked valid_store each_below slot_good good_slot field digits_at number
bad_store = (refl, (refl, tt))

unread : (octets : List ℕ) (k : ℕ) → k ≡ (reading_of octets).number → ¬ (k ≡ 0) → EachReached (unentered empty octets k)
unread octets k e z = (
  sym (entered_unread true empty octets 1 empty_open.size empty_open.good k e z),
  (
    sym (entered_unread false empty octets 1 empty_open.size empty_open.good k e z),
    tt,
  ),
)

pub too_long : EachReached (unentered empty (replicate 1025 0) 3)
unfolding reading_of whole
too_long = unread (replicate 1025 0) 3 refl (omega arith)

pub cut : EachReached (unentered empty [] 4)
unfolding reading_of whole certificate_at head_at exactly_at octet_at
cut = unread [] 4 refl (omega arith)

pub paired : EachReached (unentered empty (0x02 ∷ 0x00 ∷ 0x01 ∷ []) 5)
unfolding reading_of whole certificate_at head_at exactly_at octet_at signer_at kind_at
paired = unread (0x02 ∷ 0x00 ∷ 0x01 ∷ []) 5 refl (omega arith)

pub version : EachReached (unentered empty (0x03 ∷ []) 6)
unfolding reading_of whole certificate_at head_at exactly_at octet_at
version = unread (0x03 ∷ []) 6 refl (omega arith)

pub pass_no_anchor : installed empty pass 1 ≡ (10, empty)
unfolding fields_at
pass_no_anchor = sym (entered_kind true empty pass 1 empty_open.size empty_open.good (pass_at 0) pass_read refl)

pub anchor_no_pass : admitted empty anchor 1 ≡ (10, empty)
unfolding fields_at
anchor_no_pass = sym (entered_kind false empty anchor 1 empty_open.size empty_open.good (anchor_at 0) anchor_read refl)

-- ---- by the record

module _ (root : Bool) (store octets : List ℕ) (verdict : ℕ) (o : Open store) (c : Certificate) (r : Record) (reads : reading_of octets ≡ accepted c)
    (is : record_from octets c ≡ r) (w : wanted root c.head.kind ≡ true) where
  as_record : entered root store octets verdict ≡ placed root store r verdict
  as_record = sym (entered_placed root store octets verdict o.size o.good c reads w) ∙ ap (λ (q : Record). placed root store q verdict) is

  pub stops : (k : ℕ) → k ≡ test_number root store r verdict → ¬ (k ≡ 0) → entered root store octets verdict ≡ (k, store)
  stops k e z = as_record ∙ sym (placed_stops root store r verdict k e z)

  pub full_at : test_number root store r verdict ≡ 0 → lowest_empty store ≡ None → entered root store octets verdict ≡ (16, store)
  full_at e n = as_record ∙ sym (placed_full root store r verdict e n)

  pub goes_to : test_number root store r verdict ≡ 0 → (i : ℕ) → lowest_empty store ≡ Some i → entered root store octets verdict ≡ (0, with_slot store i (image_of r))
  goes_to e i n = as_record ∙ sym (placed_slot root store r verdict e i n)

pub took_open : Open took
unfolding took image_put items_of items_put run_put digits_put with_digits octets state_at id_at field digits_at number valid_store each_below slot_good good_slot good_record rectangle_good fresh differs
took_open = record { size = refl; good = refl }

anchor_taken_test : ◌≡◌ {A = ℕ} 17 (test_number true took anchor_kept 1)
unfolding took image_put items_of items_put run_put digits_put with_digits octets test_number run find lowest_from state_at id_at field digits_at number fields_of region_of permissions_of scope_of inside_of
anchor_taken_test = refl

anchor_taken : installed took anchor 1 ≡ (17, took)
unfolding fields_at
anchor_taken = stops true took anchor 1 took_open (anchor_at 0) anchor_kept anchor_read anchor_record refl 17 anchor_taken_test (omega arith)

pass_taken_test : ◌≡◌ {A = ℕ} 17 (test_number false took pass_kept 1)
unfolding took image_put items_of items_put run_put digits_put with_digits octets test_number run find lowest_from state_at id_at field digits_at number fields_of region_of permissions_of scope_of inside_of
pass_taken_test = refl

pass_taken : admitted took pass 1 ≡ (17, took)
unfolding fields_at
pass_taken = stops false took pass 1 took_open (pass_at 0) pass_kept pass_read pass_record refl 17 pass_taken_test (omega arith)

pub both_taken : (installed taken anchor 1 ≡ (17, taken)) × (admitted taken pass 1 ≡ (17, taken))
both_taken = subst (λ (s : List ℕ). (installed s anchor 1 ≡ (17, s)) × (admitted s pass 1 ≡ (17, s))) (sym taken_is) (anchor_taken, pass_taken)

-- ---- the anchor, in the empty store

anchor_new : absent (find empty (number anchor_id)) ≡ true
anchor_new = ap absent (empty_finds (number anchor_id))

pub anchor_unverified : installed empty anchor 0 ≡ (15, empty)
unfolding fields_at
anchor_unverified =
    stops true empty anchor 0 empty_open (anchor_at 0) anchor_kept anchor_read anchor_record refl 15
    (test_signature true empty anchor_kept 0 anchor_new (sym (anchor_passes true empty anchor_kept refl)) refl) (omega arith)

empty_slot : lowest_empty empty ≡ Some 0
unfolding empty lowest_empty lowest_from state_at field digits_at number
empty_slot = refl

pub anchor_installed : installed empty anchor 1 ≡ (0, with_slot empty 0 (image_of anchor_kept))
unfolding fields_at
anchor_installed =
    goes_to true empty anchor 1 empty_open (anchor_at 0) anchor_kept anchor_read anchor_record refl
    (sym (test_passes true empty anchor_kept 1 anchor_new (sym (anchor_passes true empty anchor_kept refl)) refl)) 0 empty_slot

-- ---- the ticket, by its issuer

module _ (store : List ℕ) (verdict : ℕ) (new : find store (number pass_id) ≡ None) where
  -- the tests of the issuer decide
  by_issuer : (k : ℕ) → issuer_number store (number (eight 0x02)) pass_kept.scope ≡ k → ¬ (k ≡ 0) → k ≡ test_number false store pass_kept verdict
  by_issuer k e z =
      let f : issuer_refusal false store pass_kept ≡ k = sym (issuer_asked false store pass_kept refl) ∙ e in
      sym f ∙ test_issuer false store pass_kept verdict (ap absent new) (λ t. z (sym f ∙ t))

  module _ (i : ℕ) (at : find store (number (eight 0x02)) ≡ Some i) where
    pub by_slot : (k : ℕ) → below_number store pass_kept.scope i ≡ k → ¬ (k ≡ 0) → k ≡ test_number false store pass_kept verdict
    by_slot k e z = by_issuer k (sym (issuer_found store (number (eight 0x02)) pass_kept.scope i at) ∙ e) z

    issuer_passing : below_number store pass_kept.scope i ≡ 0 → issuer_refusal false store pass_kept ≡ 0
    issuer_passing e = sym (issuer_asked false store pass_kept refl) ∙ sym (issuer_found store (number (eight 0x02)) pass_kept.scope i at) ∙ e

    pub by_verdict : below_number store pass_kept.scope i ≡ 0 → eqb verdict 1 ≡ false → ◌≡◌ {A = ℕ} 15 (test_number false store pass_kept verdict)
    by_verdict e v = test_signature false store pass_kept verdict (ap absent new) (issuer_passing e) v

    pub passing : below_number store pass_kept.scope i ≡ 0 → eqb verdict 1 ≡ true → test_number false store pass_kept verdict ≡ 0
    passing e v = sym (test_passes false store pass_kept verdict (ap absent new) (issuer_passing e) v)

pub no_issuer : admitted empty pass 1 ≡ (7, empty)
unfolding fields_at
no_issuer =
    stops false empty pass 1 empty_open (pass_at 0) pass_kept pass_read pass_record refl 7
    (by_issuer empty 1 (empty_finds (number pass_id)) 7 (sym (issuer_unknown empty (number (eight 0x02)) pass_kept.scope (empty_finds (number (eight 0x02))))) (omega arith))
    (omega arith)

two_pass : number (eight 0x02) ≢ number pass_id
unfolding number
two_pass e = omega (arith, e)

lone_stops : (l : List ℕ) → Image l (number (eight 0x02)) → (k : ℕ) → below_number (lone l) pass_kept.scope 0 ≡ k → ¬ (k ≡ 0) → admitted (lone l) pass 1 ≡ (k, lone l)
unfolding fields_at
lone_stops l h k e z =
    stops false (lone l) pass 1 (lone_open l (number (eight 0x02)) h) (pass_at 0) pass_kept pass_read pass_record refl k
    (by_slot (lone l) 1 (lone_none l (number (eight 0x02)) h (number pass_id) two_pass) 0 (lone_found l (number (eight 0x02)) h) k e z) z

gone_kept : Image gone (number (eight 0x02))
unfolding gone image_put items_of items_put run_put digits_put with_digits octets state_at id_at field digits_at number each_below good_slot good_record rectangle_good
gone_kept = record { long = refl; good = refl; filled = refl; has_id_lem = refl }

gone_below : below_number (lone gone) pass_kept.scope 0 ≡ 8
unfolding gone image_put items_of items_put run_put digits_put with_digits octets empty below_number run state_at field digits_at number fields_of region_of permissions_of scope_of inside_of withdrawn_in find lowest_from id_at
gone_below = refl

pub gone_reached : admitted gone_issuer pass 1 ≡ (8, gone_issuer)
gone_reached = subst (λ (s : List ℕ). admitted s pass 1 ≡ (8, s)) (sym gone_is) (lone_stops gone gone_kept 8 gone_below (omega arith))

ticket_kept : Image ticket (number (eight 0x02))
unfolding ticket image_put items_of items_put run_put digits_put with_digits octets state_at id_at field digits_at number each_below good_slot good_record rectangle_good
ticket_kept = record { long = refl; good = refl; filled = refl; has_id_lem = refl }

ticket_below : below_number (lone ticket) pass_kept.scope 0 ≡ 10
unfolding ticket image_put items_of items_put run_put digits_put with_digits octets empty below_number run state_at field digits_at number fields_of region_of permissions_of scope_of inside_of withdrawn_in find lowest_from id_at
ticket_below = refl

pub ticket_reached : admitted ticket_issuer pass 1 ≡ (10, ticket_issuer)
ticket_reached = subst (λ (s : List ℕ). admitted s pass 1 ≡ (10, s)) (sym ticket_is) (lone_stops ticket ticket_kept 10 ticket_below (omega arith))

unpermitted_kept : Image unpermitted (number (eight 0x02))
unfolding unpermitted image_put items_of items_put run_put digits_put with_digits octets state_at id_at field digits_at number each_below good_slot good_record rectangle_good
unpermitted_kept = record { long = refl; good = refl; filled = refl; has_id_lem = refl }

unpermitted_below : below_number (lone unpermitted) pass_kept.scope 0 ≡ 11
unfolding unpermitted image_put items_of items_put run_put digits_put with_digits octets empty below_number run state_at field digits_at number fields_of region_of permissions_of scope_of inside_of withdrawn_in find lowest_from id_at
unpermitted_below = refl

pub unpermitted_reached : admitted other_issuer pass 1 ≡ (11, other_issuer)
unpermitted_reached = subst (λ (s : List ℕ). admitted s pass 1 ≡ (11, s)) (sym unpermitted_is) (lone_stops unpermitted unpermitted_kept 11 unpermitted_below (omega arith))

short_kept : Image short (number (eight 0x02))
unfolding short image_put items_of items_put run_put digits_put with_digits octets state_at id_at field digits_at number each_below good_slot good_record rectangle_good
short_kept = record { long = refl; good = refl; filled = refl; has_id_lem = refl }

short_below : below_number (lone short) pass_kept.scope 0 ≡ 12
unfolding short image_put items_of items_put run_put digits_put with_digits octets empty below_number run state_at field digits_at number fields_of region_of permissions_of scope_of inside_of withdrawn_in find lowest_from id_at
short_below = refl

pub short_reached : admitted short_issuer pass 1 ≡ (12, short_issuer)
short_reached = subst (λ (s : List ℕ). admitted s pass 1 ≡ (12, s)) (sym short_is) (lone_stops short short_kept 12 short_below (omega arith))

bounded_kept : Image bounded (number (eight 0x02))
unfolding bounded image_put items_of items_put run_put digits_put with_digits octets state_at id_at field digits_at number each_below good_slot good_record rectangle_good
bounded_kept = record { long = refl; good = refl; filled = refl; has_id_lem = refl }

bounded_below : below_number (lone bounded) pass_kept.scope 0 ≡ 13
unfolding bounded image_put items_of items_put run_put digits_put with_digits octets empty below_number run state_at field digits_at number fields_of region_of permissions_of scope_of inside_of withdrawn_in find lowest_from id_at
bounded_below = refl

pub bounded_reached : admitted bay_issuer pass 1 ≡ (13, bay_issuer)
bounded_reached = subst (λ (s : List ℕ). admitted s pass 1 ≡ (13, s)) (sym bounded_is) (lone_stops bounded bounded_kept 13 bounded_below (omega arith))

-- ---- the ticket, in `chains`

pub pass_new : find chained (number pass_id) ≡ None
unfolding chained image_put items_of items_put run_put digits_put with_digits octets find lowest_from state_at id_at field digits_at number
pass_new = refl

issuer_slot : find chained (number (eight 0x02)) ≡ Some 1
unfolding chained image_put items_of items_put run_put digits_put with_digits octets find lowest_from state_at id_at field digits_at number
issuer_slot = refl

issuer_below : below_number chained pass_kept.scope 1 ≡ 0
unfolding chained image_put items_of items_put run_put digits_put with_digits octets below_number run state_at field digits_at number fields_of region_of permissions_of scope_of inside_of withdrawn_in find lowest_from id_at
issuer_below = refl

chained_slot : lowest_empty chained ≡ Some 12
unfolding chained image_put items_of items_put run_put digits_put with_digits octets lowest_empty lowest_from state_at field digits_at number
chained_slot = refl

pub pass_unverified : admitted chains pass 0 ≡ (15, chains)
unfolding fields_at
pass_unverified =
    on_chains (λ s. admitted s pass 0 ≡ (15, s))
    (stops false chained pass 0 chained_open (pass_at 0) pass_kept pass_read pass_record refl 15 (by_verdict chained 0 pass_new 1 issuer_slot issuer_below refl) (omega arith))

pub pass_admitted : admitted chains pass 1 ≡ (0, with_slot chains 12 (image_of pass_kept))
unfolding fields_at
pass_admitted =
    on_chains (λ s. admitted s pass 1 ≡ (0, with_slot s 12 (image_of pass_kept)))
    (goes_to false chained pass 1 chained_open (pass_at 0) pass_kept pass_read pass_record refl (passing chained 1 pass_new 1 issuer_slot issuer_below refl) 12 chained_slot)
