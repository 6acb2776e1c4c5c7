-- What is answered where the message carries its signer's certificate. Assumes nothing.
use Prim.Native.Nat.{ℕ, ◌+◌}
use mathlib.Core.Path.{◌≡◌, refl, sym, ap, subst, ◌∙◌}
use mathlib.Core.Bool.{true, false, not}
use Rattle.std.specs.Prelude.{Option, None, Some}
use mathlib.Core.List.{List}
use lib.ListN.{replicate}
use Rattle.order.specs.Steps.{Answer, gives, refused, done, take, run, first_of, Well, well}
use Rattle.order.proofs.Steps.{passes, fails, takes}
use Rattle.octets.specs.Items.{items_from}
use Rattle.octets.specs.Numbers.{big_endian_on, leading_ones, octet_at, unsigned_at, intx_at}
use Rattle.octets.specs.Elements.{exactly_at}
use Rattle.octets.specs.Reading.{got}
use Rattle.octets.specs.Vectors.{span_at, run_at, part, nowhere}
use Rattle.geo.specs.Area.{inside_of, in_region}
use Rattle.attributes.specs.Points.{point_at}
use Rattle.attributes.specs.Keys.{verification_key_at, encryption_key_at}
use Rattle.attributes.specs.Assurances.{assurance_at}
use Rattle.attributes.specs.Permissions.{ssp_at, permission_at, permissions_in, list_at}
use Rattle.attributes.specs.Vector.{attributes_in}
use Rattle.restrictions.specs.Periods.{until_at, between_at, period_at}
use Rattle.restrictions.specs.Rectangles.{everywhere}
use Rattle.restrictions.specs.Areas.{area_at}
use Rattle.restrictions.specs.Vector.{restrictions_in}
use Rattle.certificate.specs.Heads.{signer_at as headSigner, kind_at, name_at, head_at}
use Rattle.certificate.specs.Bodies.{attributes_at, restrictions_at}
use Rattle.certificate.specs.Signatures.{signature_at}
use Rattle.certificate.specs.Certificates.{certificate_at}
use Rattle.certificate.specs.declared.certificates.Certificate.{Certificate}
use Rattle.headers.specs.Times.{generation_at, deviation_at, expiration_at}
use Rattle.headers.specs.Locations.{location_at}
use Rattle.headers.specs.Digests.{digests_at}
use Rattle.headers.specs.Aids.{aid_at}
use Rattle.headers.specs.Fields.{fields_in}
use Rattle.message.specs.Signers.{carried_at, signer_info_at, signer_at}
use Rattle.message.specs.Vectors.{headers_in, headers_at}
use Rattle.message.specs.Bodies.{payload_at, trailer_in, trailer_at}
use Rattle.message.specs.Messages.{Message, whole_message}
use Rattle.bitfields.specs.Field.{number, digits_at, field, octets, with_digits}
use Rattle.bitfields.specs.Runs.{fields_of}
use Rattle.records.specs.Records.{region_of, permissions_of, scope_of, record_of, items_of}
use Rattle.records.specs.declared.Record.{Record}
use Rattle.store.specs.Slots.{slot_of, state_at, id_at, issuer_at}
use Rattle.store.specs.Search.{lowest_from, find}
use Rattle.chain.specs.Walk.{walk}
use Rattle.chain.specs.Stored.{answered, subject_at, issuer_in}
use Rattle.store.specs.Withdrawn.{withdrawn_in}
use Rattle.entries.specs.Stored.{record_from}
use Rattle.writing.specs.Written.{big_endian_octets, intx_octets}
use Rattle.layout.specs.Layout.{written}
use Rattle.layout.specs.Fields.{fields_at}
use Rattle.signing.specs.Times.{allowed_age, in_time}
use Rattle.signing.specs.Places.{position_of}
use Rattle.signing.specs.Copies.{comparing, copying}
use Rattle.store.specs.Copies.{same_octets}
use Rattle.signing.specs.Signers.{subject_of, allowed}
use Rattle.verification.specs.Order.{own_position, Passed, passed, judging, question, decision, undecided, Prepared, preparation, certificate_question}
use Rattle.verification.specs.declared.judging.Situation.{Situation}
use Rattle.witnesses.specs.Inputs.{anchor, pass, pass_id, message, at}
use Rattle.witnesses.specs.Table.{EachReached, AllReached, unjudged, carried, copies}
use Rattle.witnesses.proofs.Opened.{Open, Allowed, by_signer, in_time_by, judged, decided, prepared, both}
use Rattle.witnesses.proofs.Walked.{chained_open, on_chains}
use Rattle.witnesses.proofs.Images.{chained, took, taken_is, same, same_image}
use Rattle.witnesses.proofs.Kept.{anchor_at, anchor_kept, anchor_carried_record, pass_at, pass_kept, pass_carried_record}
use Rattle.witnesses.proofs.Entering.{took_open, pass_new}
use Rattle.records.proofs.Numbers.{digits_put, run_put, items_put, image_put}
use Rattle.store.proofs.Found.{withdrawn_absent}

-- what is read of a message that carries this certificate, and whose payload starts here
abbrev message_of_lem : Certificate → ℕ → Message
message_of_lem c payload =
    record {
      headers = record {
        signer = record { form = 2; digest = nowhere; certificate = c };
        fields = record {
          generation = Some 220000000;
          expiration = None;
          location = None;
          aid = Some 36;
        };
      };
      payload = part payload 2;
      signed = part 0 (payload + 4);
      signature = record { form = 0; octets = part (payload + 4) 66 };
    }

anchor_message : whole_message (carried anchor) ≡ got (message_of_lem (anchor_at 5) 133) 203
unfolding anchor written fields_at message big_endian_octets intx_octets run whole_message headers_at headers_in signer_at signer_info_at carried_at fields_in generation_at deviation_at expiration_at location_at digests_at aid_at payload_at trailer_at trailer_in signature_at point_at span_at run_at intx_at octet_at unsigned_at exactly_at big_endian_on leading_ones in_time allowed_age head_at headSigner kind_at name_at attributes_at attributes_in verification_key_at encryption_key_at assurance_at list_at permissions_in permission_at ssp_at restrictions_at restrictions_in period_at until_at between_at area_at everywhere items_from certificate_at
anchor_message = refl

pass_message : whole_message (carried pass) ≡ got (message_of_lem (pass_at 5) 146) 216
unfolding pass written fields_at message big_endian_octets intx_octets run whole_message headers_at headers_in signer_at signer_info_at carried_at fields_in generation_at deviation_at expiration_at location_at digests_at aid_at payload_at trailer_at trailer_in signature_at point_at span_at run_at intx_at octet_at unsigned_at exactly_at big_endian_on leading_ones in_time allowed_age head_at headSigner kind_at name_at attributes_at attributes_in verification_key_at encryption_key_at assurance_at list_at permissions_in permission_at ssp_at restrictions_at restrictions_in period_at until_at between_at area_at everywhere items_from certificate_at
pass_message = refl

-- the tests of a message with this signer, after those of a stored copy
abbrev behind : List ℕ → Situation → Message → Record → Answer Well → Answer Passed
behind store x m r copy = run (take (run (take (run (take copy (λ w. done r))) (allowed store m.headers.fields (own_position x)))) (λ q. done (passed m q)))

judged_behind : (store octets : List ℕ) (x : Situation) → Open store → Allowed x → (c : Certificate) (payload end : ℕ)
    → whole_message octets ≡ got (message_of_lem c payload) end → in_time (message_of_lem c payload).headers.fields x.time x.age ≡ true → (r : Record)
    → record_from octets c ≡ r → run (judging store octets x) ≡ behind store x (message_of_lem c payload) r (run (copying store r))
unfolding run withdrawn_in find lowest_from id_at state_at
judged_behind store octets x o a c payload end reads t r is =
    judged store octets x o a ∙ takes (ap answered reads) (in_time_by store octets x) ∙ passes t 14 (by_signer store octets x (message_of_lem c payload))
    ∙ ap (λ (q : Record). behind store x (message_of_lem c payload) q (run (copying store q))) is

copy_gone : run (copying took pass_kept) ≡ refused 8
unfolding run took image_put items_of items_put run_put digits_put with_digits octets withdrawn_in find lowest_from state_at id_at field digits_at number
copy_gone = refl

carried_gone : EachReached (unjudged took (carried pass) (at 220000000) 8)
unfolding in_time allowed_age run
carried_gone =
    both took (carried pass) (at 220000000) 8
    (judged_behind took (carried pass) (at 220000000) took_open (refl, refl) (pass_at 5) 146 216 pass_message refl pass_kept pass_carried_record
    ∙ ap (behind took (at 220000000) (message_of_lem (pass_at 5) 146) pass_kept) copy_gone)

-- the slot is not the image of the record
other_octets : same_octets (slot_of took 0) same ≡ false
unfolding took same image_put items_of items_put run_put digits_put with_digits octets same_octets
other_octets = refl

copy_found : find took (number anchor_kept.id) ≡ Some 0
unfolding took image_put items_of items_put run_put digits_put with_digits octets find lowest_from state_at id_at field digits_at number
copy_found = refl

copy_held : not (withdrawn_in took (number anchor_kept.id)) ≡ true
unfolding took image_put items_of items_put run_put digits_put with_digits octets withdrawn_in find lowest_from state_at id_at field digits_at number
copy_held = refl

copy_other : run (copying took anchor_kept) ≡ refused 9
copy_other =
    passes copy_held 8 (comparing took anchor_kept (find took (number anchor_kept.id)))
    ∙ ap (λ (i : Option ℕ). run (comparing took anchor_kept i)) copy_found
    ∙ fails (ap (same_octets (slot_of took 0)) same_image ∙ other_octets) 9 (done well)

carried_other : EachReached (unjudged took (carried anchor) (at 220000000) 9)
unfolding in_time allowed_age run
carried_other =
    both took (carried anchor) (at 220000000) 9
    (judged_behind took (carried anchor) (at 220000000) took_open (refl, refl) (anchor_at 5) 133 203 anchor_message refl anchor_kept anchor_carried_record
    ∙ ap (behind took (at 220000000) (message_of_lem (anchor_at 5) 133) anchor_kept) copy_other)

-- no slot of `chains` has its id
copy_none : run (copying chained pass_kept) ≡ gives well
unfolding run
copy_none =
    passes (ap not (withdrawn_absent chained (number pass_kept.id) pass_new)) 8 (comparing chained pass_kept (find chained (number pass_kept.id)))
    ∙ ap (λ (i : Option ℕ). run (comparing chained pass_kept i)) pass_new

pass_judged : run (judging chained (carried pass) (at 220000000)) ≡ behind chained (at 220000000) (message_of_lem (pass_at 5) 146) pass_kept (gives well)
unfolding in_time allowed_age
pass_judged =
    judged_behind chained (carried pass) (at 220000000) chained_open (refl, refl) (pass_at 5) 146 216 pass_message refl pass_kept pass_carried_record
    ∙ ap (behind chained (at 220000000) (message_of_lem (pass_at 5) 146) pass_kept) copy_none

accepted : decision chained (carried pass) (at 220000000) 1 1 ≡ record { number = 0; payload = part 146 2; signer = pass_id; permission = 36; generation = 220000000 }
unfolding run chained image_put items_of items_put run_put digits_put with_digits octets find lowest_from state_at id_at field digits_at number record_of fields_of region_of permissions_of scope_of subject_of issuer_at subject_at issuer_in withdrawn_in walk first_of inside_of in_region position_of
accepted = decided chained (carried pass) (at 220000000) _ pass_judged 1 1

uncertified : decision chained (carried pass) (at 220000000) 1 0 ≡ undecided 15
unfolding run chained image_put items_of items_put run_put digits_put with_digits octets find lowest_from state_at id_at field digits_at number record_of fields_of region_of permissions_of scope_of subject_of issuer_at subject_at issuer_in withdrawn_in walk first_of inside_of in_region position_of
uncertified = decided chained (carried pass) (at 220000000) _ pass_judged 1 0

abbrev questions : Prepared
questions =
    record {
      number = 0;
      message = question (part 0 150) (record { form = 2; octets = replicate 32 0 }) (part 150 66);
      certificate = question (part 5 62) (record { form = 2; octets = replicate 32 0 }) (part 67 66);
    }

asked : preparation chained (carried pass) (at 220000000) ≡ questions
unfolding run chained image_put items_of items_put run_put digits_put with_digits octets find lowest_from state_at id_at field digits_at number record_of fields_of region_of permissions_of scope_of subject_of issuer_at subject_at issuer_in withdrawn_in walk first_of inside_of in_region position_of certificate_question fields_at big_endian_octets intx_octets
asked = prepared chained (carried pass) (at 220000000) _ pass_judged

pub copies_reached : AllReached copies
copies_reached = (
  subst (λ (s : List ℕ). EachReached (unjudged s (carried pass) (at 220000000) 8)) (sym taken_is) carried_gone,
  (
    subst (λ (s : List ℕ). EachReached (unjudged s (carried anchor) (at 220000000) 9)) (sym taken_is) carried_other,
    (
      (
        on_chains (λ s. decision s (carried pass) (at 220000000) 1 1 ≡ record { number = 0; payload = part 146 2; signer = pass_id; permission = 36; generation = 220000000 }) accepted,
        (
          on_chains (λ s. decision s (carried pass) (at 220000000) 1 0 ≡ undecided 15) uncertified,
          (
            on_chains (λ s. preparation s (carried pass) (at 220000000) ≡ questions) asked,
            tt,
          ),
        ),
      ),
      tt,
    ),
  ),
)
