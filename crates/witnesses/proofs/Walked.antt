-- What is answered by the stored certificates of `chains`: antt computes the definitions on its octets. Assumes nothing.
use Prim.Native.Nat.{ℕ}
use mathlib.Core.Path.{◌≡◌, refl, sym, subst}
use mathlib.Core.List.{List}
use lib.ListN.{replicate}
use Rattle.order.specs.Steps.{run, first_of}
use Rattle.octets.specs.Numbers.{big_endian_on, leading_ones, octet_at, unsigned_at, intx_at}
use Rattle.octets.specs.Elements.{exactly_at}
use Rattle.octets.specs.Vectors.{span_at, run_at, part}
use Rattle.geo.specs.Area.{inside_of, in_region}
use Rattle.bitfields.specs.Field.{number, digits_at, field, octets, with_digits}
use Rattle.bitfields.specs.Runs.{fields_of}
use Rattle.records.specs.Records.{region_of, permissions_of, scope_of, record_of, items_of}
use Rattle.store.specs.Slots.{state_at, id_at, issuer_at}
use Rattle.store.specs.Search.{lowest_from, find}
use Rattle.validity.specs.Each.{each_below}
use Rattle.validity.specs.Good.{rectangle_good, good_record, good_slot}
use Rattle.validity.specs.Valid.{slot_good, differs, fresh, valid_store}
use Rattle.chain.specs.Walk.{walk}
use Rattle.chain.specs.Stored.{subject_at, issuer_in}
use Rattle.store.specs.Withdrawn.{withdrawn_in}
use Rattle.attributes.specs.Points.{point_at}
use Rattle.certificate.specs.Signatures.{signature_at}
use Rattle.headers.specs.Times.{generation_at, deviation_at, expiration_at}
use Rattle.headers.specs.Locations.{location_at}
use Rattle.headers.specs.Digests.{digests_at}
use Rattle.headers.specs.Aids.{aid_at}
use Rattle.headers.specs.Fields.{fields_in}
use Rattle.message.specs.Signers.{named_at, signer_info_at, signer_at}
use Rattle.message.specs.Vectors.{headers_in, headers_at}
use Rattle.message.specs.Bodies.{payload_at, trailer_in, trailer_at}
use Rattle.message.specs.Messages.{whole_message}
use Rattle.writing.specs.Written.{big_endian_octets, intx_octets}
use Rattle.signing.specs.Times.{allowed_age, in_time}
use Rattle.signing.specs.Places.{position_of}
use Rattle.signing.specs.Signers.{subject_of}
use Rattle.verification.specs.Order.{question, unasked, decision, undecided, preparation, certificate_question}
use Rattle.witnesses.specs.Inputs.{chains, named, message, at}
use Rattle.witnesses.specs.Table.{EachReached, AllReached, unjudged, last, walked}
use Rattle.witnesses.proofs.Opened.{Open, later, judged, decided, prepared, both}
use Rattle.witnesses.proofs.Images.{chained, chains_are}
use Rattle.sample_stores.specs.Stores.{eight}
use Rattle.records.proofs.Numbers.{digits_put, run_put, items_put, image_put}

pub chained_open : Open chained
unfolding chained image_put items_of items_put run_put digits_put with_digits octets state_at id_at field digits_at number valid_store each_below slot_good good_slot good_record rectangle_good fresh differs
chained_open = record { size = refl; good = refl }

pub on_chains : (P : List ℕ → Type 0) → P chained → P chains
on_chains P p = subst P (sym chains_are) p

withdrawn : EachReached (unjudged chained (message (named 0x04) 220000000 36) (at 220000000) 8)
unfolding message big_endian_octets intx_octets run whole_message headers_at headers_in signer_at signer_info_at named_at fields_in generation_at deviation_at expiration_at location_at digests_at aid_at payload_at trailer_at trailer_in signature_at point_at span_at run_at intx_at octet_at unsigned_at exactly_at big_endian_on leading_ones in_time allowed_age chained image_put items_of items_put run_put digits_put with_digits octets find lowest_from state_at id_at field digits_at number record_of fields_of region_of permissions_of scope_of subject_of issuer_at subject_at issuer_in withdrawn_in walk first_of inside_of in_region position_of
withdrawn = both chained (message (named 0x04) 220000000 36) (at 220000000) 8 (judged chained (message (named 0x04) 220000000 36) (at 220000000) chained_open (refl, refl))

authority : EachReached (unjudged chained (message (named 0x02) 220000000 36) (at 220000000) 10)
unfolding message big_endian_octets intx_octets run whole_message headers_at headers_in signer_at signer_info_at named_at fields_in generation_at deviation_at expiration_at location_at digests_at aid_at payload_at trailer_at trailer_in signature_at point_at span_at run_at intx_at octet_at unsigned_at exactly_at big_endian_on leading_ones in_time allowed_age chained image_put items_of items_put run_put digits_put with_digits octets find lowest_from state_at id_at field digits_at number record_of fields_of region_of permissions_of scope_of subject_of issuer_at subject_at issuer_in withdrawn_in walk first_of inside_of in_region position_of
authority = both chained (message (named 0x02) 220000000 36) (at 220000000) 10 (judged chained (message (named 0x02) 220000000 36) (at 220000000) chained_open (refl, refl))

other_aid : EachReached (unjudged chained (message (named 0x03) 220000000 37) (at 220000000) 11)
unfolding message big_endian_octets intx_octets run whole_message headers_at headers_in signer_at signer_info_at named_at fields_in generation_at deviation_at expiration_at location_at digests_at aid_at payload_at trailer_at trailer_in signature_at point_at span_at run_at intx_at octet_at unsigned_at exactly_at big_endian_on leading_ones in_time allowed_age chained image_put items_of items_put run_put digits_put with_digits octets find lowest_from state_at id_at field digits_at number record_of fields_of region_of permissions_of scope_of subject_of issuer_at subject_at issuer_in withdrawn_in walk first_of inside_of in_region position_of
other_aid = both chained (message (named 0x03) 220000000 37) (at 220000000) 11 (judged chained (message (named 0x03) 220000000 37) (at 220000000) chained_open (refl, refl))

over : EachReached (unjudged chained (message (named 0x03) 300000000 36) (at 300000000) 12)
unfolding message big_endian_octets intx_octets run whole_message headers_at headers_in signer_at signer_info_at named_at fields_in generation_at deviation_at expiration_at location_at digests_at aid_at payload_at trailer_at trailer_in signature_at point_at span_at run_at intx_at octet_at unsigned_at exactly_at big_endian_on leading_ones in_time allowed_age chained image_put items_of items_put run_put digits_put with_digits octets find lowest_from state_at id_at field digits_at number record_of fields_of region_of permissions_of scope_of subject_of issuer_at subject_at issuer_in withdrawn_in walk first_of inside_of in_region position_of
over = both chained (message (named 0x03) 300000000 36) (at 300000000) 12 (judged chained (message (named 0x03) 300000000 36) (at 300000000) chained_open (refl, refl))

outside : EachReached (unjudged chained (message (named 0x05) 220000000 36) (at 220000000) 13)
unfolding message big_endian_octets intx_octets run whole_message headers_at headers_in signer_at signer_info_at named_at fields_in generation_at deviation_at expiration_at location_at digests_at aid_at payload_at trailer_at trailer_in signature_at point_at span_at run_at intx_at octet_at unsigned_at exactly_at big_endian_on leading_ones in_time allowed_age chained image_put items_of items_put run_put digits_put with_digits octets find lowest_from state_at id_at field digits_at number record_of fields_of region_of permissions_of scope_of subject_of issuer_at subject_at issuer_in withdrawn_in walk first_of inside_of in_region position_of
outside = both chained (message (named 0x05) 220000000 36) (at 220000000) 13 (judged chained (message (named 0x05) 220000000 36) (at 220000000) chained_open (refl, refl))

ninth : EachReached (unjudged chained (message (named 0x0C) 220000000 36) (at 220000000) 18)
unfolding message big_endian_octets intx_octets run whole_message headers_at headers_in signer_at signer_info_at named_at fields_in generation_at deviation_at expiration_at location_at digests_at aid_at payload_at trailer_at trailer_in signature_at point_at span_at run_at intx_at octet_at unsigned_at exactly_at big_endian_on leading_ones in_time allowed_age chained image_put items_of items_put run_put digits_put with_digits octets find lowest_from state_at id_at field digits_at number record_of fields_of region_of permissions_of scope_of subject_of issuer_at subject_at issuer_in withdrawn_in walk first_of inside_of in_region position_of
ninth = both chained (message (named 0x0C) 220000000 36) (at 220000000) 18 (judged chained (message (named 0x0C) 220000000 36) (at 220000000) chained_open (refl, refl))

accepted : decision chained last (at 300000000) 1 0 ≡ record { number = 0; payload = part 25 2; signer = eight 0x03; permission = 36; generation = 299000000 }
unfolding message big_endian_octets intx_octets run whole_message headers_at headers_in signer_at signer_info_at named_at fields_in generation_at deviation_at expiration_at location_at digests_at aid_at payload_at trailer_at trailer_in signature_at point_at span_at run_at intx_at octet_at unsigned_at exactly_at big_endian_on leading_ones in_time allowed_age chained image_put items_of items_put run_put digits_put with_digits octets find lowest_from state_at id_at field digits_at number record_of fields_of region_of permissions_of scope_of subject_of issuer_at subject_at issuer_in withdrawn_in walk first_of inside_of in_region position_of
accepted = decided chained last (at 300000000) (run (later chained last (at 300000000))) (judged chained last (at 300000000) chained_open (refl, refl)) 1 0

unsigned : decision chained last (at 300000000) 0 1 ≡ undecided 15
unfolding message big_endian_octets intx_octets run whole_message headers_at headers_in signer_at signer_info_at named_at fields_in generation_at deviation_at expiration_at location_at digests_at aid_at payload_at trailer_at trailer_in signature_at point_at span_at run_at intx_at octet_at unsigned_at exactly_at big_endian_on leading_ones in_time allowed_age chained image_put items_of items_put run_put digits_put with_digits octets find lowest_from state_at id_at field digits_at number record_of fields_of region_of permissions_of scope_of subject_of issuer_at subject_at issuer_in withdrawn_in walk first_of inside_of in_region position_of
unsigned = decided chained last (at 300000000) (run (later chained last (at 300000000))) (judged chained last (at 300000000) chained_open (refl, refl)) 0 1

asked : preparation chained last (at 300000000)
    ≡ record { number = 0; message = question (part 0 29) (record { form = 2; octets = replicate 32 0 }) (part 29 66); certificate = unasked }
unfolding message big_endian_octets intx_octets run whole_message headers_at headers_in signer_at signer_info_at named_at fields_in generation_at deviation_at expiration_at location_at digests_at aid_at payload_at trailer_at trailer_in signature_at point_at span_at run_at intx_at octet_at unsigned_at exactly_at big_endian_on leading_ones in_time allowed_age chained image_put items_of items_put run_put digits_put with_digits octets find lowest_from state_at id_at field digits_at number record_of fields_of region_of permissions_of scope_of subject_of issuer_at subject_at issuer_in withdrawn_in walk first_of inside_of in_region position_of certificate_question
asked = prepared chained last (at 300000000) (run (later chained last (at 300000000))) (judged chained last (at 300000000) chained_open (refl, refl))

pub walked_reached : AllReached walked
walked_reached = (
  on_chains (λ s. EachReached (unjudged s (message (named 0x04) 220000000 36) (at 220000000) 8)) withdrawn,
  (
    on_chains (λ s. EachReached (unjudged s (message (named 0x02) 220000000 36) (at 220000000) 10)) authority,
    (
      on_chains (λ s. EachReached (unjudged s (message (named 0x03) 220000000 37) (at 220000000) 11)) other_aid,
      (
        on_chains (λ s. EachReached (unjudged s (message (named 0x03) 300000000 36) (at 300000000) 12)) over,
        (
          on_chains (λ s. EachReached (unjudged s (message (named 0x05) 220000000 36) (at 220000000) 13)) outside,
          (
            on_chains (λ s. EachReached (unjudged s (message (named 0x0C) 220000000 36) (at 220000000) 18)) ninth,
            (
              (
                on_chains (λ s. decision s last (at 300000000) 1 0 ≡ record { number = 0; payload = part 25 2; signer = eight 0x03; permission = 36; generation = 299000000 }) accepted,
                (
                  on_chains (λ s. decision s last (at 300000000) 0 1 ≡ undecided 15) unsigned,
                  (
                    on_chains (λ s. preparation s last (at 300000000) ≡ record { number = 0; message = question (part 0 29) (record { form = 2; octets = replicate 32 0 }) (part 29 66); certificate = unasked }) asked,
                    tt,
                  ),
                ),
              ),
              tt,
            ),
          ),
        ),
      ),
    ),
  ),
)
