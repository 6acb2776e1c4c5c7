-- What is answered on the empty store, and before it is looked at. Assumes nothing.
use Prim.Native.Nat.{ℕ, ◌<◌}
use mathlib.Core.Path.{◌≡◌, refl, sym, ◌∙◌}
use mathlib.Core.Bool.{true, false, not}
use Rattle.std.specs.Prelude.{Option, None, Some}
use mathlib.Core.List.{[], ◌∷◌}
use lib.ListN.{replicate}
use lib.IntN.{pos}
use Rattle.order.specs.Steps.{run}
use Rattle.octets.specs.Numbers.{big_endian_on, leading_ones, octet_at, unsigned_at, intx_at}
use Rattle.octets.specs.Elements.{exactly_at}
use Rattle.octets.specs.Vectors.{span_at, run_at}
use Rattle.bitfields.specs.Field.{number, digits_at, field}
use Rattle.store.specs.Slots.{state_at, filled_at}
use Rattle.store.specs.Search.{lowest_from, find}
use Rattle.store.proofs.Found.{find_finds}
use Rattle.geo.proofs.Bools.{never, of_not}
use Rattle.validity.proofs.Each.{each_true}
use Rattle.validity.specs.Each.{each_below}
use Rattle.validity.specs.Good.{good_slot}
use Rattle.validity.specs.Valid.{slot_good, fresh, valid_store}
use Rattle.attributes.specs.Points.{point_at}
use Rattle.certificate.specs.Signatures.{signature_at}
use Rattle.headers.specs.Times.{generation_at, deviation_at, expiration_at}
use Rattle.headers.specs.Locations.{location_at}
use Rattle.headers.specs.Digests.{digests_at}
use Rattle.headers.specs.Aids.{aid_at}
use Rattle.headers.specs.Fields.{fields_in}
use Rattle.message.specs.Signers.{named_at, signer_info_at, signer_at}
use Rattle.message.specs.Vectors.{headers_in, headers_at}
use Rattle.message.specs.Bodies.{payload_at, trailer_in, trailer_at}
use Rattle.message.specs.Messages.{whole_message}
use Rattle.writing.specs.Written.{big_endian_octets, intx_octets}
use Rattle.signing.specs.Times.{allowed_age, in_time}
use Rattle.verification.specs.Order.{situation}
use Rattle.witnesses.specs.Inputs.{empty, marked, named, message, at}
use Rattle.witnesses.specs.Table.{EachReached, AllReached, unjudged, early}
use Rattle.witnesses.proofs.Opened.{Open, judged, both}

pub empty_open : Open empty
unfolding empty valid_store each_below slot_good good_slot fresh state_at field digits_at number
empty_open = record { size = refl; good = refl }

-- no slot is filled, so that nothing is found
unfilled : each_below 64 (λ i. not (filled_at empty i)) ≡ true
unfolding empty each_below state_at field digits_at number
unfilled = refl

pub empty_states : (i : ℕ) → i < 64 → filled_at empty i ≡ false
empty_states i h = of_not (filled_at empty i) (each_true (λ j. not (filled_at empty j)) 64 unfilled i h)

pub empty_finds : (id : ℕ) → find empty id ≡ None
empty_finds id = by (find empty id) refl
  where
    by : (o : Option ℕ) → find empty id ≡ o → find empty id ≡ None
    by None e = e
    by (Some i) e = let f = find_finds empty id i e in absurd (never (sym (empty_states i f.0) ∙ f.1))

short_store : EachReached (unjudged [] [] (at 0) 1)
unfolding run
short_store = both [] [] (at 0) 1 refl

far_position : EachReached (unjudged empty [] (situation 0 (pos 900000001) (pos 0) 0) 1)
unfolding run empty
far_position = both empty [] (situation 0 (pos 900000001) (pos 0) 0) 1 refl

long_age : EachReached (unjudged empty [] (situation 0 (pos 0) (pos 0) 600000001) 1)
unfolding run empty
long_age = both empty [] (situation 0 (pos 0) (pos 0) 600000001) 1 refl

bad_store : EachReached (unjudged marked [] (at 0) 2)
unfolding run marked valid_store each_below slot_good good_slot field digits_at number
bad_store = both marked [] (at 0) 2 refl

long_message : EachReached (unjudged empty (replicate 2049 0) (at 0) 3)
unfolding run whole_message
long_message = both empty (replicate 2049 0) (at 0) 3 (judged empty (replicate 2049 0) (at 0) empty_open (refl, refl))

no_message : EachReached (unjudged empty [] (at 0) 4)
unfolding run whole_message exactly_at octet_at
no_message = both empty [] (at 0) 4 (judged empty [] (at 0) empty_open (refl, refl))

long_form : EachReached (unjudged empty (0x02 ∷ 0x80 ∷ 0x7F ∷ []) (at 0) 5)
unfolding run whole_message exactly_at octet_at headers_at span_at intx_at leading_ones big_endian_on
long_form = both empty (0x02 ∷ 0x80 ∷ 0x7F ∷ []) (at 0) 5 (judged empty (0x02 ∷ 0x80 ∷ 0x7F ∷ []) (at 0) empty_open (refl, refl))

version : EachReached (unjudged empty (0x03 ∷ []) (at 0) 6)
unfolding run whole_message exactly_at octet_at
version = both empty (0x03 ∷ []) (at 0) 6 (judged empty (0x03 ∷ []) (at 0) empty_open (refl, refl))

late : EachReached (unjudged empty (message (named 0x03) 7999999 36) (at 10000000) 14)
unfolding message big_endian_octets intx_octets run whole_message headers_at headers_in signer_at signer_info_at named_at fields_in generation_at deviation_at expiration_at location_at digests_at aid_at payload_at trailer_at trailer_in signature_at point_at span_at run_at intx_at octet_at unsigned_at exactly_at big_endian_on leading_ones in_time allowed_age
late = both empty (message (named 0x03) 7999999 36) (at 10000000) 14 (judged empty (message (named 0x03) 7999999 36) (at 10000000) empty_open (refl, refl))

stranger : EachReached (unjudged empty (message (named 0x03) 8000000 36) (at 10000000) 7)
unfolding message big_endian_octets intx_octets run whole_message headers_at headers_in signer_at signer_info_at named_at fields_in generation_at deviation_at expiration_at location_at digests_at aid_at payload_at trailer_at trailer_in signature_at point_at span_at run_at intx_at octet_at unsigned_at exactly_at big_endian_on leading_ones in_time allowed_age find lowest_from state_at field digits_at number empty
stranger = both empty (message (named 0x03) 8000000 36) (at 10000000) 7 (judged empty (message (named 0x03) 8000000 36) (at 10000000) empty_open (refl, refl))

pub early_reached : AllReached early
early_reached = (short_store, (far_position, (long_age, (bad_store, (long_message, (no_message, (long_form, (version, (late, (stranger, tt))))))))))
