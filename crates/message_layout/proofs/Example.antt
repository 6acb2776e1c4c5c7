-- The worked example: antt computes what is written, and what is read of it. Assumes nothing.
use mathlib.Core.Path.{◌≡◌, refl}
use mathlib.Core.Logic.{inl, inr}
use native.Mathlib.Omega.{arith}
use lib.Signed.{le_z_yes}
use Rattle.octets.specs.Reading.{got}
use Rattle.octets.specs.Numbers.{big_endian_on, leading_ones, octet_at, unsigned_at, intx_at}
use Rattle.octets.specs.Elements.{exactly_at}
use Rattle.octets.specs.Vectors.{span_at, run_at}
use Rattle.octets.specs.Coordinates.{latitude_at, longitude_at}
use Rattle.attributes.specs.Points.{point_at}
use Rattle.certificate.specs.Signatures.{signature_at}
use Rattle.headers.specs.Times.{generation_at, deviation_at, expiration_at}
use Rattle.headers.specs.Locations.{place_at, location_at}
use Rattle.headers.specs.Digests.{digests_at}
use Rattle.headers.specs.Aids.{aid_at}
use Rattle.headers.specs.Fields.{fields_in}
use Rattle.message.specs.Signers.{named_at, signer_info_at, signer_at}
use Rattle.message.specs.Vectors.{headers_in, headers_at}
use Rattle.message.specs.Bodies.{payload_at, trailer_in, trailer_at}
use Rattle.message.specs.Messages.{whole_message}
use Rattle.writing.specs.Written.{big_endian_octets, intx_octets}
use Rattle.message_layout.specs.WellFormed.{WellFormed}
use Rattle.message_layout.specs.Layout.{written}
use Rattle.message_layout.specs.Example.{contents, octets, fields, Example}

well_formed : WellFormed contents
unfolding contents written big_endian_octets intx_octets
well_formed =
    record {
      signer = (refl, omega arith);
      generation = omega arith;
      deviation = record { time = omega arith; confidence = omega arith };
      expiration = omega arith;
      location = record { latitude = (le_z_yes tt, le_z_yes tt); longitude = (le_z_yes tt, le_z_yes tt); elevation = (refl, omega arith) };
      digests = ((refl, omega arith), ((refl, omega arith), tt));
      aid = omega arith;
      payload = omega arith;
      signature = record { type = inr (inl refl); r = (refl, omega arith); s = (refl, omega arith) };
      size = omega arith;
    }

layout : written contents ≡ octets
unfolding contents octets written big_endian_octets intx_octets
layout = refl

reading : whole_message octets ≡ got fields 136
unfolding octets fields whole_message headers_at headers_in signer_at signer_info_at named_at fields_in generation_at deviation_at expiration_at location_at place_at digests_at aid_at payload_at trailer_at trailer_in signature_at point_at latitude_at longitude_at span_at run_at intx_at octet_at unsigned_at exactly_at big_endian_on leading_ones
reading = refl

pub example : Example
example = record { well_formed = well_formed; layout = layout; reading = reading }
