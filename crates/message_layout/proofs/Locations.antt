-- Locations are read exactly. Assumes nothing.
use mathlib.Core.Path.{refl}
use Rattle.std.specs.Prelude.{Some}
use native.Mathlib.Omega.{arith}
use Rattle.octets.specs.Coordinates.{latitude_limit, longitude_limit}
use Rattle.octets.specs.Reading.{got, bind}
use Rattle.headers.specs.Locations.{place_at}
use Rattle.writing.specs.Exactly.{Exact}
use Rattle.writing.proofs.Coordinates.{latitude_exact, longitude_exact}
use Rattle.writing.proofs.Vectors.{run_exact}
use Rattle.writing.proofs.Sequences.{seq, last}
use Rattle.writing.proofs.Shapes.{before, exactly, reshape}
use Rattle.layout.proofs.Tests.{within_test, test_within}
use Rattle.message_layout.specs.WellFormed.{WellFormedLocation}
use Rattle.message_layout.specs.Layout.{location_octets}
use Rattle.message_layout.specs.Fields.{place_fields, location_fields}

pub place_exact : Exact WellFormedLocation location_octets (λ at. place_fields) place_at
unfolding place_at
place_exact =
    reshape (exactly (seq _ (before latitude_exact) (λ at latitude g.
    seq _ (before longitude_exact) (λ a longitude h.
    last (λ b elevation n. record { latitude = latitude; longitude = longitude }) (before (run_exact 2 (omega arith)))))) (λ p rest g. (tt, (tt, tt))))
    (record {
      to = λ l. (l.latitude, (l.longitude, l.elevation));
      good = λ l g. (within_test latitude_limit l.latitude g.latitude, (within_test longitude_limit l.longitude g.longitude, g.elevation));
      writes = λ l g. refl;
      values = λ at l g. refl;
      onto = λ x g. (
        record { latitude = x.0; longitude = x.1.0; elevation = x.1.1 },
        record { latitude = test_within latitude_limit x.0 g.0; longitude = test_within longitude_limit x.1.0 g.1.0; elevation = g.1.1 },
        refl,
      );
    })

pub location_exact : Exact WellFormedLocation location_octets (λ at. location_fields) (λ s b. bind (place_at s b) (λ place next. got (Some place) next))
location_exact = exactly (last (λ a place n. Some place) (before place_exact)) (λ x rest g. tt)
