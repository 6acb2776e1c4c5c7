-- The headers after the signer are read exactly. Assumes nothing.
use Prim.Native.Nat.{ℕ, ◌^◌, ◌<◌}
use mathlib.Core.Path.{◌≡◌, refl, ap}
use mathlib.Core.List.{List, [], ◌++◌, append-nil}
use mathlib.Core.Option.{Option, none, some}
use lib.ListN.{length, get_or}
use Rattle.octets.specs.Reading.{got, bind}
use Rattle.octets.specs.Numbers.{intx_at}
use Rattle.std.specs.Prelude.{None, Option as OptionRead}
use Rattle.headers.specs.Times.{generation_at, deviation_at, expiration_at}
use Rattle.headers.specs.Locations.{location_at}
use Rattle.headers.specs.Digests.{digests_at}
use Rattle.headers.specs.Aids.{aid_at}
use Rattle.headers.specs.Fields.{stray_of, fields_in}
use Rattle.headers.specs.declared.fields.Fields.{Fields}
use Rattle.writing.specs.Written.{intx_octets}
use Rattle.writing.specs.Elements.{begins, IfThere, element_octets, element_value}
use Rattle.writing.specs.Exactly.{Exact, ExactBefore}
use Rattle.writing.proofs.Intx.{intx_exact}
use Rattle.writing.proofs.Alternatives.{optional_exact}
use Rattle.writing.proofs.Elements.{may_follow, begins_append, begins_element}
use Rattle.writing.proofs.Sequences.{seq, last, end}
use Rattle.writing.proofs.Shapes.{before, exactly, reshape_before}
use Rattle.layout.specs.WellFormed.{Time32}
use Rattle.message_layout.specs.Contents.{Deviation, Location}
use Rattle.message_layout.specs.WellFormed.{Time64, WellFormedDeviation, WellFormedLocation, WellFormedDigests}
use Rattle.message_layout.specs.Layout.{generation_octets, deviation_octets, expiration_octets, location_octets, digest_octets, digests_octets}
use Rattle.message_layout.specs.Fields.{option_fields, number_fields, location_fields}
use Rattle.message_layout.proofs.Times.{generation_exact, deviation_exact, expiration_exact}
use Rattle.message_layout.proofs.Locations.{location_exact}
use Rattle.message_layout.proofs.Digests.{digests_exact}

-- what a vector gives that may lack required headers
pub record Given : Type 0 where
  pub generation : Option ℕ
  pub deviation : Option Deviation
  pub expiration : Option ℕ
  pub location : Option Location
  pub digests : Option (List (List ℕ))
  pub aid : Option ℕ

pub record WellFormedGiven (x : Given) : Type 0 where
  pub generation : IfThere Time64 x.generation
  pub deviation : IfThere WellFormedDeviation x.deviation
  pub expiration : IfThere Time32 x.expiration
  pub location : IfThere WellFormedLocation x.location
  pub digests : IfThere (λ ds. WellFormedDigests ds × (length (digest_octets ds) < 2 ^ 28)) x.digests
  pub aid : IfThere (λ v. v < 2 ^ 28) x.aid

abbrev pub given_octets : Given → List ℕ
given_octets x =
    element_octets 0 generation_octets x.generation
    ++ (element_octets 1 deviation_octets x.deviation
    ++ (element_octets 2 expiration_octets x.expiration
    ++ (element_octets 3 location_octets x.location
    ++ (element_octets 4 digests_octets x.digests
    ++ element_octets 5 intx_octets x.aid))))

-- its position does not matter
option_anywhere : {A X : Type 0} (value : X → OptionRead A) (at : ℕ) (z : Option X) → element_value None (λ at. value) at z ≡ option_fields value z
option_anywhere value at none = refl
option_anywhere value at (some x) = refl

abbrev pub given_fields : Given → Fields
given_fields x =
    record {
      generation = option_fields number_fields x.generation;
      expiration = option_fields number_fields x.expiration;
      location = option_fields location_fields x.location;
      aid = option_fields number_fields x.aid;
    }

aid_exact : Exact (λ v. v < 2 ^ 28) intx_octets (λ at. number_fields) (λ s b. bind (intx_at s b) (λ value next. got (number_fields value) next))
aid_exact = exactly (last (λ a value n. number_fields value) (before intx_exact)) (λ x rest g. tt)

-- nothing follows them in their container
pub fields_exact : ExactBefore WellFormedGiven given_octets (λ at. given_fields) (λ x rest. rest ≡ []) fields_in
unfolding fields_in generation_at deviation_at expiration_at location_at digests_at aid_at
fields_exact =
    reshape_before (seq _ (optional_exact 0 None generation_exact) (λ at t g.
    seq _ (optional_exact 1 0 deviation_exact) (λ a d h.
    seq _ (optional_exact 2 None expiration_exact) (λ b e i.
    seq _ (optional_exact 3 None location_exact) (λ c l j.
    seq _ (optional_exact 4 0 digests_exact) (λ p ds k.
    seq _ (optional_exact 5 None aid_exact) (λ q v m.
    end (λ s n. stray_of (get_or s n 0)) (λ n. record {
      generation = element_value None (λ at. number_fields) at t;
      expiration = element_value None (λ at. number_fields) b e;
      location = element_value None (λ at. location_fields) c l;
      aid = element_value None (λ at. number_fields) q v;
    }))))))))
    (record {
      to = λ x. (x.generation, (x.deviation, (x.expiration, (x.location, (x.digests, (x.aid, tt))))));
      good = λ x g. (g.generation, (g.deviation, (g.expiration, (g.location, (g.digests, (g.aid, tt))))));
      writes = λ x g. simp append-nil;
      values = λ at x g. simp option_anywhere;
      onto = λ x g. (
        record { generation = x.0; deviation = x.1.0; expiration = x.1.1.0; location = x.1.1.1.0; digests = x.1.1.1.1.0; aid = x.1.1.1.1.1.0 },
        record { generation = g.0; deviation = g.1.0; expiration = g.1.1.0; location = g.1.1.1.0; digests = g.1.1.1.1.0; aid = g.1.1.1.1.1.0 },
        refl,
      );
    })
    (λ x rest g. (
      (λ e. (
        may_follow 0 x.generation _ (search (begins_append, begins_element, ap (begins 0) e) depth 12),
        (
          may_follow 1 x.deviation _ (search (begins_append, begins_element, ap (begins 1) e) depth 12),
          (
            may_follow 2 x.expiration _ (search (begins_append, begins_element, ap (begins 2) e) depth 12),
            (
              may_follow 3 x.location _ (search (begins_append, begins_element, ap (begins 3) e) depth 12),
              (
                may_follow 4 x.digests _ (search (begins_append, begins_element, ap (begins 4) e) depth 12),
                (may_follow 5 x.aid _ (ap (begins 5) e), e),
              ),
            ),
          ),
        ),
      )),
      (λ f. f.1.1.1.1.1.1),
    ))
