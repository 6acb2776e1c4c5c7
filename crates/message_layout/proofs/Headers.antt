-- The header vector is read exactly, and so is whether required headers are lacking. Assumes nothing.
use Prim.Native.Nat.{ℕ, ◌+◌, ◌^◌, ◌<◌}
use mathlib.Core.Path.{◌≡◌, refl, sym, ◌∙◌}
use mathlib.Core.Bool.{Bool, true, false, not, ◌&&◌}
use mathlib.Core.List.{List, ◌++◌, append-nil}
use mathlib.Core.Option.{Option, none, some}
use lib.Dec.{eqb}
use lib.ListN.{length}
use Rattle.std.specs.Prelude.{is_some}
use Rattle.message.specs.Signers.{unsigned}
use Rattle.message.specs.Vectors.{headers_in, headers_at, complete_headers}
use Rattle.message.specs.Vectors.{Headers}
use Rattle.writing.specs.Written.{intx_octets, vector_octets}
use Rattle.writing.specs.Elements.{IfThere, element_octets, element_value, NothingFollows}
use Rattle.writing.specs.Exactly.{Exact, ExactIn}
use Rattle.writing.proofs.Containers.{vector_end_exact}
use Rattle.writing.proofs.Sequences.{seq, last}
use Rattle.writing.proofs.Shapes.{contained, reshape_in}
use Rattle.message_layout.specs.Contents.{Signer, named, carried}
use Rattle.message_layout.specs.WellFormed.{WellFormedSigner}
use Rattle.message_layout.specs.Layout.{signer_octets}
use Rattle.message_layout.specs.Fields.{signer_fields, option_fields, number_fields}
use Rattle.message_layout.proofs.Fields as others
use Rattle.message_layout.proofs.Signers.{signer_exact}

-- what a vector gives that may lack required headers
pub record Given : Type 0 where
  pub signer : Option Signer
  pub fields : others.Given

pub record WellFormedGiven (x : Given) : Type 0 where
  pub signer : IfThere WellFormedSigner x.signer
  pub fields : others.WellFormedGiven x.fields
  pub alone : NothingFollows x.signer (others.given_octets x.fields)

abbrev pub given_octets : Given → List ℕ
given_octets x = element_octets 128 signer_octets x.signer ++ others.given_octets x.fields

abbrev pub given_fields : ℕ → Given → Headers
given_fields at x = record { signer = element_value unsigned signer_fields at x.signer; fields = others.given_fields x.fields }

nothing : {X : Type 0} (z : Option X) (rest more : List ℕ) → rest ≡ more → NothingFollows z rest → NothingFollows z more
nothing none rest more e h = sym e ∙ h
nothing (some x) rest more e h = tt

headers_exact : ExactIn WellFormedGiven given_octets given_fields headers_in
unfolding headers_in
headers_exact =
    reshape_in (contained (seq _ signer_exact (λ at signer g.
    last (λ a fields n. record { signer = element_value unsigned signer_fields at signer; fields = fields }) others.fields_exact)) (λ x rest f. f.1))
    (record {
      to = λ x. (x.signer, x.fields);
      good = λ x g. ((g.signer, g.fields), (nothing x.signer (others.given_octets x.fields) _ (sym (append-nil (others.given_octets x.fields))) g.alone, refl));
      writes = λ x g. refl;
      values = λ at x g. refl;
      onto = λ x g. (
        record { signer = x.0; fields = x.1 },
        record { signer = g.0.0; fields = g.0.1; alone = nothing x.0 _ (others.given_octets x.1) (append-nil (others.given_octets x.1)) g.1.0 },
        refl,
      );
    })

pub headers_at_exact : Exact (λ x. WellFormedGiven x × (length (given_octets x) < 2 ^ 28)) (λ x. vector_octets (given_octets x))
    (λ at x. given_fields (at + length (intx_octets (length (given_octets x)))) x) headers_at
unfolding headers_at
headers_at_exact = vector_end_exact headers_exact

abbrev there : {X : Type 0} → Option X → Bool
there none = false
there (some x) = true

-- signer, generation time and its_aid
abbrev pub required : Given → Bool
required x = there x.signer && there x.fields.generation && there x.fields.aid

signer_there : (at : ℕ) (z : Option Signer) → not (eqb (element_value unsigned signer_fields at z).form 0) ≡ there z
unfolding unsigned
signer_there at none = refl
signer_there at (some (named id)) = refl
signer_there at (some (carried x)) = refl

number_there : (z : Option ℕ) → is_some (option_fields number_fields z) ≡ there z
number_there none = refl
number_there (some n) = refl

pub headers_complete : (at : ℕ) (x : Given) → complete_headers (given_fields at x) ≡ required x
headers_complete at x = rw (signer_there at x.signer, number_there x.fields.generation, number_there x.fields.aid)
