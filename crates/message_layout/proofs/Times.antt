-- Generation time, with and without deviation, and expiration are read exactly. Assumes nothing.
use Prim.Native.Nat.{ℕ, ◌^◌, ◌<◌}
use mathlib.Core.Path.{◌≡◌, refl, ap}
use mathlib.Core.List.{List}
use native.Mathlib.Omega.{arith}
use lib.ListN.{length}
use Rattle.octets.specs.Reading.{got, bind}
use Rattle.octets.specs.Numbers.{big_endian, octet_at, unsigned_at}
use Rattle.octets.specs.Vectors.{run_at}
use Rattle.writing.specs.Written.{big_endian_octets}
use Rattle.writing.specs.Exactly.{Exact}
use Rattle.writing.proofs.Digits.{be_length, be_written, be_below, be_octets}
use Rattle.writing.proofs.Numbers.{octet_exact, unsigned_exact}
use Rattle.writing.proofs.Vectors.{run_exact}
use Rattle.writing.proofs.Sequences.{seq, last}
use Rattle.writing.proofs.Shapes.{before, exactly, reshape}
use Rattle.layout.specs.WellFormed.{Time32}
use Rattle.message_layout.specs.WellFormed.{Time64, WellFormedDeviation}
use Rattle.message_layout.specs.Layout.{generation_octets, deviation_octets, expiration_octets}
use Rattle.message_layout.specs.Fields.{number_fields}

pub generation_exact : Exact Time64 generation_octets (λ at. number_fields) (λ s b. bind (unsigned_at 8 s b) (λ time next. got (number_fields time) next))
generation_exact = exactly (last (λ a time n. number_fields time) (before (unsigned_exact 8 (omega arith)))) (λ x rest g. tt)

pub expiration_exact : Exact Time32 expiration_octets (λ at. number_fields) (λ s b. bind (unsigned_at 4 s b) (λ second next. got (number_fields second) next))
expiration_exact = exactly (last (λ a second n. number_fields second) (before (unsigned_exact 4 (omega arith)))) (λ x rest g. tt)

-- the value of a time whose octets are not read as a number
pub deviation_exact : Exact {A = ℕ} WellFormedDeviation deviation_octets (λ at d. 0) (λ s b. bind (run_at 8 s b) (λ time a. bind (octet_at s a) (λ deviation next. got 0 next)))
deviation_exact =
    reshape (exactly (seq _ (before (run_exact 8 (omega arith))) (λ at w g. last (λ a deviation n. 0) (before octet_exact))) (λ p rest g. (tt, tt)))
    (record {
      to = λ d. (big_endian_octets 8 d.time, d.confidence);
      good = λ d g. ((be_length 8 d.time, be_octets 8 d.time), g.confidence);
      writes = λ d g. refl;
      values = λ at d g. refl;
      onto = λ x g.
          let w = x.0 in
          let l : length w ≡ 8 = g.0.0 in
          let e : big_endian_octets 8 (big_endian w) ≡ w = rw l at (be_written w g.0.1) in
          let b : big_endian w < 256 ^ 8 = rw l at (be_below w g.0.1) in (
            record { time = big_endian w; confidence = x.1 },
            record { time = b; confidence = g.1 },
            ap (λ (v : List ℕ). (v, x.1)) e,
          );
    })
