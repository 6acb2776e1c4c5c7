-- Vectors of digests are read exactly. Assumes nothing.
use Prim.Native.Nat.{ℕ, ◌-◌, ◌*◌, ◌/◌, ◌%◌, ◌^◌, ◌<◌}
use mathlib.Core.Path.{◌≡◌, refl}
use mathlib.Core.List.{List}
use native.Mathlib.Omega.{arith}
use borrow.Author.Tests.{eq-eqb, eqb-true}
use lib.Dec.{eqb}
use lib.ListN.{length}
use Rattle.octets.specs.Reading.{got, bind, need}
use Rattle.octets.specs.Vectors.{span_at}
use Rattle.writing.specs.Written.{Octets}
use Rattle.writing.specs.Exactly.{Exact, ExactIn}
use Rattle.writing.proofs.Containers.{vector_by}
use Rattle.writing.proofs.Contents.{content_exact, sized_in}
use Rattle.writing.proofs.Pieces.{pieces_length, pieces}
use Rattle.writing.proofs.Written.{all_octets_lem}
use Rattle.writing.proofs.Shapes.{reshape_in}
use Rattle.message_layout.specs.WellFormed.{WellFormedDigests}
use Rattle.message_layout.specs.Layout.{digest_octets, digests_octets}

pub digest_octets_lem : (ds : List (List ℕ)) → WellFormedDigests ds → Octets (digest_octets ds)
digest_octets_lem ds g = all_octets_lem (λ (d : List ℕ). d) (λ d h. h.1) ds g

-- the digests stand behind their length: that they are so many octets is all that is judged
content_exact_of : ExactIn {A = ℕ} WellFormedDigests digest_octets (λ at ds. 0) (λ s at. need 4 (eqb ((length s - at) % 3) 0) (got 0 (length s)))
content_exact_of =
    reshape_in (sized_in 4 (λ n. eqb (n % 3) 0) (content_exact (λ a n. 0)))
    (record {
      to = digest_octets;
      good = λ ds g.
          let n : length (digest_octets ds) ≡ length ds * 3 = pieces_length 3 ds g in
          (eq-eqb (length (digest_octets ds) % 3) 0 (omega arith), digest_octets_lem ds g);
      writes = λ ds g. refl;
      values = λ at ds g. refl;
      onto = λ w g.
          let z : length w % 3 ≡ 0 = eqb-true (length w % 3) 0 g.0 in
          pieces 3 (length w / 3) w (omega arith) g.1;
    })

pub digests_exact : Exact {A = ℕ} (λ ds. WellFormedDigests ds × (length (digest_octets ds) < 2 ^ 28)) digests_octets (λ at ds. 0)
    (λ s b. bind (span_at s b) (λ start end. need 4 (eqb ((end - start) % 3) 0) (got 0 end)))
digests_exact = vector_by content_exact_of _ (λ s a e h. rw h)
