-- An image as one number: what the definition writes field by field into octets is written here into the number that they are, which antt
-- computes at once. Assumes nothing.
use Prim.Native.Nat.{ℕ, ◌+◌, ◌-◌, ◌*◌, ◌%◌, ◌^◌}
use mathlib.Core.Path.{◌≡◌, refl, sym, ap, ap₂, ◌∙◌}
use mathlib.Core.List.{List, [], ◌∷◌}
use lib.ListN.{length, replicate, length-replicate}
use Rattle.bitfields.specs.Field.{number, octets, with_digits, with_field}
use Rattle.bitfields.specs.Runs.{with_fields}
use Rattle.bitfields.specs.Items.{Item, built}
use Rattle.bitfields.proofs.Octets.{number_octets, octets_number, number_zeros}
use Rattle.bitfields.proofs.Law.{length_with_field}
use Rattle.bitfields.proofs.Items.{length_built}
use Rattle.records.specs.Layout.{slot_bits, slot_length}
use Rattle.records.specs.Records.{items_of, image_of}
use Rattle.records.specs.declared.Record.{Record}
use Rattle.records.proofs.Fields.{image_long, image_octets}

-- a field, a run and items, written
unfoldable pub digits_put : ℕ → ℕ → ℕ → ℕ → ℕ
digits_put x b w v = with_digits x (slot_bits - (b + w)) w v % 2 ^ slot_bits

unfoldable pub run_put : ℕ → ℕ → ℕ → List ℕ → ℕ
run_put x b w [] = x
run_put x b w (v ∷ vs) = run_put (digits_put x b w v) (b + w) w vs

unfoldable pub items_put : List Item → ℕ → ℕ
items_put [] x = x
items_put (i ∷ is) x = run_put (items_put is x) i.b i.w i.vs

put_field : (l : List ℕ) (b w v : ℕ) → length l ≡ slot_length → number (with_field l b w v) ≡ digits_put (number l) b w v
unfolding with_field digits_put
put_field l b w v e =
    number_octets (length l) (with_digits (number l) (8 * length l - (b + w)) w v)
    ∙ ap (λ (n : ℕ). with_digits (number l) (8 * n - (b + w)) w v % 2 ^ (8 * n)) e

put_run : (vs l : List ℕ) (b w : ℕ) → length l ≡ slot_length → number (with_fields l b w vs) ≡ run_put (number l) b w vs
unfolding with_fields run_put
put_run [] l b w e = refl
put_run (v ∷ vs) l b w e =
    put_run vs (with_field l b w v) (b + w) w (length_with_field l b w v ∙ e) ∙ ap (λ (x : ℕ). run_put x (b + w) w vs) (put_field l b w v e)

put_items : (is : List Item) (l : List ℕ) → length l ≡ slot_length → number (built is l) ≡ items_put is (number l)
unfolding built items_put
put_items [] l e = refl
put_items (i ∷ is) l e =
    put_run i.vs (built is l) i.b i.w (length_built is l ∙ e) ∙ ap (λ (x : ℕ). run_put x i.b i.w i.vs) (put_items is l e)

-- the octets of that number
unfoldable pub image_put : Record → List ℕ
image_put r = octets slot_length (items_put (items_of r) 0)

pub image_put_lem : (r : Record) → image_of r ≡ image_put r
unfolding image_of image_put
image_put_lem r =
    sym (octets_number (image_of r) (image_octets r))
    ∙ ap₂ octets (image_long r) (put_items (items_of r) (replicate slot_length 0) (length-replicate {A = ℕ} slot_length 0) ∙ ap (items_put (items_of r)) (number_zeros slot_length))
