-- Such a store as antt computes it. Assumes nothing.
use mathlib.Core.Path.{◌≡◌, refl, ap, ap₂, subst}
use mathlib.Core.List.{List, [], ◌∷◌, ◌++◌}
use Prim.Native.Nat.{ℕ, ◌-◌, ◌*◌}
use lib.ListN.{length}
use Rattle.bitfields.specs.Field.{Octets}
use Rattle.bitfields.proofs.Octets.{octets_join, octets_zeros}
use Rattle.records.specs.Layout.{slot_length}
use Rattle.records.specs.Records.{image_of}
use Rattle.records.specs.declared.Record.{Record}
use Rattle.records.proofs.Laws.{laws}
use Rattle.records.proofs.Numbers.{image_put, image_put_lem}
use Rattle.store.specs.Slots.{slot_count}
use Rattle.sample_stores.specs.Stores.{images, rest, store_of}

abbrev pub images_put : List Record → List ℕ
images_put [] = []
images_put (r ∷ rs) = image_put r ++ images_put rs

images_put_lem : (rs : List Record) → images rs ≡ images_put rs
images_put_lem [] = refl
images_put_lem (r ∷ rs) = ap₂ (λ (a b : List ℕ). a ++ b) (image_put_lem r) (images_put_lem rs)

abbrev pub store_put : List Record → List ℕ
store_put rs = images_put rs ++ rest (length rs)

pub store_put_lem : (rs : List Record) → store_of rs ≡ store_put rs
store_put_lem rs = ap (λ (l : List ℕ). l ++ rest (length rs)) (images_put_lem rs)

images_octets : (rs : List Record) → Octets (images rs)
images_octets [] = octets_zeros 0
images_octets (r ∷ rs) = octets_join (image_of r) (images rs) (laws.image_octets r) (images_octets rs)

pub store_octets : (rs : List Record) → Octets (store_put rs)
store_octets rs = subst Octets (store_put_lem rs) (octets_join (images rs) (rest (length rs)) (images_octets rs) (octets_zeros ((slot_count - length rs) * slot_length)))
