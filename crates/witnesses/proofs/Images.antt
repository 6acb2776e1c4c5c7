-- The stores of specs/Inputs with their images as antt computes them. Assumes nothing.
use Prim.Native.Nat.{ℕ}
use mathlib.Core.Path.{◌≡◌}
use mathlib.Core.List.{List, [], ◌∷◌}
use Rattle.octets.specs.Kinds.{TICKET, AUTHORITY, ROOT}
use Rattle.bitfields.specs.Field.{Octets}
use Rattle.records.specs.Records.{image_of}
use Rattle.records.specs.declared.Record.{Record}
use Rattle.records.proofs.Numbers.{image_put, image_put_lem}
use Rattle.store.specs.Slots.{HELD, GONE}
use Rattle.sample_stores.specs.Stores.{eight}
use Rattle.sample_stores.proofs.Stores.{store_put, store_put_lem, store_octets}
use Rattle.witnesses.specs.Inputs.{anchor_id, pass_id, everywhere, bay, permitted, stored, certificates, chains, taken}

unfoldable pub chained : List ℕ
chained = store_put certificates

pub chains_are : chains ≡ chained
unfolding chains chained
chains_are = store_put_lem certificates

pub chained_octets : Octets chained
unfolding chained
chained_octets = store_octets certificates

-- the two of `taken`
abbrev other_root : Record
other_root = stored anchor_id ROOT (eight 0x00) HELD 0 999 everywhere

abbrev withdrawn_ticket : Record
withdrawn_ticket = stored pass_id TICKET (eight 0x02) GONE 200 301 everywhere

unfoldable pub took : List ℕ
took = store_put (other_root ∷ withdrawn_ticket ∷ [])

pub taken_is : taken ≡ took
unfolding taken took
taken_is = store_put_lem (other_root ∷ withdrawn_ticket ∷ [])

-- single images: the record that `anchor` is stored as, and the issuers of `pass`
unfoldable pub same : List ℕ
same = image_put (stored anchor_id ROOT (eight 0x00) HELD 0 1000 everywhere)

pub same_image : image_of (stored anchor_id ROOT (eight 0x00) HELD 0 1000 everywhere) ≡ same
unfolding same
same_image = image_put_lem (stored anchor_id ROOT (eight 0x00) HELD 0 1000 everywhere)

unfoldable pub gone : List ℕ
gone = image_put (stored (eight 0x02) AUTHORITY (eight 0x01) GONE 100 900 everywhere)

pub gone_image : image_of (stored (eight 0x02) AUTHORITY (eight 0x01) GONE 100 900 everywhere) ≡ gone
unfolding gone
gone_image = image_put_lem (stored (eight 0x02) AUTHORITY (eight 0x01) GONE 100 900 everywhere)

unfoldable pub ticket : List ℕ
ticket = image_put (stored (eight 0x02) TICKET (eight 0x01) HELD 100 900 everywhere)

pub ticket_image : image_of (stored (eight 0x02) TICKET (eight 0x01) HELD 100 900 everywhere) ≡ ticket
unfolding ticket
ticket_image = image_put_lem (stored (eight 0x02) TICKET (eight 0x01) HELD 100 900 everywhere)

unfoldable pub unpermitted : List ℕ
unpermitted = image_put (permitted 37 (eight 0x02) AUTHORITY (eight 0x01) HELD 100 900 everywhere)

pub unpermitted_image : image_of (permitted 37 (eight 0x02) AUTHORITY (eight 0x01) HELD 100 900 everywhere) ≡ unpermitted
unfolding unpermitted
unpermitted_image = image_put_lem (permitted 37 (eight 0x02) AUTHORITY (eight 0x01) HELD 100 900 everywhere)

unfoldable pub short : List ℕ
short = image_put (stored (eight 0x02) AUTHORITY (eight 0x01) HELD 100 250 everywhere)

pub short_image : image_of (stored (eight 0x02) AUTHORITY (eight 0x01) HELD 100 250 everywhere) ≡ short
unfolding short
short_image = image_put_lem (stored (eight 0x02) AUTHORITY (eight 0x01) HELD 100 250 everywhere)

unfoldable pub bounded : List ℕ
bounded = image_put (stored (eight 0x02) AUTHORITY (eight 0x01) HELD 100 900 bay)

pub bounded_image : image_of (stored (eight 0x02) AUTHORITY (eight 0x01) HELD 100 900 bay) ≡ bounded
unfolding bounded
bounded_image = image_put_lem (stored (eight 0x02) AUTHORITY (eight 0x01) HELD 100 900 bay)
