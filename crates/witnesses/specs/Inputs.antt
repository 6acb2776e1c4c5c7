-- Inputs that reach the answers of document 01's table of numbers: stores built from records, certificates from their contents, messages.
use Rattle.std.specs.Prelude.{ℕ, zero, suc, ◌-◌, List, [], ◌∷◌, ◌++◌, replicate, pos, neg_ℤ}
use Rattle.std.proofs.Math.Option.{none}
use Rattle.octets.specs.Kinds.{TICKET, AUTHORITY, ROOT}
use Rattle.geo.specs.Area.{unused}
use Rattle.geo.specs.declared.Region.{Region}
use Rattle.records.specs.Layout.{NAME, KEY, RECTANGLES, PERMISSIONS}
use Rattle.records.specs.declared.Record.{Record}
use Rattle.store.specs.Slots.{slot_count, store_length, HELD, GONE}
use Rattle.sample_stores.specs.Stores.{eight, store_of}
use Rattle.writing.specs.Written.{big_endian_octets, intx_octets, vector_octets}
use Rattle.layout.specs.Contents.{Signer, self, issuer, Kind, ticket, root, Period, until, between, Contents}
use Rattle.layout.specs.Layout.{written}
use Rattle.verification.specs.Order.{situation}
use Rattle.verification.specs.declared.judging.Situation.{Situation}

-- an id here is an octet eight times, but for the ids of the two certificates below

-- ---- certificates: key and signature zero, no name, permission 36 alone, everywhere

abbrev pub contents : Signer → Kind → Period → Contents
contents signer kind period =
    record {
      signer = signer;
      kind = kind;
      name = [];
      key = record { type = 2; octets = replicate 32 0 };
      encryption = none;
      assurance = none;
      permissions = record { aid = 36; ssp = [] } ∷ [];
      period = period;
      region = none;
      signature = record { r = record { type = 0; octets = replicate 32 0 }; s = replicate 32 0 };
    }

-- a root, and its id
unfoldable pub anchor : List ℕ
anchor = written (contents self root (until 1000))

abbrev pub anchor_id : List ℕ
anchor_id = 0xD7 ∷ 0x07 ∷ 0x63 ∷ 0x58 ∷ 0xE7 ∷ 0x67 ∷ 0xCB ∷ 0xA2 ∷ []

-- a ticket of authority 02.., and its id
unfoldable pub pass : List ℕ
pass = written (contents (issuer (eight 0x02)) ticket (between 200 300))

abbrev pub pass_id : List ℕ
pass_id = 0xCC ∷ 0x1E ∷ 0x02 ∷ 0xEA ∷ 0x99 ∷ 0x9C ∷ 0xC3 ∷ 0xA8 ∷ []

-- ---- stores

abbrev pub everywhere : Region
everywhere = record { count = 0; rectangles = replicate RECTANGLES.count unused }

-- 64.2 to 64.0 degrees north, 22.1 to 21.6 degrees west
abbrev pub bay : Region
bay =
    record {
      count = 1;
      rectangles = record { north = pos 642000000; west = neg_ℤ (pos 221000000); south = pos 640000000; east = neg_ℤ (pos 216000000) } ∷ replicate (RECTANGLES.count - 1) unused;
    }

-- its_aid, id, kind, issuer, state, start, end, region; no name, key and parity zero
abbrev pub permitted : ℕ → List ℕ → ℕ → List ℕ → ℕ → ℕ → ℕ → Region → Record
permitted aid id kind by state start end region =
    record {
      id = id;
      issuer = by;
      state = state;
      scope =
          record {
            kind = kind;
            start = start;
            end = end;
            region = region;
            permissions = record { count = 1; values = aid ∷ replicate (PERMISSIONS.count - 1) 0 };
          };
      name = record { length = 0; octets = replicate NAME.count 0 };
      key = record { parity = 0; octets = replicate KEY.count 0 };
    }

-- the same with permission 36 alone
abbrev pub stored : List ℕ → ℕ → List ℕ → ℕ → ℕ → ℕ → Region → Record
stored id kind by state start end region = permitted 36 id kind by state start end region

-- all slots are empty
unfoldable pub empty : List ℕ
empty = replicate store_length 0

-- one bit is set, in the id of a slot whose state is 0
unfoldable pub marked : List ℕ
marked = 0x01 ∷ replicate (store_length - 1) 0

-- a root 01.., an authority 02.., and its tickets: 03.., 04.. withdrawn, 05.. for the bay; then authorities 06.. to 0B.., each issued by the
-- one before it, and at their end ticket 0C.., from which the root is the ninth certificate
abbrev pub certificates : List Record
certificates =
    stored (eight 0x01) ROOT (eight 0x00) HELD 100 1000 everywhere
    ∷ stored (eight 0x02) AUTHORITY (eight 0x01) HELD 100 900 everywhere
    ∷ stored (eight 0x03) TICKET (eight 0x02) HELD 200 300 everywhere
    ∷ stored (eight 0x04) TICKET (eight 0x02) GONE 200 300 everywhere
    ∷ stored (eight 0x05) TICKET (eight 0x02) HELD 200 300 bay
    ∷ stored (eight 0x06) AUTHORITY (eight 0x02) HELD 100 900 everywhere
    ∷ stored (eight 0x07) AUTHORITY (eight 0x06) HELD 100 900 everywhere
    ∷ stored (eight 0x08) AUTHORITY (eight 0x07) HELD 100 900 everywhere
    ∷ stored (eight 0x09) AUTHORITY (eight 0x08) HELD 100 900 everywhere
    ∷ stored (eight 0x0A) AUTHORITY (eight 0x09) HELD 100 900 everywhere
    ∷ stored (eight 0x0B) AUTHORITY (eight 0x0A) HELD 100 900 everywhere
    ∷ stored (eight 0x0C) TICKET (eight 0x0B) HELD 200 300 everywhere
    ∷ []

unfoldable pub chains : List ℕ
chains = store_of certificates

-- another root under the id of `anchor`: it ends a second earlier; and another ticket, withdrawn, under the id of `pass`
unfoldable pub taken : List ℕ
taken =
    store_of
    (stored anchor_id ROOT (eight 0x00) HELD 0 999 everywhere
    ∷ stored pass_id TICKET (eight 0x02) GONE 200 301 everywhere
    ∷ [])

-- the issuer 02.. of `pass` alone: withdrawn; a ticket; with permission 37; with a shorter period; for the bay
unfoldable pub gone_issuer : List ℕ
gone_issuer = store_of (stored (eight 0x02) AUTHORITY (eight 0x01) GONE 100 900 everywhere ∷ [])

unfoldable pub ticket_issuer : List ℕ
ticket_issuer = store_of (stored (eight 0x02) TICKET (eight 0x01) HELD 100 900 everywhere ∷ [])

unfoldable pub other_issuer : List ℕ
other_issuer = store_of (permitted 37 (eight 0x02) AUTHORITY (eight 0x01) HELD 100 900 everywhere ∷ [])

unfoldable pub short_issuer : List ℕ
short_issuer = store_of (stored (eight 0x02) AUTHORITY (eight 0x01) HELD 100 250 everywhere ∷ [])

unfoldable pub bay_issuer : List ℕ
bay_issuer = store_of (stored (eight 0x02) AUTHORITY (eight 0x01) HELD 100 900 bay ∷ [])

-- an authority of root 01..
abbrev pub authority : ℕ → Record
authority octet = stored (eight octet) AUTHORITY (eight 0x01) HELD 100 900 everywhere

abbrev pub authorities : ℕ → ℕ → List Record
authorities zero octet = []
authorities (suc n) octet = authority octet ∷ authorities n (suc octet)

-- no slot is empty: authorities 00.. to 3F..
unfoldable pub full : List ℕ
full = store_of (authorities slot_count 0x00)

-- ---- messages

-- the signer header: an id, or a certificate
abbrev pub named : ℕ → List ℕ
named octet = 0x01 ∷ eight octet

abbrev pub carrying : List ℕ → List ℕ
carrying certificate = 0x02 ∷ certificate

-- signer, generation time, its_aid; payload "hi"; a signature of zeros
unfoldable pub message : List ℕ → ℕ → ℕ → List ℕ
message signer generation aid =
    0x02 ∷ (vector_octets (0x80 ∷ (signer ++ (0x00 ∷ (big_endian_octets 8 generation ++ (0x05 ∷ intx_octets aid)))))
    ++ (0x01 ∷ (vector_octets (0x68 ∷ 0x69 ∷ [])
    ++ vector_octets (0x01 ∷ (0x00 ∷ (0x00 ∷ replicate 64 0))))))

-- now in microseconds, at 0 degrees north and east, age 0, which stands for 2,000,000
abbrev pub at : ℕ → Situation
at now = situation now (pos 0) (pos 0) 0
