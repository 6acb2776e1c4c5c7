-- The store of "The page program" of document 01: six certificates, all held, with permission 36 alone, no region, key and parity zero.
use Rattle.std.specs.Prelude.{ℕ, ◌-◌, List, [], ◌∷◌, ◌++◌, length, replicate}
use Rattle.octets.specs.Kinds.{TICKET, AUTHORITY, ROOT}
use Rattle.geo.specs.Area.{unused}
use Rattle.records.specs.Layout.{NAME, KEY, RECTANGLES, PERMISSIONS}
use Rattle.records.specs.declared.Record.{Record}
use Rattle.store.specs.Slots.{HELD}
use Rattle.sample_stores.specs.Stores.{eight, store_of}

-- an id here is an octet eight times; a root has issuer 0
abbrev pub held : ℕ → ℕ → ℕ → ℕ → ℕ → List ℕ → Record
held octet kind issuer start end name =
    record {
      id = eight octet;
      issuer = eight issuer;
      state = HELD;
      scope =
          record {
            kind = kind;
            start = start;
            end = end;
            region = record { count = 0; rectangles = replicate RECTANGLES.count unused };
            permissions = record { count = 1; values = 36 ∷ replicate (PERMISSIONS.count - 1) 0 };
          };
      name = record { length = length name; octets = name ++ replicate (NAME.count - length name) 0 };
      key = record { parity = 0; octets = replicate KEY.count 0 };
    }

abbrev pub certificates : List Record
certificates =
    held 0x01 ROOT 0x00 100 1000 []
    ∷ held 0x02 AUTHORITY 0x01 100 900 (0x42 ∷ 0x31 ∷ [])
    ∷ held 0x03 TICKET 0x02 200 300 []
    ∷ held 0x04 TICKET 0x02 250 400 []
    ∷ held 0x05 AUTHORITY 0x01 100 900 (0x42 ∷ 0x31 ∷ [])
    ∷ held 0x06 TICKET 0x05 200 300 []
    ∷ []

-- slots 0 to 5; the others are empty
unfoldable pub shown : List ℕ
shown = store_of certificates
