-- The lines of the page program's text, as ASCII octets (01, "The page program").
use Rattle.std.specs.Prelude.{ℕ, List, [], ◌∷◌, ◌++◌, take, eqb}
use Rattle.octets.specs.Reading.{pick}
use Rattle.octets.specs.Kinds.{AUTHORITY, ROOT}
use Rattle.text.specs.Text.{hex_of, decimal_of}
use Rattle.records.specs.declared.Name.{Name}
use Rattle.records.specs.declared.Record.{Record}
use Rattle.records.specs.Records.{record_of}
use Rattle.store.specs.Slots.{slot_of}

-- "withdraw "
abbrev pub withdraw_word : List ℕ
withdraw_word = 119 ∷ 105 ∷ 116 ∷ 104 ∷ 100 ∷ 114 ∷ 97 ∷ 119 ∷ 32 ∷ []

-- " at "
abbrev pub at_word : List ℕ
at_word = 32 ∷ 97 ∷ 116 ∷ 32 ∷ []

-- " certificates"
abbrev pub certificates_word : List ℕ
certificates_word = 32 ∷ 99 ∷ 101 ∷ 114 ∷ 116 ∷ 105 ∷ 102 ∷ 105 ∷ 99 ∷ 97 ∷ 116 ∷ 101 ∷ 115 ∷ []

-- "refused "
abbrev pub refused_word : List ℕ
refused_word = 114 ∷ 101 ∷ 102 ∷ 117 ∷ 115 ∷ 101 ∷ 100 ∷ 32 ∷ []

-- "root"
abbrev pub root_word : List ℕ
root_word = 114 ∷ 111 ∷ 111 ∷ 116 ∷ []

-- "authority"
abbrev pub authority_word : List ℕ
authority_word = 97 ∷ 117 ∷ 116 ∷ 104 ∷ 111 ∷ 114 ∷ 105 ∷ 116 ∷ 121 ∷ []

-- "ticket"
abbrev pub ticket_word : List ℕ
ticket_word = 116 ∷ 105 ∷ 99 ∷ 107 ∷ 101 ∷ 116 ∷ []

abbrev pub space : List ℕ
space = 32 ∷ []

-- "-"
abbrev pub hyphen : List ℕ
hyphen = 45 ∷ []

abbrev pub line_feed : List ℕ
line_feed = 10 ∷ []

-- a root, an authority, a ticket: a valid store has no other
unfoldable pub kind_word : ℕ → List ℕ
kind_word kind = pick (eqb kind ROOT) root_word (pick (eqb kind AUTHORITY) authority_word ticket_word)

-- the name in hexadecimal digits, or a hyphen where there is none
unfoldable pub name_of : Name → List ℕ
name_of name = pick (eqb name.length 0) hyphen (hex_of (take name.length name.octets))

-- a certificate: "slot, id, `root`, `authority` or `ticket`, name in hex or `-`"
unfoldable pub line_of : ℕ → Record → List ℕ
line_of slot r =
    decimal_of slot ++ space ++ hex_of r.id ++ space ++ kind_word r.scope.kind ++ space ++ name_of r.name ++ line_feed

-- the lines of the certificates in these slots of a store
unfoldable pub lines_of : List ℕ → List ℕ → List ℕ
lines_of store [] = []
lines_of store (slot ∷ slots) = line_of slot (record_of (slot_of store slot)) ++ lines_of store slots

-- "First line: the asked id in hex, the second in decimal"
unfoldable pub head_of : List ℕ → ℕ → List ℕ
head_of id second = withdraw_word ++ hex_of id ++ at_word ++ decimal_of second ++ line_feed

-- "Last: the count, always with `certificates`"
unfoldable pub count_of : ℕ → List ℕ
count_of n = decimal_of n ++ certificates_word ++ line_feed

-- "a refusal prints `refused` and its number"
unfoldable pub refused_of : ℕ → List ℕ
refused_of number = refused_word ++ decimal_of number ++ line_feed
