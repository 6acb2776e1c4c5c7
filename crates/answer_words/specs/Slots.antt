-- All that a slot holds as octets: the layout of include/nattveldi.h, section by section. Words have four octets, the most significant first.
use Rattle.std.specs.Prelude.{ℕ, ◌+◌, ◌*◌, ◌/◌, ◌^◌, List, [], ◌∷◌}
use Rattle.octets.specs.Buffers.{with_octets}
use Rattle.geo.specs.declared.Region.{Region}
use Rattle.scope.specs.declared.Permissions.{Permissions}
use Rattle.scope.specs.declared.Scope.{Scope}
use Rattle.records.specs.Layout.{ID, ISSUER, NAME, KEY, RECTANGLES, PERMISSIONS}
use Rattle.records.specs.declared.Name.{Name}
use Rattle.records.specs.declared.Key.{Key}
use Rattle.records.specs.declared.Record.{Record}
use Rattle.field_words.specs.Words.{with_words}
use Rattle.field_words.specs.Fields.{with_rectangles}

-- where each section starts: octets for octets, words for words
abbrev pub issuer_start : ℕ
issuer_start = ID.count

abbrev pub state_word : ℕ
state_word = (issuer_start + ISSUER.count) / 4

abbrev pub terms_word : ℕ
terms_word = state_word + 1

abbrev pub name_word : ℕ
name_word = terms_word + 4

abbrev pub name_start : ℕ
name_start = 4 * name_word + 4

abbrev pub parity_word : ℕ
parity_word = (name_start + NAME.count) / 4

abbrev pub key_start : ℕ
key_start = 4 * parity_word + 4

abbrev pub region_word : ℕ
region_word = (key_start + KEY.count) / 4

abbrev pub rectangles_word : ℕ
rectangles_word = region_word + 1

abbrev pub permission_count_word : ℕ
permission_count_word = rectangles_word + 4 * RECTANGLES.count

abbrev pub permissions_word : ℕ
permissions_word = permission_count_word + 1

abbrev pub stored_length : ℕ
stored_length = 4 * (permissions_word + PERMISSIONS.count)

-- id, issuer, state
unfoldable pub with_identity : List ℕ → List ℕ → ℕ → List ℕ → List ℕ
with_identity id issuer state l = with_words state_word (state ∷ []) (with_octets (with_octets l 0 id) issuer_start issuer)

-- kind, start, and the end in two words, of which the second holds its low 32 bits
unfoldable pub with_terms : Scope → List ℕ → List ℕ
with_terms s l = with_words terms_word (s.kind ∷ s.start ∷ s.end / 2 ^ 32 ∷ s.end ∷ []) l

-- the name's length and its octets; the key's parity and its octets
unfoldable pub with_name_and_key : Name → Key → List ℕ → List ℕ
with_name_and_key name key l =
    with_octets (with_words parity_word (key.parity ∷ []) (with_octets (with_words name_word (name.length ∷ []) l) name_start name.octets))
    key_start key.octets

-- how many rectangles, and the four places for them
unfoldable pub with_region : Region → List ℕ → List ℕ
with_region r l = with_rectangles rectangles_word r.rectangles (with_words region_word (r.count ∷ []) l)

-- how many permissions, and the sixteen places for them
unfoldable pub with_permissions : Permissions → List ℕ → List ℕ
with_permissions p l = with_words permissions_word p.values (with_words permission_count_word (p.count ∷ []) l)

-- a buffer with these octets first; those behind them stay
unfoldable pub with_stored : Record → List ℕ → List ℕ
with_stored r l =
    with_permissions r.scope.permissions
    (with_region r.scope.region (with_name_and_key r.name r.key (with_terms r.scope (with_identity r.id r.issuer r.state l))))
