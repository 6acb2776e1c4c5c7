-- The fields of a certificate as words: the layout of include/nattveldi.h, section by section.
use Rattle.std.specs.Prelude.{ℕ, ◌+◌, ◌/◌, ◌^◌, Bool, List, [], ◌∷◌, map, get_or, replicate, is_some, unwrap_or, Option, Some, None}
use Rattle.octets.specs.Reading.{pick}
use Rattle.octets.specs.Coordinates.{pattern_of}
use Rattle.octets.specs.declared.vectors.Part.{Part}
use Rattle.geo.specs.declared.Rectangle.{Rectangle}
use Rattle.attributes.specs.declared.points.Point.{Point}
use Rattle.attributes.specs.Permissions.{unused as no-permission}
use Rattle.attributes.specs.declared.permissions.Permission.{Permission}
use Rattle.attributes.specs.declared.permissions.Permissions.{Permissions}
use Rattle.attributes.specs.declared.vector.Attributes.{Attributes}
use Rattle.geo.specs.Area.{unused}
use Rattle.restrictions.specs.declared.periods.Period.{Period}
use Rattle.restrictions.specs.Rectangles.{everywhere}
use Rattle.restrictions.specs.declared.vector.Restrictions.{Restrictions}
use Rattle.certificate.specs.declared.heads.Head.{Head}
use Rattle.certificate.specs.declared.signatures.Signature.{Signature}
use Rattle.certificate.specs.declared.certificates.Certificate.{Certificate}
use Rattle.field_words.specs.Words.{with_words}

-- 1 for what is given
abbrev pub flag_of : Bool → ℕ
flag_of b = pick b 1 0

-- signer, issuer, kind, name
abbrev pub head_words : Head → List ℕ
head_words h =
    h.signer.form ∷ h.signer.digest.start ∷ h.signer.digest.length ∷ h.kind ∷ h.name.start ∷ h.name.length ∷ []

abbrev pub key_words : Point → List ℕ
key_words p = p.form ∷ p.octets.start ∷ p.octets.length ∷ []

-- whether a level is given, and which; 0 where none is
abbrev pub assurance_words : Option ℕ → List ℕ
assurance_words None = 0 ∷ 0 ∷ []
assurance_words (Some level) = 1 ∷ level ∷ []

-- form, start, and the end in two words, of which the second holds its low 32 bits; zeros where no period is given
abbrev pub period_words : Option Period → List ℕ
period_words None = 0 ∷ 0 ∷ 0 ∷ 0 ∷ []
period_words (Some p) = p.form ∷ p.start ∷ p.end / 2 ^ 32 ∷ p.end ∷ []

abbrev pub area_words : Bool → ℕ → List ℕ
area_words given count = flag_of given ∷ count ∷ []

abbrev pub edge_words : Rectangle → List ℕ
edge_words q = pattern_of q.north ∷ pattern_of q.west ∷ pattern_of q.south ∷ pattern_of q.east ∷ []

-- the signed range, the signature and its point type
abbrev pub signature_words : Part → Signature → List ℕ
signature_words signed signature =
    signed.start ∷ signed.length ∷ signature.octets.start ∷ signature.octets.length ∷ signature.form ∷ []

-- the fields of a certificate take 90 words of four octets
abbrev pub fields_length : ℕ
fields_length = 360

-- a buffer with the fields of a certificate, in sections that do not meet; the four rectangles stand from the word number `at` on
unfoldable pub with_rectangles : ℕ → List Rectangle → List ℕ → List ℕ
with_rectangles at rectangles l =
    with_words (at + 12) (edge_words (get_or rectangles 3 unused))
    (with_words (at + 8) (edge_words (get_or rectangles 2 unused))
    (with_words (at + 4) (edge_words (get_or rectangles 1 unused))
    (with_words at (edge_words (get_or rectangles 0 unused)) l)))

-- each permission's ITS-AID, and the start and the length of its SSP
unfoldable pub with_permissions : List Permission → List ℕ → List ℕ
with_permissions values l =
    with_words 69 (map (λ p. p.ssp.length) values)
    (with_words 53 (map (λ p. p.ssp.start) values)
    (with_words 37 (map (λ p. p.aid) values) l))

-- how many they are, and these; zeros where no list is given
unfoldable pub with_list : Option Permissions → List ℕ → List ℕ
with_list None l = with_permissions (replicate 16 no-permission) (with_words 36 (0 ∷ []) l)
with_list (Some p) l = with_permissions p.values (with_words 36 (p.count ∷ []) l)

unfoldable pub with_attributes : Attributes → List ℕ → List ℕ
with_attributes a l =
    with_list a.permissions
    (with_words 12 (assurance_words a.assurance)
    (with_words 9 (key_words a.encryption)
    (with_words 6 (key_words a.key) l)))

unfoldable pub with_restrictions : Restrictions → List ℕ → List ℕ
with_restrictions r l =
    with_rectangles 20 (unwrap_or r.area everywhere).rectangles
    (with_words 18 (area_words (is_some r.area) (unwrap_or r.area everywhere).count) (with_words 14 (period_words r.period) l))

unfoldable pub with_fields : Certificate → List ℕ → List ℕ
with_fields c l =
    with_words 85 (signature_words c.signed c.signature)
    (with_restrictions c.restrictions (with_attributes c.attributes (with_words 0 (head_words c.head) l)))
