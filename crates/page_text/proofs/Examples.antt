-- Lines of the listing in 01, "The page program". Assumes nothing.
use mathlib.Core.Path.{◌≡◌, refl}
use mathlib.Core.List.{[], ◌∷◌, ◌++◌}
use Prim.Native.Nat.{◌-◌}
use lib.ListN.{replicate}
use Rattle.octets.specs.Kinds.{AUTHORITY}
use Rattle.text.specs.Text.{hex_digit, hex_of, digits_of, decimal_of}
use Rattle.records.specs.Layout.{ID, NAME}
use Rattle.page_text.specs.Lines.{withdraw_word, at_word, certificates_word, refused_word, authority_word, hyphen, line_feed, kind_word, name_of, head_of, count_of, refused_of}

-- "withdraw 0202020202020202 at 220"
pub first : head_of (replicate ID.count 2) 220
    ≡ withdraw_word ++ (48 ∷ 50 ∷ 48 ∷ 50 ∷ 48 ∷ 50 ∷ 48 ∷ 50 ∷ 48 ∷ 50 ∷ 48 ∷ 50 ∷ 48 ∷ 50 ∷ 48 ∷ 50 ∷ []) ++ at_word ++ (50 ∷ 50 ∷ 48 ∷ []) ++ line_feed
unfolding head_of hex_of hex_digit decimal_of digits_of
first = refl

pub kind : kind_word AUTHORITY ≡ authority_word
unfolding kind_word
kind = refl

-- the name B1, and no name
pub name : name_of (record { length = 2; octets = 66 ∷ 49 ∷ replicate (NAME.count - 2) 0 }) ≡ 52 ∷ 50 ∷ 51 ∷ 49 ∷ []
unfolding name_of hex_of hex_digit
name = refl

pub no_name : name_of (record { length = 0; octets = replicate NAME.count 0 }) ≡ hyphen
unfolding name_of
no_name = refl

-- "2 certificates"
pub last : count_of 2 ≡ (50 ∷ []) ++ certificates_word ++ line_feed
unfolding count_of decimal_of digits_of
last = refl

-- "refused 1"
pub refusal : refused_of 1 ≡ refused_word ++ (49 ∷ []) ++ line_feed
unfolding refused_of decimal_of digits_of
refusal = refl
