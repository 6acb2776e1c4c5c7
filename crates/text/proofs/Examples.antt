-- Texts of the listing in 01, "The page program". Assumes nothing.
use mathlib.Core.Path.{◌≡◌, refl}
use mathlib.Core.List.{[], ◌∷◌}
use Rattle.text.specs.Text.{hex_digit, hex_of, digits_of, decimal_of}

-- the second 220
pub second : decimal_of 220 ≡ 50 ∷ 50 ∷ 48 ∷ []
unfolding decimal_of digits_of
second = refl

pub zero_is_0 : decimal_of 0 ≡ 48 ∷ []
unfolding decimal_of
zero_is_0 = refl

pub largest : decimal_of 4294967295 ≡ 52 ∷ 50 ∷ 57 ∷ 52 ∷ 57 ∷ 54 ∷ 55 ∷ 50 ∷ 57 ∷ 53 ∷ []
unfolding decimal_of digits_of
largest = refl

-- the name B1
pub name : hex_of (66 ∷ 49 ∷ []) ≡ 52 ∷ 50 ∷ 51 ∷ 49 ∷ []
unfolding hex_of hex_digit
name = refl

pub letters : hex_of (175 ∷ []) ≡ 97 ∷ 102 ∷ []
unfolding hex_of hex_digit
letters = refl
