-- What is proved of texts (proofs/Laws.antt).
use Rattle.std.specs.Prelude.{◌≡◌, ◌⊎◌, ◌≢◌, ℕ, ◌+◌, ◌-◌, ◌*◌, ◌^◌, ◌≤◌, ◌<◌, List, [], ◌∷◌, ◌++◌, ltb, length, get_or}
use Rattle.octets.specs.Reading.{pick}
use Rattle.text.specs.Text.{hex_digit, hex_of, decimal_of}
use Rattle.octets.specs.Buffers.{with_octets}

-- the number that decimal digits stand for, behind those that gave a
unfoldable pub number_on : ℕ → List ℕ → ℕ
number_on a [] = a
number_on a (c ∷ s) = number_on (10 * a + (c - 48)) s

-- what a hexadecimal digit stands for
unfoldable pub hex_value : ℕ → ℕ
hex_value c = pick (ltb c 97) (c - 48) (c - 87)

-- the octets that pairs of hexadecimal digits stand for
unfoldable pub octets_of : List ℕ → List ℕ
octets_of [] = []
octets_of (c ∷ []) = []
octets_of (c ∷ d ∷ s) = (16 * hex_value c + hex_value d) ∷ octets_of s

-- each is one of the octets 48 to 57
abbrev pub DecimalDigits : List ℕ → Type 0
DecimalDigits s = (i : ℕ) → i < length s → (48 ≤ get_or s i 0) × (get_or s i 0 ≤ 57)

pub record Laws : Type 0 where
  -- decimal digits read back give the number
  pub decimal_back : (x : ℕ) → number_on 0 (decimal_of x) ≡ x
  pub decimal_digits : (x : ℕ) → DecimalDigits (decimal_of x)
  -- the first is no 0, unless the number is
  pub decimal_leading : (x : ℕ) → 0 < x → get_or (decimal_of x) 0 0 ≢ 48
  pub decimal_some : (x : ℕ) → 1 ≤ length (decimal_of x)
  pub decimal_ten : (x : ℕ) → x < 2 ^ 32 → length (decimal_of x) ≤ 10
  -- hexadecimal digits read back give the octets
  pub hex_back : (s : List ℕ) → ((i : ℕ) → get_or s i 0 < 256) → octets_of (hex_of s) ≡ s
  pub hex_digits : (n : ℕ) → n < 16 → ((48 ≤ hex_digit n) × (hex_digit n ≤ 57)) ⊎ ((97 ≤ hex_digit n) × (hex_digit n ≤ 102))
  pub hex_long : (s : List ℕ) → length (hex_of s) ≡ 2 * length s
  -- two texts written one behind the other are the text of both joined
  pub texts_joined : (l : List ℕ) (at : ℕ) (a b : List ℕ) → at + length a + length b ≤ length l
      → with_octets (with_octets l at a) (at + length a) b ≡ with_octets l at (a ++ b)
  pub text_long : (l : List ℕ) (at : ℕ) (text : List ℕ) → at + length text ≤ length l → length (with_octets l at text) ≡ length l
