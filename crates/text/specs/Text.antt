-- Texts, as lists of ASCII octets, and a text in a lent buffer (01, "The page program": hex, lowercase throughout, and decimal).
use Rattle.std.specs.Prelude.{◌≡◌, ℕ, zero, suc, ◌+◌, ◌/◌, ◌%◌, List, [], ◌∷◌, ◌++◌, ltb, length}
use Rattle.octets.specs.Reading.{pick}
use Rattle.octets.specs.Buffers.{with_octets}

-- 0 to 9 are 48 to 57, a to f are 97 to 102
unfoldable pub hex_digit : ℕ → ℕ
hex_digit n = pick (ltb n 10) (48 + n) (87 + n)

-- two digits an octet, the high one first
unfoldable pub hex_of : List ℕ → List ℕ
hex_of [] = []
hex_of (a ∷ s) = hex_digit (a / 16) ∷ hex_digit (a % 16) ∷ hex_of s

-- the decimal digits of x without leading zeros, so none of 0; n is at least as many as there are
unfoldable pub digits_of : ℕ → ℕ → List ℕ
digits_of zero x = []
digits_of (suc n) zero = []
digits_of (suc n) (suc x) = digits_of n (suc x / 10) ++ ((48 + suc x % 10) ∷ [])

-- a number x above 0 has at most x digits
unfoldable pub decimal_of : ℕ → List ℕ
decimal_of zero = 48 ∷ []
decimal_of (suc x) = digits_of (suc x) (suc x)

-- a text was written into l at a place: the answer is the place behind it, and out is what the buffer holds
abbrev pub Written : List ℕ → ℕ → List ℕ → ℕ → List ℕ → Type 0
Written l at text r out = (r ≡ at + length text) × (out ≡ with_octets l at text)
