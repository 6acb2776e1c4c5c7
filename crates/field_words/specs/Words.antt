-- Words in a buffer: each in four octets, the most significant first.
use Rattle.std.specs.Prelude.{ℕ, ◌*◌, ◌/◌, ◌%◌, ◌^◌, List, [], ◌∷◌, ◌++◌}
use Rattle.octets.specs.Buffers.{with_octets}

abbrev pub word_octets : ℕ → List ℕ
word_octets w = w / 2 ^ 24 % 256 ∷ w / 2 ^ 16 % 256 ∷ w / 2 ^ 8 % 256 ∷ w % 256 ∷ []

unfoldable pub words_octets : List ℕ → List ℕ
words_octets [] = []
words_octets (w ∷ ws) = word_octets w ++ words_octets ws

-- these words from word number `at` on; all other octets stay
unfoldable pub with_words : ℕ → List ℕ → List ℕ → List ℕ
with_words at ws l = with_octets l (4 * at) (words_octets ws)
