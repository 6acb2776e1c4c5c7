-- A loop that writes words into a list, by four octets. Assumes nothing.
use mathlib.Core.Path.{◌≡◌, refl, sym, ap, ◌∙◌}
use mathlib.Core.List.{List, [], ◌∷◌, ◌++◌}
use mir.Syntax.{w64}
use Prim.Native.Nat.{ℕ, ◌+◌, ◌*◌, ◌≤◌, ◌<◌}
use native.Mathlib.Omega.{arith}
use lib.ListN.{length, get_or, take, drop}
use lib.Seq.{length-take-le}
use Rattle.std.specs.Int.{to_be_bytes}
use Rattle.std.proofs.lemmas.List.{take_more}
use Rattle.octets.specs.Buffers.{with_octets}
use Rattle.octets.proofs.Buffered.{octets_none, octets_joined}
use Rattle.field_words.specs.Words.{word_octets, words_octets, with_words}

pub words_length : (ws : List ℕ) → length (words_octets ws) ≡ 4 * length ws
unfolding words_octets
words_length [] = refl
words_length (w ∷ ws) =
    let h = words_length ws in
    omega arith

words_joined : (vs ws : List ℕ) → words_octets (vs ++ ws) ≡ words_octets vs ++ words_octets ws
unfolding words_octets
words_joined [] ws = refl
words_joined (v ∷ vs) ws = ap (λ (s : List ℕ). word_octets v ++ s) (words_joined vs ws)

pub words_none : (at : ℕ) (l : List ℕ) → with_words at [] l ≡ l
unfolding with_words words_octets
words_none at l = sym (octets_none l (4 * at))

-- one word more
pub words_more : (l : List ℕ) (at : ℕ) (ws : List ℕ) (i : ℕ) → i < length ws → 4 * at + 4 * length ws ≤ length l
    → with_octets (with_words at (take i ws) l) (4 * (at + i)) (drop 4 (to_be_bytes w64 (get_or ws i 0))) ≡ with_words at (take (i + 1) ws) l
unfolding with_words words_octets
words_more l at ws i h room =
    let w = get_or ws i 0 in
    let before = words_octets (take i ws) in
    let n : length before ≡ 4 * i = omega (arith, words_length (take i ws), length-take-le i ws (omega arith)) in
    let place : 4 * (at + i) ≡ 4 * at + length before = omega arith in
    let more : words_octets (take (i + 1) ws) ≡ before ++ word_octets w =
    ap words_octets (take_more ws i 0 h) ∙ words_joined (take i ws) (w ∷ []) in
    rw (place, more) (octets_joined l (4 * at) before (word_octets w) (omega arith))
