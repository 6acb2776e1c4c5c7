-- Octets in a buffer, and octets that are written one behind the other. Assumes nothing.
use mathlib.Core.Path.{◌≡◌, sym, ap, ◌∙◌}
use mathlib.Core.List.{List, [], ◌∷◌, ◌++◌, append_assoc}
use Prim.Native.Nat.{ℕ, ◌+◌, ◌≤◌, ◌<◌}
use native.Mathlib.Omega.{arith}
use lib.ListN.{length, take, drop, set, length-append}
use lib.Seq.{paste, paste-zero, length-paste, length-take-le, take-length, take_at, drop_at, drop-drop, sets-eq}
use Rattle.octets.specs.Buffers.{with_front, with_octets}

-- a loop that copies has written the octets when it has copied all of them
pub octets_pasted : (l : List ℕ) (at : ℕ) (octets : List ℕ) → paste l at octets (length octets) ≡ with_octets l at octets
unfolding with_octets
octets_pasted l at octets = rw (take-length octets)

pub octets_none : (l : List ℕ) (at : ℕ) → l ≡ with_octets l at []
unfolding with_octets
octets_none l at = paste-zero l at []

pub octets_one : (l : List ℕ) (at c : ℕ) → at < length l → set l at c ≡ with_octets l at (c ∷ [])
unfolding with_octets
octets_one l at c h = sets-eq (c ∷ []) l at (omega arith)

pub octets_long : (l : List ℕ) (at : ℕ) (octets : List ℕ) → at + length octets ≤ length l → length (with_octets l at octets) ≡ length l
octets_long l at octets h = ap length (sym (octets_pasted l at octets)) ∙ length-paste l at octets (length octets) h (omega arith)

-- octets at place 0 are the front
pub octets_front : (l octets : List ℕ) → with_octets l 0 octets ≡ with_front octets l
unfolding with_octets
octets_front l octets =
    let e : 0 + length octets ≡ length octets = omega arith in
    rw e

-- both joined
pub octets_joined : (l : List ℕ) (at : ℕ) (a b : List ℕ) → at + length a + length b ≤ length l
    → with_octets (with_octets l at a) (at + length a) b ≡ with_octets l at (a ++ b)
unfolding with_octets
octets_joined l at a b h =
    let front : List ℕ = take at l ++ a in
    let n : ℕ = at + length a in
    let behind : List ℕ = drop n l in
    let room : at ≤ length l = omega arith in
    let long : length front ≡ n = length-append (take at l) a ∙ ap (λ (k : ℕ). k + length a) (length-take-le at l room) in
    let ends : n + length b ≡ at + length (a ++ b) = omega (arith, length-append a b) in
    ap (λ (t : List ℕ). t ++ b ++ drop (n + length b) (front ++ behind)) (take_at front behind n long)
    ∙ ap (λ (t : List ℕ). front ++ b ++ t)
    (sym (drop-drop (length b) n (front ++ behind)) ∙ ap (drop (length b)) (drop_at front behind n long) ∙ drop-drop (length b) n l)
    ∙ ap (λ (t : List ℕ). t ++ drop (n + length b) l) (append_assoc (take at l) a b)
    ∙ ap (λ (k : ℕ). take at l ++ (a ++ b) ++ drop k l) ends
