-- What several reads gave, and what it says of the whole input.
use Rattle.std.proofs.Common.{◌≡◌, ℕ, ◌+◌, ◌≤◌, ◌<◌, ◌⊎◌, inl, inr, List, [], ◌++◌, Option, None, Some, IfSome, length, take, sym, ap, ◌∙◌, subst, arith, append-nil, length-append, length-take-le}
use Rattle.std.proofs.Math.Nat.{eq-or-lt_of_le}
use Rattle.std.proofs.Math.Seq.{take-append-add, take-append-le}
use Rattle.std.specs.Io.KnownBytes.{Consumes, IsAtEnd}
use Rattle.page_text.specs.Page.{input_length, page_text}
use Rattle.page_text.proofs.Pages.{other_length}

-- n octets that a buffer had, and k that were read behind them
pub read_behind : (n k : ℕ) (before part after : List ℕ) → n ≤ length before → k ≤ length part
    → take (n + k) (take n before ++ (part ++ after)) ≡ take n before ++ take k part
read_behind n k before part after had read =
    ap (λ m. take (m + k) (take n before ++ (part ++ after))) (sym (length-take-le n before had))
    ∙ take-append-add (take n before) (part ++ after) k
    ∙ ap (λ l. take n before ++ l) (take-append-le k part after read)

-- a front that fills the room is no input's length, and neither is the whole
same_page : (front rest : List ℕ) (n room : ℕ) → room ≡ input_length + 1 → length front ≡ n
    → (n ≡ room) ⊎ (n < room) → (n < room → rest ≡ []) → page_text front ≡ page_text (front ++ rest)
same_page front rest n room e long (inl full) end =
    let other : ¬ (length front ≡ input_length) = omega arith in
    let more : ¬ (length (front ++ rest) ≡ input_length) = omega (arith, length-append front rest) in
    other_length front other ∙ sym (other_length (front ++ rest) more)
same_page front rest n room e long (inr less) end =
    ap page_text (sym (ap (λ l. front ++ l) (end less) ∙ append-nil front))

-- what holds of the page for what was read holds of the page for the whole input
pub page_of_all : (a b : Option (List ℕ)) (s : List ℕ) (n : ℕ) (P : List ℕ → Type 0) → length s ≡ input_length + 1 → n ≤ length s
    → Consumes a b (take n s) → (n < length s → IsAtEnd b) → P (page_text (take n s)) → IfSome a (λ input. P (page_text input))
page_of_all None b s n P room inside octets end holds = tt
page_of_all (Some xs) None s n P room inside octets end holds = absurd octets
page_of_all (Some xs) (Some ys) s n P room inside octets end holds =
    let same = same_page (take n s) ys n (length s) room (length-take-le n s inside) (eq-or-lt_of_le inside) end in
    subst P (same ∙ ap page_text (sym octets)) holds
