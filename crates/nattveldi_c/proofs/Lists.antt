-- What a list answers, whatever the list and the store are left as. Assumes nothing.
use mathlib.Core.Path.{◌≡◌, refl}
use mathlib.Core.List.{List, []}
use Prim.Native.Nat.{ℕ}
use lib.IntN.{ℤ}
use Rattle.std.specs.Prelude.{Result, Ok, Err}
use Rattle.octets.specs.declared.refusals.Refusal.{Refusal}
use Rattle.slot_lists.specs.Listings.{listing}
use Rattle.nattveldi_c.specs.Calls.{count_of, list_answer}

module _ (l s : List ℕ) where
  pub same_n : (r : Result ℕ Refusal) → (listing r l s).n ≡ (listing r [] []).n
  same_n (Ok n) = refl
  same_n (Err e) = refl

  pub same_answer : (r : Result ℕ Refusal) → ◌≡◌ {A = ℤ × List ℕ × List ℕ} (count_of (listing r [] []).number (listing r [] []).n, l, s) (list_answer (listing r l s))
  same_answer (Ok n) = refl
  same_answer (Err e) = refl
