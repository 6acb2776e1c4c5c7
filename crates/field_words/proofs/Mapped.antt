-- What an array's `map` gives, where its closure computes a function. Assumes nothing.
use mathlib.Core.Path.{◌≡◌, sym, ◌∙◌}
use mathlib.Core.List.{List, map}
use Prim.Native.Nat.{ℕ}
use native.Mathlib.Omega.{arith}
use denote.Param.Members.{Mut}
use lib.ListN.{length, get_or, length-map, get_or-map}
use lib.Seq.{ext_get_or}
use Rattle.std.specs.Array.{IsMapOf}
use Rattle.std.specs.Fn.{Called}

pub maps_to : {F A : Type 0} (g : Mut F (A × Unit {0}) ℕ) (h : A → ℕ) (f : F) (d : A) (xs : List A) (ys : List ℕ) (n : ℕ)
    → ((p q : F) (x : A) (y : ℕ) → Called g p (x, tt) y q → y ≡ h x) → length xs ≡ n → IsMapOf g f xs ys n → ys ≡ map h xs
maps_to g h f d xs ys n pure e m =
    ext_get_or (h d) ys (map h xs) (omega (arith, m.long, length-map xs h))
    (λ i b.
    let c = m.at i d (h d) (omega (arith, m.long)) in
    pure c.0 c.1 (get_or xs i d) (get_or ys i (h d)) c.2 ∙ sym (get_or-map h xs i d))
