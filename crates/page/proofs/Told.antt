-- What holds of a result holds of it where another error is told in place of its own.
use Rattle.std.proofs.Common.{◌≡◌, sym}
use Rattle.std.specs.Prelude.{Result, Ok, Err, MatchResult, IfOk, OnOk, IsErrAnd}
use Rattle.std.proofs.lemmas.Result.{IfOk-at_ok}

pub value_told : {A E : Type 0} (D : Type 0) (r : Result A E) (x : A) (P : A → Type 0)
    → MatchResult r (λ y. ◌≡◌ {A = Result A D} (Ok x) (Ok y)) (λ _. ⊥) → IfOk r P → P x
value_told D (Ok y) x P e p = IfOk-at_ok P (sym e) p
value_told D (Err e) x P none p = absurd none

pub holds_told : {A E D : Type 0} (Q : E → D → Type 0) (r : Result A E) (told : Result A D) (P : Type 0)
    → MatchResult r (λ y. told ≡ Ok y) (λ e. IsErrAnd told (Q e)) → OnOk r P → OnOk told P
holds_told Q r (Err e) P cases p = tt
holds_told Q (Ok x) (Ok y) P cases p = p
holds_told Q (Err e) (Ok y) P none p = absurd none
