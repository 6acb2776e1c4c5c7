-- A refusal that goes on up by `?`. Assumes nothing.
use Rattle.std.proofs.Common.{◌≡◌, ◌≢◌, ◌≤◌, ◌∙◌, refl, sym, ap, subst, arith, true, false, T}
use Rattle.std.specs.Prelude.{Result, Ok, Err, IsErrAnd, is_ok}
use Rattle.octets.specs.Outcomes.{number_of, answer_of}
use Rattle.octets.specs.declared.refusals.Refusal.{Refusal}
use Rattle.octets.specs.declared.refusals.Refusal.TheVariants as refusal
use Rattle.std.proofs.lemmas.Bool.Decides.{nat_tests}
use Rattle.std.proofs.lemmas.Result.{err_from_is_err_and}

-- what the exit of a `?` returns
pub passed_on : {A E : Type 0} (r : Result A E) (e : E) → IsErrAnd r (λ y. y ≡ e) → r ≡ Err e
passed_on r e h = let p = err_from_is_err_and r h in p.1 ∙ ap Err p.2

-- a refusal is no acceptance
pub number_no_zero : (e : Refusal) → number_of e ≢ 0
number_no_zero refusal.BadCall h = omega arith
number_no_zero refusal.BadStore h = omega arith
number_no_zero refusal.TooLong h = omega arith
number_no_zero refusal.Cut h = omega arith
number_no_zero refusal.Malformed h = omega arith
number_no_zero refusal.Unsupported h = omega arith
number_no_zero refusal.Unknown h = omega arith
number_no_zero refusal.Withdrawn h = omega arith
number_no_zero refusal.OtherCertificate h = omega arith
number_no_zero refusal.WrongKind h = omega arith
number_no_zero refusal.NotPermitted h = omega arith
number_no_zero refusal.OutsidePeriod h = omega arith
number_no_zero refusal.OutsidePlace h = omega arith
number_no_zero refusal.OutOfDate h = omega arith
number_no_zero refusal.BadSignature h = omega arith
number_no_zero refusal.Full h = omega arith
number_no_zero refusal.AlreadyHeld h = omega arith
number_no_zero refusal.ChainTooLong h = omega arith

-- the numbers end with 18
pub number_low : (e : Refusal) → number_of e ≤ 18
number_low refusal.BadCall = omega arith
number_low refusal.BadStore = omega arith
number_low refusal.TooLong = omega arith
number_low refusal.Cut = omega arith
number_low refusal.Malformed = omega arith
number_low refusal.Unsupported = omega arith
number_low refusal.Unknown = omega arith
number_low refusal.Withdrawn = omega arith
number_low refusal.OtherCertificate = omega arith
number_low refusal.WrongKind = omega arith
number_low refusal.NotPermitted = omega arith
number_low refusal.OutsidePeriod = omega arith
number_low refusal.OutsidePlace = omega arith
number_low refusal.OutOfDate = omega arith
number_low refusal.BadSignature = omega arith
number_low refusal.Full = omega arith
number_low refusal.AlreadyHeld = omega arith
number_low refusal.ChainTooLong = omega arith

-- accepted is what is not refused
pub accepted : {A : Type 0} (r : Result A Refusal) → is_ok r ≡ true → answer_of r ≡ 0
accepted (Ok a) h = refl
accepted (Err e) h = absurd (subst T (sym h) tt)

pub not_accepted : {A : Type 0} (r : Result A Refusal) → is_ok r ≡ false → answer_of r ≢ 0
not_accepted (Ok a) h = absurd (subst T h tt)
not_accepted (Err e) h = number_no_zero e

-- what the answers of a reader need beside its definition
pub ruleset reading = (passed_on, nat_tests)
