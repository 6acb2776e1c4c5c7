-- What the code answers, as the definitions have it: a value with the position after it, or the number of a refusal.
use Rattle.std.specs.Prelude.{ℕ, Result, Ok, Err}
use Rattle.octets.specs.Refusals.{ACCEPTED, BAD_CALL, BAD_STORE, TOO_LONG, CUT, MALFORMED, UNSUPPORTED, UNKNOWN, WITHDRAWN, OTHER_CERTIFICATE, WRONG_KIND, NOT_PERMITTED, OUTSIDE_PERIOD, OUTSIDE_PLACE, OUT_OF_DATE, BAD_SIGNATURE, FULL, ALREADY_HELD, CHAIN_TOO_LONG}
use Rattle.octets.specs.Reading.{Out, got, refused}
use Rattle.octets.specs.declared.refusals.Refusal.{Refusal}
use Rattle.octets.specs.declared.refusals.Refusal.TheVariants as refusal

-- the number of a refusal
abbrev pub number_of : Refusal → ℕ
number_of refusal.BadCall = BAD_CALL
number_of refusal.BadStore = BAD_STORE
number_of refusal.TooLong = TOO_LONG
number_of refusal.Cut = CUT
number_of refusal.Malformed = MALFORMED
number_of refusal.Unsupported = UNSUPPORTED
number_of refusal.Unknown = UNKNOWN
number_of refusal.Withdrawn = WITHDRAWN
number_of refusal.OtherCertificate = OTHER_CERTIFICATE
number_of refusal.WrongKind = WRONG_KIND
number_of refusal.NotPermitted = NOT_PERMITTED
number_of refusal.OutsidePeriod = OUTSIDE_PERIOD
number_of refusal.OutsidePlace = OUTSIDE_PLACE
number_of refusal.OutOfDate = OUT_OF_DATE
number_of refusal.BadSignature = BAD_SIGNATURE
number_of refusal.Full = FULL
number_of refusal.AlreadyHeld = ALREADY_HELD
number_of refusal.ChainTooLong = CHAIN_TOO_LONG

-- what a reader answers
abbrev pub read_of : {A : Type 0} → Result (A × ℕ) Refusal → Out A
read_of (Ok r) = got r.0 r.1
read_of (Err e) = refused (number_of e)

-- the position that a reader answers, with a value that stands beside it
abbrev pub place_with : {A : Type 0} → A → Result ℕ Refusal → Out A
place_with a (Ok n) = got a n
place_with a (Err e) = refused (number_of e)

-- the position by itself
abbrev pub place_of : Result ℕ Refusal → Out ℕ
place_of r = place_with 0 r

-- the number of the answer of what may be refused
abbrev pub answer_of : {A : Type 0} → Result A Refusal → ℕ
answer_of (Ok a) = ACCEPTED
answer_of (Err e) = number_of e
