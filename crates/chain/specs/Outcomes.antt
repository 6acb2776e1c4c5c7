-- What the code answers, as an order of checks has it.
use Rattle.std.specs.Prelude.{Result, Ok, Err}
use Rattle.order.specs.Steps.{Answer, gives, refused}
use Rattle.octets.specs.Outcomes.{number_of}
use Rattle.octets.specs.declared.refusals.Refusal.{Refusal}

abbrev pub outcome_of : {A : Type 0} → Result A Refusal → Answer A
outcome_of (Ok a) = gives a
outcome_of (Err e) = refused (number_of e)
