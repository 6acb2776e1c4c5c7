-- What an operation that lists slots answers (01, "Order of checks": "The list's first n octets are slot numbers; the others stay").
use Rattle.std.specs.Prelude.{List, ℕ, length, take, Result, Ok, Err}
use Rattle.octets.specs.Buffers.{with_front}
use Rattle.octets.specs.Refusals.{ACCEPTED}
use Rattle.octets.specs.Outcomes.{number_of}
use Rattle.octets.specs.declared.refusals.Refusal.{Refusal}

-- the number, n, and the lent list and the store as they are left
pub record Listing : Type 0 where
  pub number : ℕ
  pub n : ℕ
  pub list : List ℕ
  pub store : List ℕ

abbrev pub refused_list : ℕ → List ℕ → List ℕ → Listing
refused_list k l s = record { number = k; n = 0; list = l; store = s }

-- what the code's answer, the list and the store that it leaves say
abbrev pub listing : Result ℕ Refusal → List ℕ → List ℕ → Listing
listing (Ok n) l s = record { number = ACCEPTED; n = n; list = l; store = s }
listing (Err e) l s = refused_list (number_of e) l s

-- the slots are written to the front of the list
abbrev pub written : List ℕ → List ℕ → List ℕ → Listing
written slots l s = record { number = ACCEPTED; n = length slots; list = with_front slots l; store = s }

-- the slots that the list names: its first n octets
abbrev pub named : Listing → List ℕ
named p = take p.n p.list
