-- What the code answers on the way; no contract of an operation rests on it.
use Rattle.std.specs.Prelude.{◌≡◌, Bool, true, false, ◌&&◌, List, ℕ, zero, suc, ◌/◌, ◌%◌, ◌^◌, ◌<◌, get_or, eqb, None}
use Rattle.order.specs.Steps.{Answer, gives, refused}
use Rattle.octets.specs.Reading.{pick}
use Rattle.store.specs.Slots.{slot_count, filled_at}
use Rattle.store.specs.Withdrawn.{withdrawn_in}
use Rattle.chain.specs.Stored.{subject_at, walk_number, followers}
use Rattle.chain.specs.Computed.{stepped}
use Rattle.overview.specs.declared.links.Link.{Link}
use Rattle.overview.specs.declared.links.Link.TheVariants as link

abbrev pub link_of : Answer ℕ → Link
link_of (gives j) = link.To j
link_of (refused k) = pick (eqb k 0) link.AtRoot link.NoWay

-- where the walk goes from the certificate in slot i
unfoldable pub link_at : List ℕ → ℕ → ℕ → Link
link_at l t i = pick (filled_at l i) (link_of (stepped (withdrawn_in l) l t None followers (subject_at l i))) link.NoWay

-- the links of all slots
abbrev pub Links : List ℕ → ℕ → List Link → Type 0
Links l t links = (i : ℕ) → i < slot_count → get_or links i link.NoWay ≡ link_at l t i

-- a link is to a slot that a store has
abbrev pub Below : Link → Type 0
Below (link.To j) = j < slot_count
Below link.AtRoot = Unit {0}
Below link.NoWay = Unit {0}

abbrev pub Within : List Link → Type 0
Within links = (i : ℕ) → i < slot_count → Below (get_or links i link.NoWay)

-- a link leads to a slot of the set, or is a root's
unfoldable pub leads_to : ℕ → Link → Bool
leads_to set (link.To j) = eqb (set / 2 ^ j % 2) 1
leads_to set link.AtRoot = true
leads_to set link.NoWay = false

-- from the certificate in slot i a chain of at most n certificates, itself counted, reaches a root
unfoldable pub reaches : List ℕ → ℕ → ℕ → ℕ → Bool
reaches l t zero i = false
reaches l t (suc n) i = filled_at l i && eqb (walk_number (withdrawn_in l) l t None n (subject_at l i)) 0
