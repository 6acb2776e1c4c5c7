-- What the code answers on the way; no contract of an operation rests on it.
use Rattle.std.specs.Prelude.{Bool, not, ◌&&◌, List, ℕ}
use Rattle.order.specs.Steps.{Answer, gives, refused, pick}
use Rattle.octets.specs.Refusals.{WITHDRAWN}
use Rattle.store.specs.Slots.{id_at}
use Rattle.store.specs.Withdrawn.{withdrawn_in}
use Rattle.chain.specs.Stored.{stands_by}
use Rattle.chain.specs.Computed.{no_slot, also_at}

-- a slot that was found, unless its certificate counts as withdrawn
unfoldable pub held_at : List ℕ → ℕ → Answer ℕ
held_at store slot = pick (withdrawn_in store (id_at store slot)) (refused WITHDRAWN) (gives slot)

-- what falls, read off the old store alone
unfoldable pub falls_with : List ℕ → ℕ → ℕ → ℕ → Bool
falls_with store t c i = stands_by (also_at store no_slot) store t i && not (stands_by (also_at store c) store t i)
