-- An operation on a valid store, from the reading on; and prepare and decide, which share their tests. Assumes nothing.
use Prim.Native.Nat.{ℕ}
use mathlib.Core.Path.{◌≡◌, ap, ◌∙◌}
use mathlib.Core.Bool.{true}
use mathlib.Core.List.{List, [], ◌∷◌, ◌++◌}
use lib.Dec.{eqb, leb}
use lib.ListN.{length}
use Rattle.order.specs.Steps.{Answer, gives, refused, onward, Steps, done, need, take, run}
use Rattle.order.proofs.Steps.{passes, run_follow}
use Rattle.chain.specs.Stored.{answered}
use Rattle.validity.specs.Valid.{valid_store}
use Rattle.message.specs.Messages.{Message, whole_message}
use Rattle.signing.specs.Times.{in_time}
use Rattle.signing.specs.Places.{in_range}
use Rattle.signing.specs.Signers.{signed}
use Rattle.verification.specs.Order.{own_position, Passed, passed, judging, verified, decision_of, decision, questions_for, prepared_of, preparation}
use Rattle.verification.specs.declared.judging.Situation.{Situation}
use Rattle.witnesses.specs.Table.{Case, EachReached, AllReached, unjudged}
use Rattle.store.specs.Slots.{store_length}

pub join : (t u : List (List Case)) → AllReached t → AllReached u → AllReached (t ++ u)
join [] u w v = v
join (g ∷ gs) u (e, w) v = (e, join gs u w v)

-- a store of the right length that is not bad
pub record Open (store : List ℕ) : Type 0 where
  pub size : eqb (length store) store_length ≡ true
  pub good : valid_store store ≡ true

abbrev pub Allowed : Situation → Type 0
Allowed x = (in_range x.position.latitude x.position.longitude ≡ true) × (leb x.age 600000000 ≡ true)

-- the tests from the reading on
abbrev pub by_signer : List ℕ → List ℕ → Situation → Message → Steps Passed
by_signer store octets x m = take (run (signed store octets m (own_position x))) (λ r. done (passed m r))

abbrev pub in_time_by : List ℕ → List ℕ → Situation → Message → Steps Passed
in_time_by store octets x m = need 14 (in_time m.headers.fields x.time x.age) (by_signer store octets x m)

abbrev pub later : List ℕ → List ℕ → Situation → Steps Passed
later store octets x = take (answered (whole_message octets)) (in_time_by store octets x)

module _ (store octets : List ℕ) (x : Situation) where
  pub judged : Open store → Allowed x → run (judging store octets x) ≡ run (later store octets x)
  judged o a = passes o.size 1 _ ∙ passes a.0 1 _ ∙ passes a.1 1 _ ∙ passes o.good 2 _

  -- what they answer of what the shared tests answer
  pub decided : (o : Answer Passed) → run (judging store octets x) ≡ o
      → (verdict certified : ℕ) → decision store octets x verdict certified ≡ decision_of (onward o (λ p. run (verified p verdict certified)))
  unfolding decision
  decided o e verdict certified =
      ap decision_of (run_follow (judging store octets x) (λ p. verified p verdict certified) ∙ ap (λ (a : Answer Passed). onward a (λ p. run (verified p verdict certified))) e)

  pub prepared : (o : Answer Passed) → run (judging store octets x) ≡ o → preparation store octets x ≡ prepared_of (onward o (λ p. gives (questions_for store p)))
  unfolding preparation run
  prepared o e =
      ap prepared_of (run_follow (judging store octets x) (λ p. done (questions_for store p)) ∙ ap (λ (a : Answer Passed). onward a (λ p. gives (questions_for store p))) e)

  pub both : (k : ℕ) → run (judging store octets x) ≡ refused k → EachReached (unjudged store octets x k)
  both k e = (prepared (refused k) e, (decided (refused k) e 1 1, tt))
