-- The invariant: some permissions are read, and their ITS-AIDs are kept. Assumes nothing.
use Prim.Native.Nat.{ℕ, zero, suc, ◌≤◌}
use mathlib.Core.Path.{◌≡◌, refl, sym, ap, ◌∙◌}
use mathlib.Core.List.{List, [], ◌∷◌, map}
use native.Mathlib.Omega.{arith}
use native.Mathlib.Decide.{dec_le}
use native.Mathlib.Nat.{lt_of_not-le}
use lib.ListN.{length, set}
use Rattle.std.specs.Prelude.{Result, Ok, Err, IsOk}
use Rattle.octets.specs.Outcomes.{read_of}
use Rattle.octets.specs.Reading.{Out, refused, value_or}
use Rattle.octets.specs.Numbers.{intx_at}
use Rattle.octets.specs.declared.refusals.Refusal.{Refusal}
use Rattle.octets.proofs.Laws.{was, clash}
use Rattle.octets.proofs.Turns.{begin, again, stopped, done, fits, counted, filled}
use Rattle.attributes.specs.Permissions.{unused, permission_at}
use Rattle.attributes.specs.declared.permissions.Permission.{Permission}
use Rattle.entries.specs.Stored.{aid_of}
use Rattle.entries.specs.Outlines.{aids_placed}
use borrow.Author.Rules.{rules}
use Rattle.entries.proofs.aids_in.Goals as goal

set_mapped : (ps : List Permission) (i : ℕ) (p : Permission) → set (map aid_of ps) i (aid_of p) ≡ map aid_of (set ps i p)
set_mapped [] i p = refl
set_mapped (q ∷ ps) zero p = refl
set_mapped (q ∷ ps) (suc i) p = ap (λ (l : List ℕ). q.aid ∷ l) (set_mapped ps i p)

-- what is never refused was read
was_read : (r : Result (Permission × ℕ) Refusal) → ((n : ℕ) → read_of r ≡ refused n → ⊥) → IsOk r
was_read (Ok p) h = search rules
was_read (Err e) h = absurd (h _ refl)

pub loop-count-init : goal.loop-count-init
loop-count-init c = (_, begin (permission_at _) intx_at 16 unused _ _, refl)

pub returns-then-s-at : goal.returns-then-s-at
returns-then-s-at c =
    let i = c.loop-count.invariant in
    rw i.2 (sym (ap (λ (o : Out (List Permission)). aids_placed (value_or [] o)) (done (permission_at _) intx_at i.1 c.if-s-at.true) ∙ rw (filled (permission_at _) intx_at i.1, counted (permission_at _) intx_at i.1)))

pub unwrap-next-requires : goal.unwrap-next-requires
unwrap-next-requires c =
    let i = c.loop-count.invariant.1 in
    was_read c.permission_at.result (λ n e. clash (sym (stopped (permission_at _) intx_at i n c.if-s-at.false (omega arith) (sym c.permission_at.ensures ∙ e)) ∙ c.requires.2))

pub loop-count-preserved : goal.loop-count-preserved
loop-count-preserved c =
    let i = c.loop-count.invariant in (
      _,
      again (permission_at _) intx_at i.1 _ _ c.if-s-at.false (omega arith) (was read_of c.permission_at.ensures c.unwrap-next.ensures),
      ap (λ (l : List ℕ). set l c.loop-count.count (aid_of c.unwrap-next.result.0)) i.2 ∙ set_mapped i.0 c.loop-count.count _,
    )

-- where all places are filled, nothing is left to read
pub returns : goal.returns
returns c =
    let i = c.loop-count.invariant in
    let whole : c.loop-count.count ≡ 16 = omega arith in
    let ended : length c.args.s.now ≤ c.loop-count.at =
    elim (dec_le (length c.args.s.now) c.loop-count.at) [
      | yes h ↦ h
      | no h ↦ let k = fits (permission_at _) intx_at i.1 c.requires.2 (lt_of_not-le h) in absurd (omega (arith, k))
    ] in
    ap (λ (n : ℕ). record { count = n; values = c.loop-count.values }) (sym whole)
    ∙ rw i.2 (sym (ap (λ (o : Out (List Permission)). aids_placed (value_or [] o)) (done (permission_at _) intx_at i.1 ended) ∙ rw (filled (permission_at _) intx_at i.1, counted (permission_at _) intx_at i.1)))
