use Rattle.std.proofs.Common.{◌∙◌, sym, arith}
use Rattle.chain.proofs.Own.{own_gone, own_early, own_late, own_place}
use Rattle.chain.proofs.signers.own.Goals as goal

pub returns-then-withdrawn_id : goal.returns-then-withdrawn_id
returns-then-withdrawn_id c = own_gone _ _ _ _ (sym c.withdrawn_id.ensures ∙ c.if-withdrawn_id.true)

pub returns-then-second-from : goal.returns-then-second-from
returns-then-second-from c = own_early _ _ _ _ (sym c.withdrawn_id.ensures ∙ c.if-withdrawn_id.false) (omega arith)

pub returns-then-scope-second : goal.returns-then-scope-second
returns-then-scope-second c = own_late _ _ _ _ (sym c.withdrawn_id.ensures ∙ c.if-withdrawn_id.false) (omega arith) (omega arith)

pub returns : goal.returns
returns c = c.place_of.ensures ∙ own_place _ _ _ _ (sym c.withdrawn_id.ensures ∙ c.if-withdrawn_id.false) (omega arith) (omega arith)
