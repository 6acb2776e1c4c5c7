use Rattle.std.proofs.Common.{◌-◌, arith}
use native.Mathlib.Numerals.{add-one}
use Rattle.overview.proofs.Rounds.{no_level, links_within, next_level, still, last_level}
use Rattle.overview.proofs.levels.standing_set.Goals as goal

pub loop-init : goal.loop-init
loop-init c = no_level _ _

pub raised-next-requires : goal.raised-next-requires
raised-next-requires c = links_within _ _ _ c.write_links.ensures

pub returns-then-next-set : goal.returns-then-next-set
returns-then-next-set c =
    let L = c.loop in
    let links = c.write_links in
    last_level _ _ _ _ (omega arith) (still _ _ links.new.links links.ensures L.counter _ _ L.invariant c.raised-next.ensures c.if-next-set.true (8 - L.counter))

pub loop-preserved : goal.loop-preserved
loop-preserved c =
    let L = c.loop in
    let links = c.write_links in
    rw (add-one L.counter) (next_level _ _ links.new.links links.ensures L.counter _ _ L.invariant c.raised-next.ensures)

pub returns : goal.returns
returns c = last_level _ _ _ _ (omega arith) c.loop.invariant
