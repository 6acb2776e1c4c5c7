-- `field_words::fields::write_permissions` meets its contract: one writing after the other. Assumes nothing.
use mathlib.Core.List.{map}
use mathlib.Core.Path.{◌≡◌}
use lib.ListN.{length}
use borrow.Author.Rules.{rules}
use Rattle.attributes.specs.Permissions.{unused}
use Rattle.field_words.specs.Fields.{with_permissions}
use Rattle.field_words.proofs.Mapped.{maps_to}
use Rattle.field_words.proofs.fields.write_permissions.Goals as goal

pub returns : goal.returns
unfolding with_permissions
returns c =
    let values = c.args.values in
    let n : length values ≡ 16 = search rules in
    let aids : c.map-aids.result ≡ map (λ p. p.aid) values =
    maps_to _ (λ p. p.aid) _ unused values c.map-aids.result 16 (λ p q x y k. search rules) n c.map-aids.ensures.items in
    let starts : c.map-starts.result ≡ map (λ p. p.ssp.start) values =
    maps_to _ (λ p. p.ssp.start) _ unused values c.map-starts.result 16 (λ p q x y k. search rules) n c.map-starts.ensures.items in
    let lengths : c.map-lengths.result ≡ map (λ p. p.ssp.length) values =
    maps_to _ (λ p. p.ssp.length) _ unused values c.map-lengths.result 16 (λ p q x y k. search rules) n c.map-lengths.ensures.items in
    rw (← aids, ← starts, ← lengths) cc
