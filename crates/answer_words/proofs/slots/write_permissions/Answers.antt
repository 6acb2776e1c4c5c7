-- The count, then the numbers. Assumes nothing.
use mathlib.Core.List.{map, map-id}
use mathlib.Core.Path.{◌≡◌, ◌∙◌}
use lib.ListN.{length}
use Rattle.field_words.proofs.Mapped.{maps_to}
use borrow.Author.Rules.{rules}
use Rattle.answer_words.specs.Slots.{with_permissions}
use Rattle.answer_words.proofs.slots.write_permissions.Goals as goal

pub returns : goal.returns
unfolding with_permissions
returns c =
    let values = c.args.permissions.values in
    let n : length values ≡ 16 = search rules in
    let words : c.map-words.result ≡ map (λ aid. aid) values =
    maps_to _ (λ aid. aid) _ 0 values c.map-words.result 16 (λ p q x y k. search rules) n c.map-words.ensures.items in
    rw (← (words ∙ map-id values)) cc
