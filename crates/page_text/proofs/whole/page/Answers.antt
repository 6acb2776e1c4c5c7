-- `page_text::whole::page` meets its contract: a buffer that is too small, another length, a page. Assumes nothing.
use native.Mathlib.Omega.{arith}
use lib.ListN.{length-take, length-drop, drop}
use Rattle.records.specs.Layout.{ID}
use Rattle.store.specs.Slots.{store_length}
use Rattle.page_text.proofs.Printed.{refused_fits}
use Rattle.page_text.proofs.Pages.{other_length, that_length, call_small, call_text}
use Rattle.page_text.proofs.whole.page.Goals as goal

pub returns-then-text-lt-PAGE_LENGTH : goal.returns-then-text-lt-PAGE_LENGTH
returns-then-text-lt-PAGE_LENGTH c = call_small c.args.input.now c.args.text.now (omega arith)

pub overflow_cast-result : goal.overflow_cast-result
overflow_cast-result c = omega (arith, refused_fits 1 (omega arith))

pub returns-then-input-ne-INPUT_LENGTH : goal.returns-then-input-ne-INPUT_LENGTH
returns-then-input-ne-INPUT_LENGTH c =
    let a = c.args in
    call_text a.input.now a.text.now (omega arith) (rw (other_length a.input.now (λ e. omega arith)) c.write_refusal.ensures)

pub write_page-requires : goal.write_page-requires
write_page-requires c =
    let input = c.args.input.now in
    (omega (arith, length-take ID.count (drop store_length input), length-drop store_length input), omega arith)

pub returns : goal.returns
returns c =
    let a = c.args in
    let split = rw c.unwrap.ensures at c.split_first_chunk.ensures.cases in
    call_text a.input.now a.text.now (omega arith)
    (rw (that_length a.input.now (omega arith)) (rw (split.0, c.second_of-second.ensures) at c.write_page.ensures))
