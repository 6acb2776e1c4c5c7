use Rattle.std.proofs.Common.{refl, sym, arith}
use Rattle.octets.specs.Outcomes.{number_of}
use Rattle.octets.proofs.Outcomes.{number_low, number_no_zero}
use Rattle.page_text.proofs.Printed.{refused_fits}
use Rattle.page_text.proofs.Pages.{named_long, named_below, named_fits, code_slots, printed_refusal, printed_list}
use Rattle.page_text.proofs.whole.write_page.Goals as goal

pub overflow_cast-result : goal.overflow_cast-result
overflow_cast-result c = omega (arith, refused_fits (number_of c.in-Err.refusal) (omega (arith, number_low c.in-Err.refusal)))

pub returns-in-Err : goal.returns-in-Err
returns-in-Err c =
    let a = c.args in
    rw (printed_refusal a.store.now a.id.now a.second c.in-Err.ensures (number_no_zero _)) c.write_refusal.ensures

pub slice_bounds-lent-end : goal.slice_bounds-lent-end
slice_bounds-lent-end c = (code_slots _ _ _ _ c.in-Ok.ensures).room

pub slice_bounds-write_list-end : goal.slice_bounds-write_list-end
slice_bounds-write_list-end c = sym (named_long _ (code_slots _ _ _ _ c.in-Ok.ensures))

pub write_list-requires : goal.write_list-requires
write_list-requires c =
    let slots = code_slots _ _ _ _ c.in-Ok.ensures in
    (omega arith, omega (arith, named_long _ slots, slots.few), omega arith, named_below _ slots)

pub overflow_cast-result-in-Ok : goal.overflow_cast-result-in-Ok
overflow_cast-result-in-Ok c =
    let a = c.args in
    let slots = code_slots _ _ _ _ c.in-Ok.ensures in
    omega (arith, named_fits _ slots a.store.now a.id.now a.second (omega arith) (omega arith))

pub returns-in-Ok : goal.returns-in-Ok
returns-in-Ok c =
    let a = c.args in
    let slots = code_slots _ _ _ _ c.in-Ok.ensures in
    rw (printed_list a.store.now a.id.now a.second c.in-Ok.ensures slots refl) c.write_list.ensures
