use Rattle.std.proofs.Common.{◌≤◌, length, sym, arith, length-take-le}
use Rattle.page_text.proofs.Pages.{call_inside}
use Rattle.page_text.specs.Sizes.{page_length}
use Rattle.page.proofs.Texts.{text_in_front}
use Rattle.page.proofs.print_page.Goals as goal

pub slice_bounds-text-end : goal.slice_bounds-text-end
slice_bounds-text-end g c = call_inside _ _ c.page-n.ensures c.page-n.auto.text

pub slice_bounds-write_all-end : goal.slice_bounds-write_all-end
slice_bounds-write_all-end g c =
    sym (length-take-le _ _ (call_inside _ _ c.page-n.ensures c.page-n.auto.text))

pub returns : goal.returns
returns g c =
    let room : page_length ≤ length c.room_for_text-text.result = omega (arith, c.room_for_text-text.ensures) in
    rw (← text_in_front _ _ room c.page-n.ensures) c.write_all.ensures.bytes
