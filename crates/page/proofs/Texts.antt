-- The text that `page` answers stands at the front of its buffer.
use Rattle.std.proofs.Common.{◌≡◌, ℕ, ◌≤◌, List, length, take, drop, ap, ◌∙◌}
use lib.Seq.{take-append_seam}
use borrow.Author.Tests.{le-leb}
use Rattle.page_text.specs.Page.{page_text, page_call}
use Rattle.page_text.specs.Sizes.{page_length}

pub text_in_front : (input buffer : List ℕ) {r : ℕ} {out : List ℕ} → page_length ≤ length buffer
    → ◌≡◌ {A = ℕ × List ℕ} (r, out) (page_call input buffer) → take r out ≡ page_text input
unfolding page_call
text_in_front input buffer room e =
    let text = page_text input in
    let whole = rw (le-leb page_length (length buffer) room) at e in
    ap (λ (x : ℕ × List ℕ). take x.0 x.1) whole ∙ take-append_seam text (drop (length text) buffer)
