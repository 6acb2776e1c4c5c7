-- The laws of specs/Laws.antt hold. Assumes nothing.
use mathlib.Core.Path.{◌≡◌, refl, ◌∙◌}
use mathlib.Core.List.{List, ◌++◌}
use Prim.Native.Nat.{ℕ, ◌<◌}
use lib.ListN.{length, get_or, replicate}
use Rattle.octets.specs.Refusals.{ACCEPTED}
use Rattle.store.specs.Slots.{slot_count}
use Rattle.slot_lists.specs.Listings.{named}
use Rattle.page_text.specs.Lines.{lines_of, head_of, count_of, refused_of}
use Rattle.page_text.specs.Page.{input_length, store_in, id_in, second_in, page_text}
use Rattle.page_text.specs.Laws.{answer_to, line_count, Laws}
use Rattle.page_text.proofs.LineCounts.{all_lines, first_line, last_line, refusal_line}
use Rattle.page_text.proofs.Pages.{Slots, page_slots, named_long, named_below, printed_refusal, printed_list, other_length, that_length}

module _ (input : List ℕ) where
  slots : Slots (answer_to input)
  slots = page_slots (store_in input) (id_in input) (second_in input) (replicate slot_count 0)

  refusal : length input ≡ input_length → ¬ ((answer_to input).number ≡ ACCEPTED) → page_text input ≡ refused_of (answer_to input).number
  refusal e n = that_length input e ∙ printed_refusal (store_in input) (id_in input) (second_in input) refl n

  page : length input ≡ input_length → (answer_to input).number ≡ ACCEPTED
      → page_text input ≡ head_of (id_in input) (second_in input) ++ lines_of (store_in input) (named (answer_to input)) ++ count_of (answer_to input).n
  page e n = rw (named_long (answer_to input) slots) at (that_length input e ∙ printed_list (store_in input) (id_in input) (second_in input) refl slots n)

  counted : line_count (lines_of (store_in input) (named (answer_to input))) ≡ (answer_to input).n
  counted = all_lines (store_in input) (named (answer_to input)) ∙ named_long (answer_to input) slots

  in_store : (i : ℕ) → i < (answer_to input).n → get_or (named (answer_to input)) i 0 < slot_count
  in_store i h = named_below (answer_to input) slots i (rw (named_long (answer_to input) slots) h)

pub laws : Laws
laws =
    record {
      other_length = other_length;
      refusal = refusal;
      page = page;
      counted = counted;
      in_store = in_store;
      few = λ input. (slots input).few;
      first_line = first_line;
      last_line = last_line;
      refusal_line = refusal_line;
    }
