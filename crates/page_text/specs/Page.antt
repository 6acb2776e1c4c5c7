-- The page program (01, "The page program"): the text that it prints for what standard input holds.
use Rattle.std.specs.Prelude.{ℕ, ◌+◌, List, ◌++◌, length, take, drop, replicate, eqb, leb}
use Rattle.octets.specs.Reading.{pick}
use Rattle.octets.specs.Refusals.{ACCEPTED, BAD_CALL}
use Rattle.octets.specs.Buffers.{with_front}
use Rattle.bitfields.specs.Field.{number}
use Rattle.records.specs.Layout.{ID}
use Rattle.store.specs.Slots.{slot_count, store_length}
use Rattle.slot_lists.specs.Listings.{Listing, named}
use Rattle.withdrawal.specs.Order.{page}
use Rattle.page_text.specs.Lines.{lines_of, head_of, count_of, refused_of}
use Rattle.page_text.specs.Sizes.{page_length}

-- "Standard input holds the store, 8 octets id, 4 octets second, big-endian: 13,580 octets"
abbrev pub id_end : ℕ
id_end = store_length + ID.count

abbrev pub second_length : ℕ
second_length = 4

abbrev pub input_length : ℕ
input_length = id_end + second_length

abbrev pub store_in : List ℕ → List ℕ
store_in input = take store_length input

abbrev pub id_in : List ℕ → List ℕ
id_in input = take ID.count (drop store_length input)

abbrev pub second_in : List ℕ → ℕ
second_in input = number (take second_length (drop id_end input))

-- what list gives there, into a list of zeros
abbrev pub listed : List ℕ → List ℕ → ℕ → Listing
listed store id second = page store id second (replicate slot_count 0)

-- the first line, a line for each certificate of the list, and the count; or the number of the refusal
unfoldable pub page_of : List ℕ → List ℕ → ℕ → Listing → List ℕ
page_of store id second p =
    pick (eqb p.number ACCEPTED) (head_of id second ++ lines_of store (named p) ++ count_of p.n) (refused_of p.number)

-- the whole text; "any other length prints `refused 1`"
unfoldable pub page_text : List ℕ → List ℕ
page_text input =
    pick (eqb (length input) input_length)
    (page_of (store_in input) (id_in input) (second_in input) (listed (store_in input) (id_in input) (second_in input)))
    (refused_of BAD_CALL)

-- the call: how long the text is, and the lent buffer, which has the text at its front; the rest of it stays.
-- House: a buffer that does not hold every text, under 6,144 octets, gets nothing
unfoldable pub page_call : List ℕ → List ℕ → ℕ × List ℕ
page_call input buffer = pick (leb page_length (length buffer)) (length (page_text input), with_front (page_text input) buffer) (0, buffer)
