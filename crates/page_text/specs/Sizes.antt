-- How long the texts of the page program are at most, in octets.
use Rattle.std.specs.Prelude.{ℕ, ◌+◌, ◌*◌, length}
use Rattle.records.specs.Layout.{ID, NAME}
use Rattle.store.specs.Slots.{slot_count}
use Rattle.page_text.specs.Lines.{withdraw_word, at_word, certificates_word, refused_word, authority_word}

-- the decimal digits of a slot, and of any other number
abbrev pub slot_digits : ℕ
slot_digits = 2

abbrev pub number_digits : ℕ
number_digits = 10

-- two hexadecimal digits for each octet
abbrev pub id_length : ℕ
id_length = 2 * ID.count

abbrev pub name_length : ℕ
name_length = 2 * NAME.count

-- the longest word of a kind
abbrev pub kind_length : ℕ
kind_length = length authority_word

-- a slot, an id, a kind and a name, with a space or a line feed behind each
abbrev pub line_length : ℕ
line_length = (slot_digits + 1) + (id_length + 1) + (kind_length + 1) + (name_length + 1)

abbrev pub head_length : ℕ
head_length = length withdraw_word + id_length + length at_word + number_digits + 1

abbrev pub count_length : ℕ
count_length = number_digits + length certificates_word + 1

abbrev pub refusal_length : ℕ
refusal_length = length refused_word + number_digits + 1

-- a line for each slot
abbrev pub page_length : ℕ
page_length = head_length + slot_count * line_length + count_length
