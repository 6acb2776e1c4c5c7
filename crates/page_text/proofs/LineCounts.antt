-- How many lines a text has: no digit and no word has a line feed. Assumes nothing.
use mathlib.Core.Path.{◌≡◌, refl, ◌∙◌}
use mathlib.Core.Bool.{Bool, true, false}
use mathlib.Core.List.{List, [], ◌∷◌, ◌++◌}
use Prim.Native.Nat.{ℕ, zero, suc, ◌+◌, ◌/◌, ◌%◌, ◌<◌}
use native.Mathlib.Omega.{arith}
use lib.Dec.{eqb, ltb}
use lib.ListN.{length, take}
use borrow.Author.Tests.{ne_eqb}
use Rattle.octets.specs.Reading.{pick}
use Rattle.octets.specs.Kinds.{AUTHORITY, ROOT}
use Rattle.text.specs.Text.{hex_digit, hex_of, digits_of, decimal_of}
use Rattle.records.specs.declared.Name.{Name}
use Rattle.records.specs.declared.Record.{Record}
use Rattle.records.specs.Records.{record_of}
use Rattle.store.specs.Slots.{slot_of}
use Rattle.page_text.specs.Lines.{withdraw_word, at_word, certificates_word, refused_word, root_word, authority_word, ticket_word, space, hyphen, line_feed, kind_word, name_of, line_of, lines_of, head_of, count_of, refused_of}
use Rattle.page_text.specs.Laws.{line_count}

joined : (a b : List ℕ) → line_count (a ++ b) ≡ line_count a + line_count b
unfolding line_count
joined [] b = omega arith
joined (c ∷ a) b = omega (arith, joined a b)

none : line_count [] ≡ 0
unfolding line_count
none = refl

-- an octet above 10 ends no line
behind : (c : ℕ) (s : List ℕ) → 10 < c → line_count (c ∷ s) ≡ line_count s
unfolding line_count
behind c s h = rw (ne_eqb c 10 (λ e. omega arith)) (omega arith)

digit_high : (n : ℕ) → 10 < hex_digit n
unfolding hex_digit
digit_high n = picked (ltb n 10)
  where
    picked : (b : Bool) → 10 < pick b (48 + n) (87 + n)
    picked true = omega arith
    picked false = omega arith

in_hex : (s : List ℕ) → line_count (hex_of s) ≡ 0
unfolding hex_of
in_hex [] = none
in_hex (a ∷ s) = behind (hex_digit (a / 16)) _ (digit_high (a / 16)) ∙ behind (hex_digit (a % 16)) _ (digit_high (a % 16)) ∙ in_hex s

in_digits : (n x : ℕ) → line_count (digits_of n x) ≡ 0
unfolding digits_of
in_digits zero x = none
in_digits (suc n) zero = none
in_digits (suc n) (suc x) =
    let d = 48 + suc x % 10 in
    omega (arith, joined (digits_of n (suc x / 10)) (d ∷ []), in_digits n (suc x / 10), behind d [] (omega arith), none)

in_decimal : (x : ℕ) → line_count (decimal_of x) ≡ 0
unfolding decimal_of
in_decimal zero = unfold line_count in refl
in_decimal (suc x) = in_digits (suc x) (suc x)

in_picked : (b : Bool) (x y : List ℕ) → line_count x ≡ 0 → line_count y ≡ 0 → line_count (pick b x y) ≡ 0
in_picked true x y e f = e
in_picked false x y e f = f

in_kind : (kind : ℕ) → line_count (kind_word kind) ≡ 0
unfolding kind_word line_count
in_kind kind = in_picked (eqb kind ROOT) root_word _ refl (in_picked (eqb kind AUTHORITY) authority_word ticket_word refl refl)

in_name : (name : Name) → line_count (name_of name) ≡ 0
unfolding name_of
in_name name = in_picked (eqb name.length 0) hyphen _ (unfold line_count in refl) (in_hex (take name.length name.octets))

pub one_line : (slot : ℕ) (r : Record) → line_count (line_of slot r) ≡ 1
unfolding line_of
one_line slot r =
    let s : line_count space ≡ 0 = unfold line_count in refl in
    let f : line_count line_feed ≡ 1 = unfold line_count in refl in
    simp joined (omega (arith, in_decimal slot, in_hex r.id, in_kind r.scope.kind, in_name r.name))

pub all_lines : (store slots : List ℕ) → line_count (lines_of store slots) ≡ length slots
unfolding lines_of
all_lines store [] = none
all_lines store (slot ∷ slots) =
    let r = record_of (slot_of store slot) in
    omega (arith, joined (line_of slot r) (lines_of store slots), one_line slot r, all_lines store slots)

pub first_line : (id : List ℕ) (second : ℕ) → line_count (head_of id second) ≡ 1
unfolding head_of
first_line id second =
    let w : line_count withdraw_word ≡ 0 = unfold line_count in refl in
    let a : line_count at_word ≡ 0 = unfold line_count in refl in
    let f : line_count line_feed ≡ 1 = unfold line_count in refl in
    simp joined (omega (arith, in_hex id, in_decimal second))

pub last_line : (n : ℕ) → line_count (count_of n) ≡ 1
unfolding count_of
last_line n =
    let w : line_count certificates_word ≡ 0 = unfold line_count in refl in
    let f : line_count line_feed ≡ 1 = unfold line_count in refl in
    simp joined (omega (arith, in_decimal n))

pub refusal_line : (n : ℕ) → line_count (refused_of n) ≡ 1
unfolding refused_of
refusal_line n =
    let w : line_count refused_word ≡ 0 = unfold line_count in refl in
    let f : line_count line_feed ≡ 1 = unfold line_count in refl in
    simp joined (omega (arith, in_decimal n))
