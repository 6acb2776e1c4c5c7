-- The lines: which words they have, how long they are, and one line more. Assumes nothing.
use mathlib.Core.Path.{◌≡◌, refl, ap, ◌∙◌}
use mathlib.Core.Bool.{Bool, true, false}
use mathlib.Core.List.{List, [], ◌∷◌, ◌++◌, append_assoc, append-nil}
use Prim.Native.Nat.{ℕ, suc, ◌+◌, ◌*◌, ◌^◌, ◌≤◌, ◌<◌}
use native.Mathlib.Numerals.{add-one}
use native.Mathlib.Omega.{arith}
use lib.Dec.{eqb}
use lib.ListN.{length, get_or, take, length-append, length-take}
use lib.Seq.{take_all, take-suc}
use borrow.Author.Tests.{eq-eqb, ne_eqb}
use Rattle.octets.specs.Reading.{pick}
use Rattle.octets.specs.Kinds.{AUTHORITY, ROOT}
use Rattle.text.specs.Text.{hex_of, decimal_of, Written}
use Rattle.text.proofs.Texts.{written_more}
use Rattle.text.proofs.Hex.{hex_long}
use Rattle.text.proofs.Decimals.{decimal_short, decimal_ten}
use Rattle.records.specs.declared.Name.{Name}
use Rattle.records.specs.declared.Record.{Record}
use Rattle.records.specs.Layout.{ID, NAME}
use Rattle.records.specs.Records.{record_of}
use Rattle.records.proofs.Decoded.{decoded_sized}
use Rattle.store.specs.Slots.{slot_count, slot_of}
use Rattle.page_text.specs.Lines.{root_word, authority_word, ticket_word, hyphen, line_feed, kind_word, name_of, line_of, lines_of, head_of, count_of, refused_of}
use Rattle.page_text.specs.Sizes.{slot_digits, id_length, name_length, kind_length, line_length, head_length, count_length, refusal_length, page_length}

module _ (kind : ℕ) where
  pub kind_root : kind ≡ ROOT → kind_word kind ≡ root_word
  unfolding kind_word
  kind_root e = rw (eq-eqb kind ROOT e)

  pub kind_authority : kind ≡ AUTHORITY → kind_word kind ≡ authority_word
  unfolding kind_word
  kind_authority e = rw e

  pub kind_ticket : ¬ (kind ≡ ROOT) → ¬ (kind ≡ AUTHORITY) → kind_word kind ≡ ticket_word
  unfolding kind_word
  kind_ticket n m = rw (ne_eqb kind ROOT n, ne_eqb kind AUTHORITY m)

picked : (a b : Bool) (n : ℕ) (x y z : List ℕ) → length x ≤ n → length y ≤ n → length z ≤ n → length (pick a x (pick b y z)) ≤ n
picked true b n x y z hx hy hz = hx
picked false true n x y z hx hy hz = hy
picked false false n x y z hx hy hz = hz

pub kind_fits : (kind : ℕ) → length (kind_word kind) ≤ kind_length
unfolding kind_word
kind_fits kind = picked (eqb kind ROOT) (eqb kind AUTHORITY) kind_length root_word authority_word ticket_word (omega arith) (omega arith) (omega arith)

module _ (name : Name) where
  pub name_none : name.length ≡ 0 → name_of name ≡ hyphen
  unfolding name_of
  name_none e = rw (eq-eqb name.length 0 e)

  pub name_some : ¬ (name.length ≡ 0) → name_of name ≡ hex_of (take name.length name.octets)
  unfolding name_of
  name_some n = rw (ne_eqb name.length 0 n)

  module _ (long : length name.octets ≡ NAME.count) where
    pub name_all : NAME.count < name.length → name_of name ≡ hex_of name.octets
    name_all h = name_some (λ e. omega arith) ∙ ap hex_of (take_all name.length name.octets (omega arith))

    pub name_fits : length (name_of name) ≤ name_length
    unfolding name_of
    name_fits =
        let part = take name.length name.octets in
        picked (eqb name.length 0) true name_length hyphen (hex_of part) [] (omega arith)
        (omega (arith, hex_long part, length-take name.length name.octets)) (omega arith)

pub decimal_two : (x : ℕ) → x < slot_count → length (decimal_of x) ≤ slot_digits
decimal_two x h = decimal_short 1 x (omega arith)

pub head_fits : (id : List ℕ) (second : ℕ) → length id ≡ ID.count → second < 2 ^ 32 → length (head_of id second) ≤ head_length
unfolding head_of
head_fits id second e h = simp length-append (omega (arith, hex_long id, decimal_ten second h))

pub line_fits : (slot : ℕ) (r : Record) → slot < slot_count → length r.id ≡ ID.count → length r.name.octets ≡ NAME.count → length (line_of slot r) ≤ line_length
unfolding line_of
line_fits slot r h id name =
    simp length-append (omega (arith, decimal_two slot h, hex_long r.id, kind_fits r.scope.kind, name_fits r.name name))

-- the eight pieces of a line, one behind the other
pub line_written : (l : List ℕ) (at : ℕ) (d b x k n : List ℕ) {p1 p2 p3 p4 p5 p6 p7 r : ℕ} {m1 m2 m3 m4 m5 m6 m7 out : List ℕ}
    → Written l at d p1 m1 → Written m1 p1 b p2 m2 → Written m2 p2 x p3 m3 → Written m3 p3 b p4 m4 → Written m4 p4 k p5 m5
    → Written m5 p5 b p6 m6 → Written m6 p6 n p7 m7 → Written m7 p7 line_feed r out
    → length d ≤ slot_digits → length b ≡ 1 → length x ≤ id_length → length k ≤ kind_length → length n ≤ name_length → at + line_length ≤ length l
    → Written l at (d ++ b ++ x ++ b ++ k ++ b ++ n ++ line_feed) r out
line_written l at d b x k n w1 w2 w3 w4 w5 w6 w7 w8 hd hb hx hk hn room =
    let two = written_more l at d b w1 w2 (omega arith) in
    let three = written_more l at (d ++ b) x two w3 (omega arith) in
    let four = written_more l at (d ++ b ++ x) b three w4 (omega arith) in
    let five = written_more l at (d ++ b ++ x ++ b) k four w5 (omega arith) in
    let six = written_more l at (d ++ b ++ x ++ b ++ k) b five w6 (omega arith) in
    let seven = written_more l at (d ++ b ++ x ++ b ++ k ++ b) n six w7 (omega arith) in
    written_more l at (d ++ b ++ x ++ b ++ k ++ b ++ n) line_feed seven w8 (omega arith)

module _ (store : List ℕ) where
  -- the line of the certificate in a slot
  abbrev pub line_at : ℕ → List ℕ
  line_at slot = line_of slot (record_of (slot_of store slot))

  pub line_at_fits : (slot : ℕ) → slot < slot_count → length (line_at slot) ≤ line_length
  line_at_fits slot h =
      let sized = decoded_sized (slot_of store slot) in
      line_fits slot (record_of (slot_of store slot)) h sized.id_long sized.name_long

  pub lines_one : (slot : ℕ) → lines_of store (slot ∷ []) ≡ line_at slot
  unfolding lines_of
  lines_one slot = append-nil (line_at slot)

  pub lines_joined : (a b : List ℕ) → lines_of store (a ++ b) ≡ lines_of store a ++ lines_of store b
  unfolding lines_of
  lines_joined [] b = refl
  lines_joined (slot ∷ a) b =
      ap (λ (t : List ℕ). line_at slot ++ t) (lines_joined a b) ∙ rw (append_assoc (line_at slot) (lines_of store a) (lines_of store b))

  -- one line more
  pub lines_next : (slots : List ℕ) (i : ℕ) → i < length slots
      → lines_of store (take i slots) ++ line_at (get_or slots i 0) ≡ lines_of store (take (i + 1) slots)
  lines_next slots i h =
      rw (add-one i, take-suc slots i 0 h, lines_joined (take i slots) (get_or slots i 0 ∷ []), lines_one (get_or slots i 0))

  pub lines_fit : (slots : List ℕ) → ((i : ℕ) → i < length slots → get_or slots i 0 < slot_count) → length (lines_of store slots) ≤ line_length * length slots
  unfolding lines_of
  lines_fit [] below = omega arith
  lines_fit (slot ∷ slots) below =
      omega (arith, length-append (line_at slot) (lines_of store slots), line_at_fits slot (below 0 (omega arith)), lines_fit slots (λ i h. below (suc i) (omega arith)))

pub count_fits : (n : ℕ) → n < 2 ^ 32 → length (count_of n) ≤ count_length
unfolding count_of
count_fits n h = simp length-append (omega (arith, decimal_ten n h))

pub refused_fits : (n : ℕ) → n < 2 ^ 32 → length (refused_of n) ≤ refusal_length
unfolding refused_of
refused_fits n h = simp length-append (omega (arith, decimal_ten n h))

-- the whole text of a list
pub list_fits : (store id : List ℕ) (second : ℕ) (slots : List ℕ) → length id ≡ ID.count → second < 2 ^ 32 → length slots ≤ slot_count
    → ((i : ℕ) → i < length slots → get_or slots i 0 < slot_count)
    → length (head_of id second ++ lines_of store slots ++ count_of (length slots)) ≤ page_length
list_fits store id second slots e h few below =
    simp length-append (omega (arith, head_fits id second e h, lines_fit store slots below, count_fits (length slots) (omega arith)))
