-- What is proved of the page program's text (proofs/Laws.antt).
use Rattle.std.specs.Prelude.{◌≡◌, List, [], ◌∷◌, ◌++◌, ℕ, ◌+◌, ◌≤◌, ◌<◌, eqb, length, get_or}
use Rattle.octets.specs.Reading.{pick}
use Rattle.octets.specs.Refusals.{ACCEPTED, BAD_CALL}
use Rattle.store.specs.Slots.{slot_count}
use Rattle.slot_lists.specs.Listings.{Listing, named}
use Rattle.page_text.specs.Lines.{lines_of, head_of, count_of, refused_of}
use Rattle.page_text.specs.Page.{input_length, store_in, id_in, second_in, listed, page_text}

-- what list gives for an input
abbrev pub answer_to : List ℕ → Listing
answer_to input = listed (store_in input) (id_in input) (second_in input)

-- how many lines a text has: a line feed ends each
unfoldable pub line_count : List ℕ → ℕ
line_count [] = 0
line_count (c ∷ s) = pick (eqb c 10) 1 0 + line_count s

pub record Laws : Type 0 where
  -- "any other length prints `refused 1`"
  pub other_length : (input : List ℕ) → ¬ (length input ≡ input_length) → page_text input ≡ refused_of BAD_CALL
  -- "a refusal prints `refused` and its number"
  pub refusal : (input : List ℕ) → length input ≡ input_length → ¬ ((answer_to input).number ≡ ACCEPTED)
      → page_text input ≡ refused_of (answer_to input).number
  -- else the first line comes, then the lines of exactly the slots that list answers, in its order, then their count
  pub page : (input : List ℕ) → length input ≡ input_length → (answer_to input).number ≡ ACCEPTED
      → page_text input ≡ head_of (id_in input) (second_in input) ++ lines_of (store_in input) (named (answer_to input)) ++ count_of (answer_to input).n
  -- between the first line and the last there are as many lines as the count says, at most one for each slot; each names a slot
  pub counted : (input : List ℕ) → line_count (lines_of (store_in input) (named (answer_to input))) ≡ (answer_to input).n
  pub in_store : (input : List ℕ) (i : ℕ) → i < (answer_to input).n → get_or (named (answer_to input)) i 0 < slot_count
  pub few : (input : List ℕ) → (answer_to input).n ≤ slot_count
  -- the first, the last and a refusal are one line each
  pub first_line : (id : List ℕ) (second : ℕ) → line_count (head_of id second) ≡ 1
  pub last_line : (n : ℕ) → line_count (count_of n) ≡ 1
  pub refusal_line : (n : ℕ) → line_count (refused_of n) ≡ 1
