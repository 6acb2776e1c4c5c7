-- The whole text: what list gives, which text that is, and the call. Assumes nothing.
use mathlib.Core.Path.{◌≡◌, sym, ap, ap₂, subst, ◌∙◌}
use mathlib.Core.Bool.{Bool, true, false, cond}
use mathlib.Core.List.{List, ◌∷◌, ◌++◌}
use Prim.Native.Nat.{ℕ, zero, suc, ◌+◌, ◌^◌, ◌≤◌, ◌<◌}
use native.Mathlib.Omega.{arith}
use lib.Dec.{leb}
use lib.ListN.{length, get_or, drop, length-append, length-drop, get_or-append}
use lib.Seq.{length-take-le, get_or-take}
use borrow.Author.Tests.{eq-eqb, ne_eqb, le-leb, lt-leb}
use Rattle.order.specs.Steps.{Answer, gives, refused, run}
use Rattle.octets.specs.Reading.{pick}
use Rattle.octets.specs.Buffers.{with_front, with_octets}
use Rattle.octets.specs.Refusals.{ACCEPTED, BAD_CALL}
use Rattle.text.specs.Text.{Written}
use Rattle.records.specs.Layout.{ID}
use Rattle.store.specs.Slots.{slot_count}
use Rattle.slot_lists.specs.SlotSets.{slots_from}
use Rattle.slot_lists.specs.Listings.{Listing, named}
use Rattle.withdrawal.specs.Order.{after, falls, affected, drawing, listed_for, page}
use Rattle.slot_lists.proofs.SlotSets.{slots_fit}
use Rattle.page_text.specs.Lines.{lines_of, head_of, count_of, refused_of}
use Rattle.page_text.specs.Page.{input_length, store_in, id_in, second_in, listed, page_of, page_text, page_call}
use Rattle.page_text.specs.Sizes.{page_length}
use Rattle.page_text.proofs.Printed.{list_fits}

module _ (p : ℕ → Bool) where
  below_cons : (a k x : ℕ) (b : Bool) → ((y : ℕ) → y < length (slots_from p (suc a) k) → get_or (slots_from p (suc a) k) y 0 < suc a + k)
      → x < length (cond b (a ∷ slots_from p (suc a) k) (slots_from p (suc a) k))
      → get_or (cond b (a ∷ slots_from p (suc a) k) (slots_from p (suc a) k)) x 0 < a + suc k
  below_cons a k zero true f l = omega arith
  below_cons a k (suc x) true f l = omega (arith, f x (omega arith))
  below_cons a k x false f l = omega (arith, f x l)

  slots_below : (a k x : ℕ) → x < length (slots_from p a k) → get_or (slots_from p a k) x 0 < a + k
  unfolding slots_from
  slots_below a zero x l = absurd (omega arith)
  slots_below a (suc k) x l = below_cons a k x (p a) (slots_below (suc a) k) l

-- the list has n places, and the first n octets are slots
pub record Slots (p : Listing) : Type 0 where
  pub few : p.n ≤ slot_count
  pub room : p.n ≤ length p.list
  pub below : (i : ℕ) → i < p.n → get_or p.list i 0 < slot_count

answer_slots : (s l : List ℕ) (t : ℕ) (a : Answer ℕ) → Slots (listed_for s t l a)
unfolding listed_for affected
answer_slots s l t (gives c) =
    let p = falls s (after s c) t in
    let slots = slots_from p 0 slot_count in
    record {
      few = slots_fit p 0 slot_count;
      room = omega (arith, length-append slots (drop (length slots) l));
      below = λ i h. rw (get_or-append slots (drop (length slots) l) 0 i h) (slots_below p 0 slot_count i h);
    }
answer_slots s l t (refused k) = record { few = omega arith; room = omega arith; below = λ i h. absurd (omega arith) }

pub page_slots : (s id : List ℕ) (t : ℕ) (l : List ℕ) → Slots (page s id t l)
unfolding page
page_slots s id t l = answer_slots s l t (run (drawing s id l))

-- what is known of the part that is the list
module _ (p : Listing) (good : Slots p) where
  pub named_long : length (named p) ≡ p.n
  named_long = length-take-le p.n p.list good.room

  pub named_below : (i : ℕ) → i < length (named p) → get_or (named p) i 0 < slot_count
  named_below i h =
      let k : i < p.n = omega (arith, named_long) in
      rw (get_or-take p.n p.list i 0 k) (good.below i k)

  pub named_fits : (s id : List ℕ) (t : ℕ) → length id ≡ ID.count → t < 2 ^ 32
      → length (head_of id t ++ lines_of s (named p) ++ count_of (length (named p))) ≤ page_length
  named_fits s id t e h = list_fits s id t (named p) e h (omega (arith, named_long, good.few)) named_below

-- what the code answers names slots too
pub code_slots : (s id : List ℕ) (t : ℕ) (l : List ℕ) {q : Listing} → q ≡ page s id t l → Slots q
code_slots s id t l same = subst Slots (sym same) (page_slots s id t l)

-- q is what the code answers, p what list gives
module _ (s id : List ℕ) (t : ℕ) {q p : Listing} (same : q ≡ p) where
  pub printed_refusal : ¬ (q.number ≡ ACCEPTED) → page_of s id t p ≡ refused_of q.number
  unfolding page_of
  printed_refusal n = ap (page_of s id t) (sym same) ∙ rw (ne_eqb q.number 0 n)

  pub printed_list : Slots q → q.number ≡ ACCEPTED
      → page_of s id t p ≡ head_of id t ++ lines_of s (named q) ++ count_of (length (named q))
  unfolding page_of
  printed_list good e = ap (page_of s id t) (sym same) ∙ rw (eq-eqb q.number 0 e, named_long q good)

inside : (b : Bool) (text buffer : List ℕ) {r : ℕ} {out : List ℕ}
    → ◌≡◌ {A = ℕ × List ℕ} (r, out) (pick b (length text, with_front text buffer) (0, buffer)) → length out ≡ length buffer → r ≤ length out
inside true text buffer e long =
    let n = ap (λ (x : ℕ × List ℕ). x.0) e in
    let m = ap (λ (x : ℕ × List ℕ). length x.1) e ∙ length-append text (drop (length text) buffer) in
    omega (arith, length-drop (length text) buffer)
inside false text buffer e long =
    let n = ap (λ (x : ℕ × List ℕ). x.0) e in
    omega arith

module _ (input : List ℕ) where
  pub other_length : ¬ (length input ≡ input_length) → page_text input ≡ refused_of BAD_CALL
  unfolding page_text
  other_length n = rw (ne_eqb (length input) input_length n)

  pub that_length : length input ≡ input_length
      → page_text input ≡ page_of (store_in input) (id_in input) (second_in input) (listed (store_in input) (id_in input) (second_in input))
  unfolding page_text
  that_length e = rw (eq-eqb (length input) input_length e)

  module _ (buffer : List ℕ) where
    pub call_small : length buffer < page_length → (0, buffer) ≡ page_call input buffer
    unfolding page_call
    call_small h = rw (lt-leb page_length (length buffer) h)

    pub call_text : page_length ≤ length buffer → {r : ℕ} {out : List ℕ} → Written buffer 0 (page_text input) r out
        → ◌≡◌ {A = ℕ × List ℕ} (r, out) (page_call input buffer)
    unfolding page_call with_octets
    call_text h (e, f) =
        let text = page_text input in
        let z : 0 + length text ≡ length text = omega arith in
        ap₂ (λ (n : ℕ) (l : List ℕ). (n, l)) (e ∙ z) (f ∙ ap (λ (n : ℕ). text ++ drop n buffer) z)
        ∙ sym (ap (λ (b : Bool). pick b (length (page_text input), with_front (page_text input) buffer) (0, buffer)) (le-leb page_length (length buffer) h))

    -- the text that is answered lies inside the buffer
    pub call_inside : {r : ℕ} {out : List ℕ} → ◌≡◌ {A = ℕ × List ℕ} (r, out) (page_call input buffer) → length out ≡ length buffer → r ≤ length out
    unfolding page_call
    call_inside e long = inside (leb page_length (length buffer)) (page_text input) buffer e long
