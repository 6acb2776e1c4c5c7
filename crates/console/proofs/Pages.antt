-- The theorems of specs/Pages.antt hold. Assumes nothing.
use mathlib.Core.Path.{◌≡◌, refl, sym, ap, ap₂, ◌∙◌}
use mathlib.Core.Logic.{◌↔◌}
use mathlib.Core.Bool.{Bool, true, false, not}
use mathlib.Core.List.{List, Memᴰ}
use Prim.Native.Nat.{ℕ, ◌≤◌, ◌<◌}
use native.Mathlib.Decide.{dec_lt}
use native.Mathlib.Omega.{arith}
use lib.Dec.{eqb}
use lib.ListN.{length}
use Rattle.order.specs.Steps.{gives}
use Rattle.octets.specs.Reading.{Out, got, refused}
use Rattle.bitfields.specs.Field.{number, octets, Octets}
use Rattle.bitfields.proofs.Octets.{octets_number}
use Rattle.certificate.specs.Operations.{Reading, Identified, whole, answer_of, reading_of, certificate_id, identified_of, id_of}
use Rattle.certificate.specs.declared.certificates.Certificate.{Certificate}
use Rattle.records.specs.declared.Record.{Record}
use Rattle.store.specs.Slots.{slot_count, EMPTY, GONE, filled_at}
use Rattle.store.specs.Laws.{with_state}
use Rattle.store.specs.Withdrawn.{withdrawn_in}
use Rattle.store.proofs.Withdrawn.{filled_kept}
use Rattle.validity.specs.Laws.{Valid}
use Rattle.validity.proofs.Laws as validity
use Rattle.chain.specs.Stored.{Stored}
use Rattle.chain.proofs.Laws.{stands_filled}
use Rattle.slot_lists.specs.Listings.{named}
use Rattle.overview.specs.Order.{SlotReading}
use Rattle.overview.specs.Order.{slot_reading, standing_listing}
use Rattle.overview.proofs.Tests.{read_beyond, read_empty}
use Rattle.overview.proofs.Laws.{read_given}
use Rattle.overview.proofs.Laws as overview
use Rattle.withdrawal.specs.Order.{page}
use Rattle.withdrawal.specs.Demand.{Asked}
use Rattle.withdrawal.specs.Laws.{Askable}
use Rattle.withdrawal.proofs.Asked.{withdrawal_asked}
use Rattle.withdrawal.proofs.Demand.{demand3}
use Rattle.withdrawal.proofs.Laws.{asked_from}
use Rattle.entries.specs.Readable.{accepted}
use Rattle.entries.specs.Stored.{record_from, id_from}
use Rattle.admission.specs.Admitted.{Entered}
use Rattle.admission.proofs.Entered.{unread_positive}
use Rattle.admission.proofs.Laws as admission
use Rattle.console.specs.Pages.{shown, left, Acts, SameButState, Shows, Pages}
use Rattle.console.proofs.Kept.{but_state, state_left, record_kept}
use Rattle.console.proofs.Acts.{held_of, shown_of, shown_number, shown_long, shown_octets, acts, standing_held}

-- ---- the list, the question and the act

asked_stored : (s id : List ℕ) (c : ℕ) → Askable s id c → Stored s c
asked_stored s id c a = record { slot = a.slot; filled = a.filled }

-- stored shows the id that is asked for
asked_shown : (s id : List ℕ) (c : ℕ) → Octets id → Askable s id c → (shown s c).id ≡ id
asked_shown s id c are a =
    let st = asked_stored s id c a in
    let long : length (shown s c).id ≡ length id = shown_long s c a.valid st ∙ sym a.id_long in
    let same : number (shown s c).id ≡ number id = sym (shown_number s c a.valid st) ∙ a.id_of_lem in
    sym (octets_number (shown s c).id (shown_octets s c a.valid st)) ∙ ap₂ octets long same ∙ octets_number id are

module _ (s id : List ℕ) (c : ℕ) (are : Octets s) (a : Askable s id c) where
  stored : Stored s c
  stored = asked_stored s id c a

  asked : (l : List ℕ) → slot_count ≤ length l → Asked s c id l
  asked l room =
      record {
        octets = are;
        valid = a.valid;
        stored = stored;
        not_withdrawn = held_of s c a.valid stored (ap (withdrawn_in s) a.id_of_lem ∙ a.not_withdrawn);
        id_long = a.id_long;
        id_of_lem = a.id_of_lem;
        room = room;
      }

  -- the store that the withdrawal leaves
  leaves : left s id ≡ with_state s c GONE
  leaves = ap (λ (w : ℕ × List ℕ). w.1) (sym (withdrawal_asked s id (gives c) (asked_from s id c a)))

  question : (t : ℕ) (l before after : List ℕ) → slot_count ≤ length l → slot_count ≤ length before → slot_count ≤ length after
      → (i : ℕ) → Memᴰ i (named (page s id t l)) ↔ (Memᴰ i (named (standing_listing s t before)) × ¬ Memᴰ i (named (standing_listing (left s id) t after)))
  question t l before after room room₁ room₂ i =
      let demand = demand3 s c t id l (asked l room) in
      let e = demand.exact i in
      let old = ((overview.laws).overview s t before a.valid room₁).exact i in
      let new = ((overview.laws).overview (left s id) t after demand.valid_after room₂).exact i in (
        (λ m. let r = e.0 m in (old.1 (r.0, r.1), λ n. r.2 (new.0 n).1)),
        (λ m. let r = old.0 m.0 in e.1 (r.0, r.1, λ st. m.1 (new.1 (record { slot = r.0.slot; filled = stands_filled (left s id) t i st }, st)))),
      )

  question_acts : (t : ℕ) (l : List ℕ) → slot_count ≤ length l → (i : ℕ) → Memᴰ i (named (page s id t l)) → Acts s i
  question_acts t l room i m =
      let r = ((demand3 s c t id l (asked l room)).exact i).0 m in
      acts s i a.valid r.0 (standing_held s t i r.0 r.1)

  -- ---- after the withdrawal

  valid_left : Valid (with_state s c GONE)
  valid_left = (validity.laws).withdrawn s c are a.valid a.slot a.filled

  module _ (i : ℕ) where
    -- the same slots are filled
    filled_left : i < slot_count → filled_at (with_state s c GONE) i ≡ filled_at s i
    filled_left h = filled_kept s c are a.valid.size a.slot a.filled i h

    stored_left : Stored s i → Stored (with_state s c GONE) i
    stored_left st = record { slot = st.slot; filled = filled_left st.slot ∙ st.filled }

  done_shown : ((slot_reading (left s id) c).number ≡ 0) × ((shown (left s id) c).state ≡ GONE) × SameButState (shown s c) (shown (left s id) c)
  done_shown =
      let new = with_state s c GONE in
      let after = shown_of new c valid_left (stored_left c stored) in
      let same = but_state s c are a.valid.size a.slot c a.slot in
      rw leaves (
        ap (λ (r : SlotReading). r.number) (read_given new c valid_left (stored_left c stored)),
        ap (λ (r : Record). r.state) after ∙ state_left s c are a.valid.size a.slot c a.slot refl,
        rw (after, shown_of s c a.valid stored) same,
      )

  -- another slot: filled, empty, or none of the store's
  others_filled : (i : ℕ) → ¬ (i ≡ c) → i < slot_count → (b : Bool) → filled_at s i ≡ b → slot_reading (with_state s c GONE) i ≡ slot_reading s i
  others_filled i n h true e =
      let st : Stored s i = record { slot = h; filled = e } in
      read_given (with_state s c GONE) i valid_left (stored_left i st)
      ∙ ap {B = SlotReading} (λ (r : Record). record { number = 0; contents = r }) (record_kept s c are a.valid.size a.slot i h n)
      ∙ sym (read_given s i a.valid st)
  others_filled i n h false e =
      sym (read_empty (with_state s c GONE) i valid_left.size h (((validity.laws).valid_exactly _).1 valid_left) (filled_left i h ∙ e))
      ∙ read_empty s i a.valid.size h (((validity.laws).valid_exactly s).1 a.valid) e

  done_others : (i : ℕ) → ¬ (i ≡ c) → slot_reading (left s id) i ≡ slot_reading s i
  done_others i n =
      ap (λ (m : List ℕ). slot_reading m i) leaves
      ∙ elim (dec_lt i slot_count) [
        | yes h ↦ others_filled i n h (filled_at s i) refl
        | no h ↦ sym (read_beyond (with_state s c GONE) i valid_left.size (omega (arith, h))) ∙ read_beyond s i a.valid.size (omega (arith, h))
      ]

standing_acts : (s : List ℕ) (t : ℕ) (l : List ℕ) → Valid s → slot_count ≤ length l → (i : ℕ) → Memᴰ i (named (standing_listing s t l)) → Acts s i
standing_acts s t l v room i m =
    let r = (((overview.laws).overview s t l v room).exact i).0 m in
    acts s i v r.0 (standing_held s t i r.0 r.1)

-- ---- what was installed or admitted

-- the id of a certificate that was read, as the operation id gives it
identified : (s : List ℕ) (c : Certificate) → reading_of s ≡ accepted c → id_of s ≡ record { number = 0; id = certificate_id s c }
unfolding reading_of id_of
identified s c e = by (whole s) refl e
  where
    by : (o : Out Certificate) → whole s ≡ o → answer_of o ≡ accepted c → identified_of s o ≡ record { number = 0; id = certificate_id s c }
    by (got x end) w q = ap {B = Identified} (λ (r : Reading). record { number = 0; id = certificate_id s r.certificate }) q
    by (refused k) w q = absurd (unread_positive s k w (ap (λ (r : Reading). r.number) q))

record_id : (s : List ℕ) (c : Certificate) → id_from s c ≡ (record_from s c).id
unfolding record_from
record_id s c = refl

shows : (store octets : List ℕ) (verdict : ℕ) (c : Certificate) (after : List ℕ) → Octets octets → Entered store octets verdict c after → Shows store octets after
shows store octets verdict c after are h =
    let more = (admission.laws).one_more store octets verdict c after are h in
    let whole-id : id_from octets c ≡ certificate_id octets c = ((admission.laws).whole octets c are h.reads).id in
    let st : Stored after more.slot = record { slot = more.lowest_empty_lem.slot; filled = ap (λ (n : ℕ). not (eqb n EMPTY)) more.held } in
    let fields : slot_reading after more.slot ≡ record { number = 0; contents = record_from octets c } =
    read_given after more.slot more.valid st ∙ ap {B = SlotReading} (λ (r : Record). record { number = 0; contents = r }) more.holds in
    record {
      slot = more.slot;
      lowest_empty_lem = more.lowest_empty_lem;
      certificate = c;
      reads = h.reads;
      fields = fields;
      kept = (admission.laws).kept octets c are h.reads;
      id = identified octets c h.reads ∙ ap {B = Identified} (λ (x : List ℕ). record { number = 0; id = x }) (sym whole-id ∙ record_id octets c ∙ ap (λ (r : SlotReading). r.contents.id) (sym fields));
    }

pub pages : Pages
pages =
    record {
      question = λ s id c t l before after are a. question s id c are a t l before after;
      standing_acts = standing_acts;
      question_acts = λ s id c t l are a. question_acts s id c are a t l;
      asked_shown = asked_shown;
      done_shown = done_shown;
      done_others = done_others;
      installed_shown = λ s octets verdict after are e. let h = ((admission.laws).installed_exactly s octets verdict after).0 e in shows s octets verdict h.certificate after are h.entered;
      admitted_shown = λ s octets verdict after are e. let h = ((admission.laws).admitted_exactly s octets verdict after).0 e in shows s octets verdict h.certificate after are h.entered;
    }
