-- What the operations leave, return by return. Assumes nothing.
use mathlib.Core.Path.{◌≡◌, refl, sym, ap, ◌∙◌, subst}
use mathlib.Core.Bool.{Bool, true, false}
use mathlib.Core.List.{List}
use Rattle.std.specs.Prelude.{None, Some}
use Prim.Native.Nat.{ℕ}
use native.Mathlib.Omega.{arith}
use lib.ListN.{length}
use lib.Dec.{eqb}
use Rattle.order.specs.Steps.{Answer, gives, refused, Steps, done, need, take, run, onward, Well}
use Rattle.order.proofs.Steps.{passes, fails, takes, halts, run_follow}
use Rattle.octets.proofs.Outcomes.{passed_on, number_no_zero}
use Rattle.octets.specs.Forward.{Forward}
use Rattle.octets.specs.Reading.{Out, got, refused as unread}
use Rattle.certificate.specs.Operations.{whole, answer_of, reading_of}
use Rattle.certificate.specs.declared.certificates.Certificate.{Certificate}
use Rattle.certificate.specs.Operations.{Reading}
use Rattle.certificate.proofs.Forward.{whole_forward}
use Rattle.records.specs.Records.{image_of}
use Rattle.records.specs.declared.Record.{Record}
use Rattle.store.specs.Slots.{with_slot, store_length}
use Rattle.store.specs.Search.{lowest_empty}
use Rattle.validity.specs.Valid.{valid_store}
use Rattle.chain.specs.Stored.{answered, slot_or}
use Rattle.entries.specs.Readable.{accepted}
use Rattle.entries.specs.Stored.{record_from}
use Rattle.admission.specs.Order.{wanted, testing, placing, entering, leaving, entered}
use Rattle.admission.specs.Computed.{test_number, placed}
use Rattle.admission.proofs.Tests.{test_gives, test_stops}

-- ---- a record that is to go into the store

abbrev pub pair : ℕ → List ℕ → ℕ × List ℕ
pair n l = (n, l)

abbrev unreadable : ℕ → Answer Certificate
unreadable n = refused n

abbrev stored : List ℕ → Record → ℕ → Steps (List ℕ)
stored store r slot = done (with_slot store slot (image_of r))

abbrev filling : List ℕ → Record → Steps (List ℕ)
filling store r = take (slot_or 16 (lowest_empty store)) (stored store r)

module _ (anchor : Bool) (store : List ℕ) (r : Record) (verdict : ℕ) where
  pub placed_stops : (n : ℕ) → n ≡ test_number anchor store r verdict → ¬ (n ≡ 0) → ◌≡◌ {A = ℕ × List ℕ} (n, store) (placed anchor store r verdict)
  unfolding placed
  placed_stops n e z =
      sym (ap (leaving store) (run_follow (testing anchor store r verdict) (λ w. filling store r)
      ∙ ap (λ (a : Answer Well). onward a (λ w. run (filling store r))) (test_stops anchor store r verdict (λ t. z (e ∙ t))))
      ∙ ap (λ (k : ℕ). pair k store) (sym e))

  module _ (e : test_number anchor store r verdict ≡ 0) where
    goes_on : run (placing anchor store r verdict) ≡ run (filling store r)
    goes_on =
        run_follow (testing anchor store r verdict) (λ w. filling store r)
        ∙ ap (λ (a : Answer Well). onward a (λ w. run (filling store r))) (test_gives anchor store r verdict e)

    pub placed_full : lowest_empty store ≡ None → ◌≡◌ {A = ℕ × List ℕ} (16, store) (placed anchor store r verdict)
    unfolding placed
    placed_full n = sym (ap (leaving store) (goes_on ∙ halts (ap (slot_or 16) n) (stored store r)))

    pub placed_slot : (i : ℕ) → lowest_empty store ≡ Some i → ◌≡◌ {A = ℕ × List ℕ} (0, with_slot store i (image_of r)) (placed anchor store r verdict)
    unfolding placed run
    placed_slot i n = sym (ap (leaving store) (goes_on ∙ takes (ap (slot_or 16) n) (stored store r)))

-- what the answers of `place` need
pub ruleset placing_tests = (passed_on, number_no_zero, placed_stops, placed_full, placed_slot)

-- ---- reading

-- no refusal has the number 0
pub unread_positive : (s : List ℕ) (n : ℕ) → whole s ≡ unread n → ¬ (n ≡ 0)
unread_positive s n e z = let f = subst (λ (o : Out Certificate). Forward 0 o) e (whole_forward s) in omega (arith, f.0)

pub read_stops : (s : List ℕ) → ¬ ((reading_of s).number ≡ 0) → answered (whole s) ≡ refused (reading_of s).number
unfolding reading_of
read_stops s = by (whole s)
  where
    by : (o : Out Certificate) → ¬ ((answer_of o).number ≡ 0) → answered o ≡ refused (answer_of o).number
    by (got c end) n = absurd (n refl)
    by (unread k) n = refl

pub read_gives : (s : List ℕ) (c : Certificate) → reading_of s ≡ accepted c → answered (whole s) ≡ gives c
unfolding reading_of
read_gives s c = by (whole s) refl
  where
    by : (o : Out Certificate) → whole s ≡ o → answer_of o ≡ accepted c → answered o ≡ gives c
    by (got x end) w e = ap (λ (a : Reading). gives a.certificate) e
    by (unread k) w e = absurd (unread_positive s k w (ap (λ (a : Reading). a.number) e))

-- ---- both operations

module _ (anchor : Bool) (store octets : List ℕ) (verdict : ℕ) where
  abbrev placings : Certificate → Steps (List ℕ)
  placings c = placing anchor store (record_from octets c) verdict

  abbrev kinds : Certificate → Steps (List ℕ)
  kinds c = need 10 (wanted anchor c.head.kind) (placings c)

  abbrev reads : Steps (List ℕ)
  reads = take (answered (whole octets)) kinds

  pub entered_length : eqb (length store) store_length ≡ false → ◌≡◌ {A = ℕ × List ℕ} (1, store) (entered anchor store octets verdict)
  unfolding entered
  entered_length e = sym (ap (leaving store) (fails e 1 (need 2 (valid_store store) reads)))

  module _ (size : eqb (length store) store_length ≡ true) where
    pub entered_bad : valid_store store ≡ false → ◌≡◌ {A = ℕ × List ℕ} (2, store) (entered anchor store octets verdict)
    unfolding entered
    entered_bad e = sym (ap (leaving store) (passes size 1 (need 2 (valid_store store) reads) ∙ fails e 2 reads))

    module _ (good : valid_store store ≡ true) where
      to_reading : run (entering anchor store octets verdict) ≡ run reads
      to_reading = passes size 1 (need 2 (valid_store store) reads) ∙ passes good 2 reads

      pub entered_unread : (n : ℕ) → n ≡ (reading_of octets).number → ¬ (n ≡ 0) → ◌≡◌ {A = ℕ × List ℕ} (n, store) (entered anchor store octets verdict)
      unfolding entered
      entered_unread n e z =
          sym (ap (leaving store) (to_reading ∙ halts (read_stops octets (λ t. z (e ∙ t)) ∙ ap unreadable (sym e)) kinds))

      module _ (c : Certificate) (read : reading_of octets ≡ accepted c) where
        to_kind : run (entering anchor store octets verdict) ≡ run (kinds c)
        to_kind = to_reading ∙ takes (read_gives octets c read) kinds

        pub entered_kind : wanted anchor c.head.kind ≡ false → ◌≡◌ {A = ℕ × List ℕ} (10, store) (entered anchor store octets verdict)
        unfolding entered
        entered_kind e = sym (ap (leaving store) (to_kind ∙ fails e 10 (placings c)))

        pub entered_placed : wanted anchor c.head.kind ≡ true → placed anchor store (record_from octets c) verdict ≡ entered anchor store octets verdict
        unfolding entered placed
        entered_placed e = sym (ap (leaving store) (to_kind ∙ passes e 10 (placings c)))
