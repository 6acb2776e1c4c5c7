-- What is proved of install and admit (proofs/Laws.antt).
use Rattle.std.specs.Prelude.{ℕ, suc, ◌<◌, ◌≡◌, Bool, true, ◌↔◌, ◌≢◌, List}
use Rattle.order.specs.Steps.{number as answerNumber, run, rows, First}
use Rattle.certificate.specs.Operations.{reading_of}
use Rattle.certificate.specs.declared.certificates.Certificate.{Certificate}
use Rattle.bitfields.specs.Field.{number, Octets}
use Rattle.records.specs.Records.{record_of}
use Rattle.records.specs.declared.Record.{Record}
use Rattle.store.specs.Slots.{slot_of, HELD, state_at, filled_at, id_at}
use Rattle.validity.specs.Laws.{Valid}
use Rattle.entries.specs.Readable.{accepted}
use Rattle.entries.specs.Stored.{record_from}
use Rattle.entries.specs.Kept.{Kept}
use Rattle.entries.specs.Whole.{Whole}
use Rattle.admission.specs.Order.{issuer_steps, entering, entered, installed, admitted}
use Rattle.admission.specs.Admitted.{LowestEmpty, Entered, Installed, Admitted}
use Rattle.admission.specs.Filled.{filled_below}

-- what an accepted certificate leaves: a valid store with one certificate more, in the lowest empty slot
pub record OneMore (store octets : List ℕ) (c : Certificate) (after : List ℕ) : Type 0 where
  pub valid : Valid after
  pub slot : ℕ
  pub lowest_empty_lem : LowestEmpty store slot
  -- with the fields that were read and the id of the certificate, held
  pub holds : record_of (slot_of after slot) ≡ record_from octets c
  pub held : state_at after slot ≡ HELD
  pub id : id_at after slot ≡ number (record_from octets c).id
  -- every other slot is as it was
  pub others : (j : ℕ) → j < 64 → j ≢ slot → slot_of after j ≡ slot_of store j
  pub one_more : filled_below 64 after ≡ suc (filled_below 64 store)

pub record Laws : Type 0 where
  -- what is kept of a certificate is what its contents say, with the id of the certificate
  pub kept : (octets : List ℕ) (c : Certificate) → Octets octets → reading_of octets ≡ accepted c → Kept octets c
  -- all octets are those of the certificate, and the id that is kept is its id
  pub whole : (octets : List ℕ) (c : Certificate) → Octets octets → reading_of octets ≡ accepted c → Whole octets c
  -- accepted exactly if the rules hold
  pub installed_exactly : (store octets : List ℕ) (verdict : ℕ) (after : List ℕ) → (installed store octets verdict ≡ (0, after)) ↔ Installed store octets verdict after
  pub admitted_exactly : (store octets : List ℕ) (verdict : ℕ) (after : List ℕ) → (admitted store octets verdict ≡ (0, after)) ↔ Admitted store octets verdict after
  -- a refusal is by the first test of the order that fails, and leaves the store
  pub refused_first : (anchor : Bool) (store octets : List ℕ) (verdict k : ℕ) → ¬ (k ≡ 0)
      → ((entered anchor store octets verdict).0 ≡ k) ↔ First (rows (entering anchor store octets verdict)) k
  -- inside the row of the issuer: 7, 8, 10 to 13
  pub issuer_first : (anchor : Bool) (store : List ℕ) (r : Record) (k : ℕ) → ¬ (k ≡ 0)
      → (answerNumber (run (issuer_steps anchor store r)) ≡ k) ↔ First (rows (issuer_steps anchor store r)) k
  pub refused_keeps : (anchor : Bool) (store octets : List ℕ) (verdict : ℕ) → ¬ ((entered anchor store octets verdict).0 ≡ 0) → (entered anchor store octets verdict).1 ≡ store
  -- a filled slot, also a withdrawn one, stays as it is, accepted or not
  pub filled_kept : (anchor : Bool) (store octets : List ℕ) (verdict i : ℕ) → i < 64 → filled_at store i ≡ true → slot_of (entered anchor store octets verdict).1 i ≡ slot_of store i
  -- one certificate more, and a valid store stays valid
  pub one_more : (store octets : List ℕ) (verdict : ℕ) (c : Certificate) (after : List ℕ) → Octets octets → Entered store octets verdict c after → OneMore store octets c after
  pub stays_valid : (anchor : Bool) (store octets : List ℕ) (verdict : ℕ) → Octets octets → Valid store → Valid (entered anchor store octets verdict).1
