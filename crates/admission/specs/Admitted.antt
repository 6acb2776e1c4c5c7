-- The rules of install and admit in the paper's words (01, "Order of checks"): each operation is accepted exactly if its record holds.
use Rattle.std.specs.Prelude.{ℕ, ◌<◌, ◌≡◌, true, false, ◌⊎◌, List, length}
use Rattle.octets.specs.Verdicts.{GOOD}
use Rattle.octets.specs.Kinds.{TICKET, AUTHORITY, ROOT}
use Rattle.certificate.specs.Operations.{reading_of}
use Rattle.certificate.specs.declared.certificates.Certificate.{Certificate}
use Rattle.bitfields.specs.Field.{number}
use Rattle.scope.specs.Issued.{IssuedBy}
use Rattle.records.specs.Records.{scope_of, image_of}
use Rattle.records.specs.declared.Record.{Record}
use Rattle.store.specs.Slots.{slot_count, store_length, slot_of, with_slot, EMPTY, state_at, filled_at}
use Rattle.store.specs.Withdrawn.{withdrawn_in}
use Rattle.store.specs.Laws.{Holds}
use Rattle.validity.specs.Laws.{Valid}
use Rattle.entries.specs.Readable.{accepted}
use Rattle.entries.specs.Stored.{record_from}

-- the lowest empty slot
pub record LowestEmpty (store : List ℕ) (i : ℕ) : Type 0 where
  pub slot : i < slot_count
  pub empty : state_at store i ≡ EMPTY
  pub filled_below_lem : (j : ℕ) → j < i → filled_at store j ≡ true

-- what both ask; `after` is the store that they leave
pub record Entered (store octets : List ℕ) (verdict : ℕ) (certificate : Certificate) (after : List ℕ) : Type 0 where
  pub size : length store ≡ store_length
  pub valid : Valid store
  pub reads : reading_of octets ≡ accepted certificate
  pub not_held : (i : ℕ) → ¬ (Holds store (number (record_from octets certificate).id) i)
  pub verified : verdict ≡ GOOD
  pub slot : ℕ
  pub lowest_empty_lem : LowestEmpty store slot
  pub written : after ≡ with_slot store slot (image_of (record_from octets certificate))

-- the issuer of a record: it is stored and not withdrawn, and it allows what the record allows
pub record Issuer (store : List ℕ) (r : Record) : Type 0 where
  pub slot : ℕ
  pub stored : Holds store (number r.issuer) slot
  pub not_withdrawn : withdrawn_in store (number r.issuer) ≡ false
  pub issued : IssuedBy r.scope (scope_of (slot_of store slot))

pub record Installed (store octets : List ℕ) (verdict : ℕ) (after : List ℕ) : Type 0 where
  pub certificate : Certificate
  pub entered : Entered store octets verdict certificate after
  pub root : certificate.head.kind ≡ ROOT

pub record Admitted (store octets : List ℕ) (verdict : ℕ) (after : List ℕ) : Type 0 where
  pub certificate : Certificate
  pub entered : Entered store octets verdict certificate after
  pub ticket_or_authority : (certificate.head.kind ≡ TICKET) ⊎ (certificate.head.kind ≡ AUTHORITY)
  pub issuer : Issuer store (record_from octets certificate)
