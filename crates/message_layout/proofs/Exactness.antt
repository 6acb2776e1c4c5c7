-- A message is read exactly if it is written as the layout says. Assumes nothing.
use Prim.Native.Nat.{ℕ, ◌+◌, ◌≤◌}
use mathlib.Core.Path.{◌≡◌, ap, sym, ◌∙◌}
use mathlib.Core.List.{List, [], ◌∷◌, ◌++◌, append_assoc}
use native.Mathlib.Omega.{arith}
use borrow.Author.Tests.{le-leb, leb-true}
use lib.Dec.{leb}
use lib.ListN.{length, take, drop, length-append}
use lib.Seq.{drop_at}
use Rattle.octets.specs.Reading.{got}
use Rattle.octets.proofs.Laws.{pass, need_got}
use Rattle.message.specs.Messages.{Message, whole_message}
use Rattle.certificate.specs.declared.certificates.Certificate.{Certificate}
use Rattle.writing.specs.Written.{Octets, intx_octets, vector_octets}
use Rattle.writing.proofs.Lists.{take_here}
use Rattle.layout.specs.Contents as certificate
use Rattle.layout.specs.Layout as certificates
use Rattle.layout.specs.Layout.{signature_octets}
use Rattle.layout.specs.Fields.{fields_at}
use Rattle.message_layout.specs.Contents.{Signer, named, carried, Contents}
use Rattle.message_layout.specs.WellFormed.{WellFormed}
use Rattle.message_layout.specs.Layout.{signer_octets, field_octets, header_octets, payload_octets, trailer_octets, written, signed_octets}
use Rattle.message_layout.specs.Fields.{signer_fields, fields_of}
use Rattle.message_layout.specs.Exactness.{Embedded, Exactness}
use Rattle.message_layout.proofs.Messages.{parts_octets, parts_fields, parts_at, parts_exact}
use Rattle.message_layout.proofs.Whole.{parts_of, parts_good, parts_written, parts_read, contents_of}
use Rattle.message_layout.proofs.Written.{written_octets}

pub accepted : (c : Contents) → WellFormed c → whole_message (written c) ≡ got (fields_of c) (length (written c))
unfolding whole_message
accepted c g =
    let w = written c in
    pass (le-leb (length w) 2048 g.size) 3 (parts_at w 0)
    ∙ parts_exact.back w 0 (parts_of c) (parts_good c g) (omega arith) (sym (parts_written c))
    ∙ ap (λ (m : Message). got m (length w)) (parts_read c)

pub only : (s : List ℕ) → Octets s → (m : Message) (next : ℕ) → whole_message s ≡ got m next → (c : Contents) × WellFormed c × (s ≡ written c) × (m ≡ fields_of c)
unfolding whole_message
only s o m next e =
    let p = need_got 3 (leb (length s) 2048) (parts_at s 0) e in
    let q = parts_exact.only s 0 m next o (omega arith) p.1 in
    let x = q.0 in
    let size : length (parts_octets x) ≤ 2048 = omega (arith, leb-true (length s) 2048 p.0, ap length q.3) in
    let r = contents_of x q.1 size in
    let c = r.0 in
    (c, r.1, q.3 ∙ ap parts_octets (sym r.2) ∙ parts_written c, q.2 ∙ ap (parts_fields 0) (sym r.2) ∙ parts_read c)

pub covered : (c : Contents) → written c ≡ signed_octets c ++ signature_octets c.signature
unfolding written signed_octets
covered c = simp append_assoc

pub payload : (c : Contents) → take (fields_of c).payload.length (drop (fields_of c).payload.start (written c)) ≡ c.payload
unfolding written fields_of
payload c =
    let h = vector_octets (header_octets c) in
    let n = intx_octets (length c.payload) in
    let start = (fields_of c).payload.start in
    let before : List ℕ = 2 ∷ (h ++ (1 ∷ n)) in
    let after = vector_octets (trailer_octets c) in
    let size : length before ≡ start = omega (arith, length-append h (1 ∷ n)) in
    let split : written c ≡ before ++ (c.payload ++ after) = simp append_assoc in
    take_here (written c) start c.payload after (ap (drop start) split ∙ drop_at before (c.payload ++ after) start size)

-- the octet of a signer's type, and what follows the signer
abbrev signer_at : Contents → ℕ
signer_at c = 1 + length (intx_octets (length (header_octets c))) + 1

abbrev behind_signer : Contents → List ℕ
behind_signer c = field_octets c ++ (payload_octets c.payload ++ vector_octets (trailer_octets c))

-- a signer stands behind its type
signer_stands : (c : Contents) (type : ℕ) (w : List ℕ) → signer_octets c.signer ≡ type ∷ w → drop (signer_at c + 1) (written c) ≡ w ++ behind_signer c
unfolding written
signer_stands c type w signer =
    let i = intx_octets (length (header_octets c)) in
    let before : List ℕ = 2 ∷ (i ++ (128 ∷ type ∷ [])) in
    let size : length before ≡ signer_at c + 1 = omega (arith, length-append i (128 ∷ type ∷ [])) in
    let split : written c ≡ before ++ (w ++ behind_signer c) = simp (append_assoc, signer) in
    ap (drop (signer_at c + 1)) split ∙ drop_at before (w ++ behind_signer c) (signer_at c + 1) size

pub named_id : (c : Contents) (id : List ℕ) → c.signer ≡ named id → length id ≡ 8
    → take (fields_of c).headers.signer.digest.length (drop (fields_of c).headers.signer.digest.start (written c)) ≡ id
unfolding fields_of
named_id c id e l =
    ap (λ (z : Signer). take (signer_fields (signer_at c) z).digest.length (drop (signer_fields (signer_at c) z).digest.start (written c))) e
    ∙ rw l at (take_here (written c) (signer_at c + 1) id (behind_signer c) (signer_stands c 1 id (ap signer_octets e)))

pub embedded : (c : Contents) (x : certificate.Contents) → c.signer ≡ carried x → Embedded c x
unfolding fields_of fields_at
embedded c x e =
    let at = signer_at c in
    let reads : (fields_of c).headers.signer.certificate ≡ fields_at (at + 1) x = ap (λ (z : Signer). (signer_fields at z).certificate) e in
    let start : (fields_of c).headers.signer.certificate.signed.start ≡ at + 1 = ap (λ (z : Certificate). z.signed.start) reads in
    record {
      rest = behind_signer c;
      stands = ap (λ (n : ℕ). drop n (written c)) start ∙ signer_stands c 2 (certificates.written x) (ap signer_octets e);
      reads = reads ∙ ap (λ (n : ℕ). fields_at n x) (sym start);
    }

pub exactness : Exactness
exactness = record { octets = written_octets; accepted = accepted; only = only; covered = covered; payload = payload; named_id = named_id; embedded = embedded }
