-- What is read of a message lies inside it. Assumes nothing.
use mathlib.Core.Path.{◌≡◌, refl, sym, ap, subst, ◌∙◌}
use mathlib.Core.Bool.{Bool, true, false, not, ◌&&◌}
use mathlib.Core.List.{List}
use Rattle.std.specs.Prelude.{is_some}
use Prim.Native.Nat.{ℕ, ◌+◌, ◌≤◌}
use native.Mathlib.Omega.{arith}
use borrow.Author.Tests.{leb-true}
use lib.ListN.{length, get_or, take}
use lib.Dec.{T, leb, ltb, eqb}
use lib.Seq.{length-take-le}
use Rattle.octets.specs.Reading.{got, need, pick}
use Rattle.octets.specs.Numbers.{octet_at}
use Rattle.octets.specs.Vectors.{span_at, run_at, part}
use Rattle.octets.specs.declared.vectors.Part.{Part}
use Rattle.octets.specs.Elements.{exactly_at}
use Rattle.octets.proofs.Laws.{need_got, bind_got}
use Rattle.octets.proofs.Inside.{octet_inside, span_inside}
use Rattle.attributes.specs.Points.{point_type, point_at}
use Rattle.attributes.specs.declared.points.Point.{Point}
use Rattle.certificate.specs.Signatures.{signature_at}
use Rattle.certificate.specs.Certificates.{certificate_at}
use Rattle.certificate.specs.declared.signatures.Signature.{Signature}
use Rattle.headers.specs.Fields.{stray_of, fields_in}
use Rattle.message.specs.Signers.{unsigned, named_at, carried_at, signer_info_at, signer_at}
use Rattle.message.specs.Vectors.{headers_in, headers_at, complete_headers}
use Rattle.message.specs.Bodies.{payload_at, trailer_in, trailer_at}
use Rattle.message.specs.Messages.{whole_message}
use Rattle.message.specs.Inside.{SignedBy, id, certificate, Inside}
use Rattle.message.specs.Signers.{Signer}
use Rattle.message.specs.Vectors.{Headers}
use Rattle.message.specs.Messages.{Message}

-- ---- fields
same : {A : Type 0} {a b : A} {m n : ℕ} → got a m ≡ got b n → (a ≡ b) × (m ≡ n)
same e = (cc, cc)

run_inside : (n : ℕ) (s : List ℕ) (at a e : ℕ) → run_at n s at ≡ got a e → (a ≡ at) × (e ≡ at + n) × (e ≤ length s)
unfolding run_at
run_inside n s at a e h =
    let p = need_got 4 (leb (at + n) (length s)) _ h in
    let x = same p.1 in
    (sym x.0, sym x.1, omega (arith, leb-true (at + n) (length s) p.0, x.1))

exactly_inside : (v : ℕ) (s : List ℕ) (at w n : ℕ) → exactly_at v s at ≡ got w n → n ≡ at + 1
unfolding exactly_at
exactly_inside v s at w n h =
    let p = bind_got (octet_at s at) _ h in
    let i = octet_inside s at p.0 p.1 p.2 in
    let q = need_got 6 (eqb p.0 v) _ p.3 in
    omega (arith, i.0, (same q.1).1)

point_inside : (alone : Bool) (s : List ℕ) (at : ℕ) (x : Point) (n : ℕ) → point_at alone s at ≡ got x n → n ≡ at + 33
unfolding point_at
point_inside alone s at x n h =
    let p = bind_got (octet_at s at) _ h in
    let i = octet_inside s at p.0 p.1 p.2 in
    let q = need_got 6 (point_type alone p.0) _ p.3 in
    let r = bind_got (run_at 32 s p.1) _ q.1 in
    let j = run_inside 32 s p.1 r.0 r.1 r.2 in
    omega (arith, i.0, j.1, (same r.3).1)

-- the 66 octets of a signature stand where it was looked for
pub signature_whole : (complete : Bool) (s : List ℕ) (at : ℕ) (x : Signature) (next : ℕ) → signature_at complete s at ≡ got x next
    → (x.octets ≡ part at 66) × (next ≡ at + 66) × (next ≤ length s)
unfolding signature_at
signature_whole complete s at x next h =
    let p = bind_got (exactly_at 0 s at) _ h in
    let q = need_got 5 complete _ p.3 in
    let r = bind_got (point_at true s p.1) _ q.1 in
    let t = bind_got (run_at 32 s r.1) _ r.3 in
    let i = exactly_inside 0 s at p.0 p.1 p.2 in
    let j = point_inside true s p.1 r.0 r.1 r.2 in
    let k = run_inside 32 s r.1 t.0 t.1 t.2 in
    let e = same t.3 in
    (ap (λ (y : Signature). y.octets) (sym e.0), omega (arith, i, j, k.1, e.1), omega (arith, k.2, e.1))

-- ---- the signer
module _ (s : List ℕ) (end : ℕ) (inside : end ≤ length s) where
  named_by : (at : ℕ) (g : Signer) (n : ℕ) → named_at (take end s) at ≡ got g n → SignedBy s g
  unfolding named_at
  named_by at g n h =
      let p = bind_got (run_at 8 (take end s) at) _ h in
      let i = run_inside 8 (take end s) at p.0 p.1 p.2 in
      subst (λ (x : Signer). SignedBy s x) (same p.3).0
      (id (record { type = refl; eight = refl; within = omega (arith, i.0, i.1, i.2, length-take-le end s inside, inside) }))

  carried_by : (at : ℕ) (g : Signer) (n : ℕ) → carried_at (take end s) at ≡ got g n → SignedBy s g
  unfolding carried_at
  carried_by at g n h =
      let p = bind_got (certificate_at (take end s) at) _ h in
      subst (λ (x : Signer). SignedBy s x) (same p.3).0
      (certificate (record { type = refl; unnamed = refl; end = end; first = at; after = p.1; within = inside; read = p.2 }))

  signed_by : (at : ℕ) (g : Signer) (n : ℕ) → signer_info_at (take end s) at ≡ got g n → SignedBy s g
  unfolding signer_info_at
  signed_by at g n h = let p = bind_got (octet_at (take end s) at) _ h in by_type p.1 (eqb p.0 1) (eqb p.0 2) p.3
    where
      by_type : (a : ℕ) (one two : Bool) → pick one (named_at (take end s) a) (need 6 two (carried_at (take end s) a)) ≡ got g n → SignedBy s g
      by_type a true two e = named_by a g n e
      by_type a false two e = carried_by a g n (need_got 6 two _ e).1

  -- a signer that is not lacking
  signer_by : (at : ℕ) (g : Signer) (n : ℕ) → signer_at (take end s) at ≡ got g n → not (eqb g.form 0) ≡ true → SignedBy s g
  unfolding signer_at unsigned
  signer_by at g n h there = by_test (ltb at (length (take end s))) h
    where
      c : List ℕ
      c = take end s

      by_test : (t : Bool) → pick t (need (stray_of (get_or c at 0)) (eqb (get_or c at 0) 128) (signer_info_at c (at + 1))) (got unsigned at) ≡ got g n → SignedBy s g
      by_test true e = signed_by (at + 1) g n (need_got (stray_of (get_or c at 0)) (eqb (get_or c at 0) 128) _ e).1
      by_test false e = absurd (subst T (sym (ap (λ (x : Signer). not (eqb x.form 0)) (same e).0 ∙ there)) tt)

headers_by : (s : List ℕ) (at : ℕ) (x : Headers) (n : ℕ) → headers_at s at ≡ got x n → not (eqb x.signer.form 0) ≡ true → SignedBy s x.signer
unfolding headers_at headers_in
headers_by s at x n h there =
    let p = bind_got (span_at s at) _ h in
    let i = span_inside s at p.0 p.1 p.2 in
    let q = bind_got (headers_in (take p.1 s) p.0) _ p.3 in
    let r = bind_got (signer_at (take p.1 s) p.0) _ q.2 in
    let t = bind_got (fields_in (take p.1 s) r.1) _ r.3 in
    let e : r.0 ≡ x.signer = ap (λ (y : Headers). y.signer) ((same t.3).0 ∙ (same q.3).0) in
    signer_by s p.1 i.1 p.0 x.signer r.1 (subst (λ (g : Signer). signer_at (take p.1 s) p.0 ≡ got g r.1) e r.2) there

-- ---- payload and trailer
-- the payload ends inside, and nothing was lacking before it
pub payload_inside : (complete : Bool) (s : List ℕ) (at a e : ℕ) → payload_at complete s at ≡ got a e → (complete ≡ true) × (a ≤ e) × (e ≤ length s)
unfolding payload_at
payload_inside complete s at a e h =
    let p = bind_got (exactly_at 1 s at) _ h in
    let q = need_got 5 complete _ p.3 in
    let i = span_inside s p.1 a e q.1 in
    (q.0, i.0, i.1)

trailer_inside : (s : List ℕ) (at : ℕ) (x : Signature) (next : ℕ) → trailer_at s at ≡ got x next
    → (x.octets.start + 66 ≤ length s) × (x.octets.length ≡ 66) × (next ≤ length s)
unfolding trailer_at trailer_in
trailer_inside s at x next h =
    let p = bind_got (span_at s at) _ h in
    let i = span_inside s at p.0 p.1 p.2 in
    let c = take p.1 s in
    let q = bind_got (trailer_in c p.0) _ p.3 in
    let r = need_got 5 (ltb p.0 (length c)) _ q.2 in
    let t = bind_got (exactly_at 1 c p.0) _ r.1 in
    let u = bind_got (signature_at true c t.1) _ t.3 in
    let v = need_got 5 (leb (length c) u.1) _ u.3 in
    let w = signature_whole true c t.1 u.0 u.1 u.2 in
    let e : part t.1 66 ≡ x.octets = sym w.0 ∙ ap (λ (y : Signature). y.octets) ((same v.1).0 ∙ (same q.3).0) in
    let start : t.1 ≡ x.octets.start = ap (λ (y : Part). y.start) e in (
      omega (arith, start, w.1, w.2, length-take-le p.1 s i.1, i.1),
      sym (ap (λ (y : Part). y.length) e),
      omega (arith, i.1, (same q.3).1),
    )

-- ---- the whole
all_three : (x y z : Bool) → x && y && z ≡ true → (x ≡ true) × (y ≡ true) × (z ≡ true)
all_three true true true e = (refl, refl, refl)
all_three true true false e = let k : ◌≡◌ {A = ℕ} 0 1 = cc in absurd (omega arith)
all_three true false z e = let k : ◌≡◌ {A = ℕ} 0 1 = cc in absurd (omega arith)
all_three false y z e = let k : ◌≡◌ {A = ℕ} 0 1 = cc in absurd (omega arith)

known : (s : List ℕ) (m : Message) (next : ℕ) → whole_message s ≡ got m next → Inside s m × (next ≡ length s)
unfolding whole_message
known s m next h =
    let p = need_got 3 (leb (length s) 2048) _ h in
    let q = bind_got (exactly_at 2 s 0) _ p.1 in
    let r = bind_got (headers_at s q.1) _ q.3 in
    let x = r.0 in
    let t = bind_got (payload_at (complete_headers x) s r.1) _ r.3 in
    let i = payload_inside (complete_headers x) s r.1 t.0 t.1 t.2 in
    let u = bind_got (trailer_at s t.1) _ t.3 in
    let j = trailer_inside s t.1 u.0 u.1 u.2 in
    let v = need_got 5 (leb (length s) u.1) _ u.3 in
    let e = same v.1 in
    let k = all_three (not (eqb x.signer.form 0)) (is_some x.fields.generation) (is_some x.fields.aid) i.0 in (
      subst (λ (y : Message). Inside s y) e.0
          (record {
            short = leb-true (length s) 2048 p.0;
            payload = omega (arith, i.1, i.2);
            signature = j.0;
            whole = j.1;
            signed = refl;
            signer = headers_by s q.1 x r.1 r.2 k.0;
            dated = k.1;
            named = k.2;
          }),
      omega (arith, j.2, leb-true (length s) u.1 v.0, e.1),
    )

pub inside : (s : List ℕ) (m : Message) (next : ℕ) → whole_message s ≡ got m next → Inside s m
inside s m next h = (known s m next h).0
