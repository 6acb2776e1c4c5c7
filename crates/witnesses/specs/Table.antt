-- For each number that an operation can answer an input that reaches it (01, "Order of checks"), with the whole answer, by the
-- operation's own definition.
use Rattle.std.specs.Prelude.{ℕ, ◌≡◌, List, [], ◌∷◌, ◌++◌, replicate, pos, Some, None}
use Rattle.octets.specs.Refusals.{ACCEPTED, BAD_CALL, BAD_STORE, TOO_LONG, CUT, MALFORMED, UNSUPPORTED, UNKNOWN, WITHDRAWN, OTHER_CERTIFICATE, WRONG_KIND, NOT_PERMITTED, OUTSIDE_PERIOD, OUTSIDE_PLACE, OUT_OF_DATE, BAD_SIGNATURE, FULL, ALREADY_HELD, CHAIN_TOO_LONG}
use Rattle.octets.specs.Kinds.{TICKET}
use Rattle.octets.specs.Vectors.{part, nowhere}
use Rattle.attributes.specs.Keys.{absent}
use Rattle.attributes.specs.Permissions.{unused as no-permission}
use Rattle.certificate.specs.Certificates.{blank}
use Rattle.certificate.specs.Operations.{Reading, reading_of, Identified, id_of}
use Rattle.certificate.specs.declared.certificates.Certificate.{Certificate}
use Rattle.records.specs.Records.{image_of}
use Rattle.store.specs.Slots.{HELD, GONE, with_slot}
use Rattle.admission.specs.Order.{installed, admitted}
use Rattle.slot_lists.specs.Listings.{Listing, refused_list, written}
use Rattle.withdrawal.specs.Order.{after, page, withdrawal}
use Rattle.overview.specs.Order.{unread as unstored, slot_reading, standing_listing}
use Rattle.overview.specs.Order.{SlotReading}
use Rattle.verification.specs.Order.{situation, question, unasked, Decision, decision, undecided, Prepared, preparation, unprepared}
use Rattle.verification.specs.declared.judging.Situation.{Situation}
use Rattle.witnesses.specs.Inputs.{anchor, anchor_id, pass, pass_id, everywhere, bay, stored as recorded, empty, marked, chains, taken, gone_issuer, ticket_issuer, other_issuer, short_issuer, bay_issuer, full, named, carrying, message, at}
use Rattle.sample_stores.specs.Stores.{eight}

-- an operation's arguments, and what it answers
pub data Case : Type 0 where
  -- certificate
  read : List ℕ → Reading → Case
  id : List ℕ → Identified → Case
  -- store, certificate, verdict; the number and the store that it leaves
  install : List ℕ → List ℕ → ℕ → ℕ × List ℕ → Case
  admit : List ℕ → List ℕ → ℕ → ℕ × List ℕ → Case
  -- store, id, second, list
  list : List ℕ → List ℕ → ℕ → List ℕ → Listing → Case
  -- store, id; the number and the store that it leaves
  withdraw : List ℕ → List ℕ → ℕ × List ℕ → Case
  -- store, slot
  stored : List ℕ → ℕ → SlotReading → Case
  -- store, second, list
  standing : List ℕ → ℕ → List ℕ → Listing → Case
  -- store, message, situation
  prepare : List ℕ → List ℕ → Situation → Prepared → Case
  -- store, message, situation, the message's verdict and the certificate's
  decide : List ℕ → List ℕ → Situation → ℕ → ℕ → Decision → Case

abbrev pub Reached : Case → Type 0
Reached (read octets answer) = reading_of octets ≡ answer
Reached (id octets answer) = id_of octets ≡ answer
Reached (install store octets verdict answer) = installed store octets verdict ≡ answer
Reached (admit store octets verdict answer) = admitted store octets verdict ≡ answer
Reached (list store name second lent answer) = page store name second lent ≡ answer
Reached (withdraw store name answer) = withdrawal store name ≡ answer
Reached (stored store slot answer) = slot_reading store slot ≡ answer
Reached (standing store second lent answer) = standing_listing store second lent ≡ answer
Reached (prepare store octets x answer) = preparation store octets x ≡ answer
Reached (decide store octets x verdict certified answer) = decision store octets x verdict certified ≡ answer

abbrev pub EachReached : List Case → Type 0
EachReached [] = Unit
EachReached (c ∷ cs) = Reached c × EachReached cs

-- cases that share what they show
abbrev pub AllReached : List (List Case) → Type 0
AllReached [] = Unit
AllReached (g ∷ gs) = EachReached g × AllReached gs

-- ---- read and id: 0, 3, 4, 5, 6

-- what reading gives, and id's answer, where a certificate is refused
abbrev pub unread : List ℕ → ℕ → List Case
unread octets k = read octets (record { number = k; certificate = blank }) ∷ id octets (record { number = k; id = replicate 8 0 }) ∷ []

-- the fields of `anchor`
abbrev pub anchor_fields : Certificate
anchor_fields =
    record {
      head = record { signer = record { form = 0; digest = nowhere }; kind = 4; name = part 4 0 };
      attributes = record {
        key = record { form = 2; octets = part 8 32 };
        encryption = absent;
        assurance = None;
        permissions = Some (record { count = 1; values = record { aid = 36; ssp = nowhere } ∷ replicate 15 no-permission });
      };
      restrictions = record {
        period = Some (record { form = 0; start = 0; end = 1000 });
        area = None;
      };
      signed = part 0 49;
      signature = record { form = 0; octets = part 49 66 };
    }

abbrev pub reading : List (List Case)
reading =
    -- "The certificate, at most 1,024 octets"
    unread (replicate 1025 0) TOO_LONG ∷
    -- "the next field of a fixed order when nothing is left"
    unread [] CUT ∷
    -- "Signer 0 (self) for kind 4 ..": here for kind 1. "The wrong pairing is 5, found at the kind"
    unread (0x02 ∷ 0x00 ∷ 0x01 ∷ []) MALFORMED ∷
    -- "So is a version other than 2"
    unread (0x03 ∷ []) UNSUPPORTED ∷
    -- "Read a certificate (its fields, signed range and signature), and work out its 8-byte id"
    (read anchor (record { number = ACCEPTED; certificate = anchor_fields })
    ∷ id anchor (record { number = ACCEPTED; id = anchor_id })
    ∷ []) ∷ []

-- ---- prepare and decide: 0 to 14 and 18; decide 15

-- "Prepare .. refuses as decide with good verdicts"
abbrev pub unjudged : List ℕ → List ℕ → Situation → ℕ → List Case
unjudged store octets x k = prepare store octets x (unprepared k) ∷ decide store octets x 1 1 (undecided k) ∷ []

-- before a certificate is looked for
abbrev pub early : List (List Case)
early =
    -- "1 (store length, position out of range, age over 600,000,000 ..)"
    unjudged [] [] (at 0) BAD_CALL ∷
    unjudged empty [] (situation 0 (pos 900000001) (pos 0) 0) BAD_CALL ∷
    unjudged empty [] (situation 0 (pos 0) (pos 0) 600000001) BAD_CALL ∷
    -- "an empty slot is all zero"
    unjudged marked [] (at 0) BAD_STORE ∷
    -- "The signed message, at most 2,048 octets"
    unjudged empty (replicate 2049 0) (at 0) TOO_LONG ∷
    -- "the next field of a fixed order when nothing is left"
    unjudged empty [] (at 0) CUT ∷
    -- "80 7F is 5": the length of the headers
    unjudged empty (0x02 ∷ 0x80 ∷ 0x7F ∷ []) (at 0) MALFORMED ∷
    -- "So is a version other than 2"
    unjudged empty (0x03 ∷ []) (at 0) UNSUPPORTED ∷
    -- "Now 10,000,000, age 0: 8,000,000 .. pass; 7,999,999 .. 14"
    unjudged empty (message (named 0x03) 7999999 36) (at 10000000) OUT_OF_DATE ∷
    -- "or a signer id not stored 7"
    unjudged empty (message (named 0x03) 8000000 36) (at 10000000) UNKNOWN ∷ []

-- a message of ticket 03.. in the last second of its period
abbrev pub last : List ℕ
last = message (named 0x03) 299000000 36

-- by the stored certificates of `chains`
abbrev pub walked : List (List Case)
walked =
    -- "withdrawn, 8"
    unjudged chains (message (named 0x04) 220000000 36) (at 220000000) WITHDRAWN ∷
    -- "A message signer of a kind other than 1 is 10"
    unjudged chains (message (named 0x02) 220000000 36) (at 220000000) WRONG_KIND ∷
    -- "its_aid not among the signer's permissions 11"
    unjudged chains (message (named 0x03) 220000000 37) (at 220000000) NOT_PERMITTED ∷
    -- "Period 200 to 300: 299 in, 300 out": "second outside start ≤ second < end, 12"
    unjudged chains (message (named 0x03) 300000000 36) (at 300000000) OUTSIDE_PERIOD ∷
    -- "position outside its region (edges belong to it), 13"
    unjudged chains (message (named 0x05) 220000000 36) (at 220000000) OUTSIDE_PLACE ∷
    -- "this was the eighth certificate, 18"
    unjudged chains (message (named 0x0C) 220000000 36) (at 220000000) CHAIN_TOO_LONG ∷
    -- "Accepted messages give the payload as a part of the caller's message, the signer's id, permission and generation time"; the
    -- certificate's verdict is "ignored without one"
    (decide chains last (at 300000000) 1 0 (record { number = ACCEPTED; payload = part 25 2; signer = eight 0x03; permission = 36; generation = 299000000 })
    -- "message verdict 15"
    ∷ decide chains last (at 300000000) 0 1 (undecided BAD_SIGNATURE)
    -- "Its questions give signed range, key (point type and 32 octets) and the whole signature structure"
    ∷ prepare chains last (at 300000000)
    (record { number = ACCEPTED; message = question (part 0 29) (record { form = 2; octets = replicate 32 0 }) (part 29 66); certificate = unasked })
    ∷ []) ∷ []

-- a message that carries its signer's certificate
abbrev pub carried : List ℕ → List ℕ
carried certificate = message (carrying certificate) 220000000 36

abbrev pub copies : List (List Case)
copies =
    -- "embedded certificate's id stored but withdrawn 8"
    unjudged taken (carried pass) (at 220000000) WITHDRAWN ∷
    -- "stored record otherwise different 9"
    unjudged taken (carried anchor) (at 220000000) OTHER_CERTIFICATE ∷
    -- accepted
    (decide chains (carried pass) (at 220000000) 1 1 (record { number = ACCEPTED; payload = part 146 2; signer = pass_id; permission = 36; generation = 220000000 })
    -- "embedded certificate's verdict 15"
    ∷ decide chains (carried pass) (at 220000000) 1 0 (undecided BAD_SIGNATURE)
    -- ".. for the message and for an embedded certificate"
    ∷ prepare chains (carried pass) (at 220000000)
    (record {
      number = ACCEPTED;
      message = question (part 0 150) (record { form = 2; octets = replicate 32 0 }) (part 150 66);
      certificate = question (part 5 62) (record { form = 2; octets = replicate 32 0 }) (part 67 66);
    })
    ∷ []) ∷ []

-- ---- list and withdraw: 0, 1, 2, 7, 8

-- "on the same store and id"
abbrev pub unlisted : List ℕ → List ℕ → ℕ → List Case
unlisted store name k = list store name 220 (replicate 64 0) (refused_list k (replicate 64 0) store) ∷ withdraw store name (k, store) ∷ []

abbrev pub listing : List (List Case)
listing =
    -- "1 (store length, id not 8 octets, list under 64 octets)"
    unlisted [] (eight 0x02) BAD_CALL ∷
    unlisted empty (replicate 7 0x02) BAD_CALL ∷
    (list empty (eight 0x02) 220 (replicate 63 0) (refused_list BAD_CALL (replicate 63 0) empty) ∷ []) ∷
    -- "an empty slot is all zero"
    unlisted marked (eight 0x02) BAD_STORE ∷
    -- "a stored certificate is one in a filled slot": here is none
    unlisted empty (eight 0x02) UNKNOWN ∷
    -- withdrawn before
    unlisted chains (eight 0x04) WITHDRAWN ∷
    -- "The list's first n octets are slot numbers; the others stay." Slot 3 is withdrawn, and slot 11 doesn't stand: "Certificates deeper than
    -- eight may be admitted and don't stand"
    (list chains (eight 0x02) 220 (replicate 64 0) (written (1 ∷ 2 ∷ 4 ∷ 5 ∷ 6 ∷ 7 ∷ 8 ∷ 9 ∷ 10 ∷ []) (replicate 64 0) chains)
    ∷ withdraw chains (eight 0x02) (ACCEPTED, after chains 1)
    ∷ []) ∷ []

-- ---- stored: 0, 1, 2, 7; standing: 0, 1, 2

abbrev pub storing : List (List Case)
storing =
    -- "1 (store's length, slot above 63)"
    (stored [] 0 (unstored BAD_CALL) ∷ stored empty 64 (unstored BAD_CALL) ∷ []) ∷
    -- "an empty slot is all zero"
    (stored marked 0 (unstored BAD_STORE) ∷ []) ∷
    -- "7 (the slot is empty)"
    (stored empty 63 (unstored UNKNOWN) ∷ stored chains 12 (unstored UNKNOWN) ∷ []) ∷
    -- all that the slot holds: a ticket for the bay; one that is withdrawn
    (stored chains 4 (record { number = ACCEPTED; contents = recorded (eight 0x05) TICKET (eight 0x02) HELD 200 300 bay })
    ∷ stored chains 3 (record { number = ACCEPTED; contents = recorded (eight 0x04) TICKET (eight 0x02) GONE 200 300 everywhere })
    ∷ []) ∷ []

-- a lent list
abbrev pub lent : List ℕ
lent = replicate 64 0xFF

abbrev pub looking : List (List Case)
looking =
    -- "1": a list under 64 octets, the store's length
    (standing empty 220 (replicate 63 0xFF) (refused_list BAD_CALL (replicate 63 0xFF) empty) ∷ standing [] 220 lent (refused_list BAD_CALL lent []) ∷ []) ∷
    -- "an empty slot is all zero"
    (standing marked 220 lent (refused_list BAD_STORE lent marked) ∷ []) ∷
    -- nothing is stored, so that nothing stands
    (standing empty 220 lent (written [] lent empty) ∷ []) ∷
    -- slot 3 is withdrawn, and from slot 11 the root is the ninth certificate
    (standing chains 220 lent (written (0 ∷ 1 ∷ 2 ∷ 4 ∷ 5 ∷ 6 ∷ 7 ∷ 8 ∷ 9 ∷ 10 ∷ []) lent chains)
    -- the tickets' last second was 299
    ∷ standing chains 300 lent (written (0 ∷ 1 ∷ 5 ∷ 6 ∷ 7 ∷ 8 ∷ 9 ∷ 10 ∷ []) lent chains)
    ∷ []) ∷ []

-- ---- install and admit: 0 to 6, 10, 15 to 17; admit 7, 8, 11 to 13

abbrev pub unentered : List ℕ → List ℕ → ℕ → List Case
unentered store octets k = install store octets 1 (k, store) ∷ admit store octets 1 (k, store) ∷ []

abbrev pub entering : List (List Case)
entering =
    -- "1 (store not 13,568 octets)"
    unentered [] [] BAD_CALL ∷
    unentered marked [] BAD_STORE ∷
    -- "3, reading"
    unentered empty (replicate 1025 0) TOO_LONG ∷
    unentered empty [] CUT ∷
    unentered empty (0x02 ∷ 0x00 ∷ 0x01 ∷ []) MALFORMED ∷
    unentered empty (0x03 ∷ []) UNSUPPORTED ∷
    -- "10 (install wants kind 4, admit 1 or 2)"
    (install empty pass 1 (WRONG_KIND, empty) ∷ admit empty anchor 1 (WRONG_KIND, empty) ∷ []) ∷
    -- "17 (id in any filled slot)": held, withdrawn
    (install taken anchor 1 (ALREADY_HELD, taken) ∷ admit taken pass 1 (ALREADY_HELD, taken) ∷ []) ∷
    -- "for admit the issuer: 7, 8 (issuer withdrawn), 10, 11, 12, 13 as in the walk"
    (admit empty pass 1 (UNKNOWN, empty) ∷ []) ∷
    (admit gone_issuer pass 1 (WITHDRAWN, gone_issuer) ∷ []) ∷
    (admit ticket_issuer pass 1 (WRONG_KIND, ticket_issuer) ∷ []) ∷
    (admit other_issuer pass 1 (NOT_PERMITTED, other_issuer) ∷ []) ∷
    (admit short_issuer pass 1 (OUTSIDE_PERIOD, short_issuer) ∷ []) ∷
    (admit bay_issuer pass 1 (OUTSIDE_PLACE, bay_issuer) ∷ []) ∷
    -- "for both then 15, 16"
    (install empty anchor 0 (BAD_SIGNATURE, empty) ∷ admit chains pass 0 (BAD_SIGNATURE, chains) ∷ []) ∷
    (install full anchor 1 (FULL, full) ∷ admit full pass 1 (FULL, full) ∷ []) ∷
    -- "The lowest empty slot is written"
    (install empty anchor 1 (ACCEPTED, with_slot empty 0 (image_of (recorded anchor_id 4 (eight 0x00) HELD 0 1000 everywhere)))
    ∷ admit chains pass 1 (ACCEPTED, with_slot chains 12 (image_of (recorded pass_id 1 (eight 0x02) HELD 200 300 everywhere)))
    ∷ []) ∷ []

abbrev pub table : List (List Case)
table = reading ++ (entering ++ (listing ++ (storing ++ (looking ++ (early ++ (walked ++ copies))))))
