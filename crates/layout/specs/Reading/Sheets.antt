-- The sheet: passport, descriptor, records. (01, Order: "TOO LONG, 452 bytes, then passport and descriptor by rising place, then each
-- record [..]; then LEFT OVER")
use Rattle.std.specs.Prelude.{ℕ, ◌+◌, List, [], ◌∷◌, eqb, leb, length, take, drop}
use Rattle.layout.specs.Bytes.{Field, after, number_in, bytes_in, total, low32, zeros}
use Rattle.layout.specs.Fields.{limit}
use Rattle.layout.specs.Fields.Descriptor
use Rattle.layout.specs.Fields.Passport
use Rattle.layout.specs.Reading.Records.{record_walk}
use Rattle.layout.specs.Refusals.{TOO_LONG, SHORT, NOT_SXF, EDITION, SUM, LEFT_OVER}
use Rattle.layout.specs.Shared.Carried.{allowed, rest_checks, carried_checks}
use Rattle.layout.specs.Shared.Texts.{text_of, tail_of, text_field}
use Rattle.layout.specs.Sheet.{Head, Tails, Sheet}
use Rattle.layout.specs.Walk.{Walk, Check, must, checks, ◌>>=◌, ◌>>◌, ends, times, whole}
use Rattle.layout.specs.declared.refusals.Reason.{Reason}

-- where the records start: after passport and descriptor, at 452
abbrev pub start : ℕ
start = after Descriptor.reserved

-- "Sum (000, appendix 2): all bytes of the sheet as numbers 0 to 255, with the four bytes at 12 counted as zero." (01, Passport)
abbrev pub whole_sum : List ℕ → ℕ
whole_sum s = total (take (Passport.sum).place s) + total (drop (after Passport.sum) s)

-- "The sum may now pass 32 bits, and only its low 32 are kept." (02, request 7)
abbrev pub sum_of : List ℕ → ℕ
sum_of s = low32 (whole_sum s)

-- "TOO LONG: sheet over the limit; place 0"; "SHORT: under 452 bytes (place 0)"
unfoldable pub size_checks : List ℕ → List Check
size_checks s = must (leb (length s) limit) TOO_LONG 0 ∷ must (leb start (length s)) SHORT 0 ∷ []

-- a field that may hold one value only: "NOT SXF: an identifier differs"; "EDITION: a fixed length or the edition differs"
abbrev pub fixed : Field → ℕ → Reason → List ℕ → Check
fixed f value reason s = must (eqb (number_in f s) value) reason f.place

-- the passport up to its rest. "SUM: sum differs; place 12"
unfoldable pub passport_checks : List ℕ → List Check
passport_checks s =
    fixed Passport.identifier Passport.identifier_is NOT_SXF s
    ∷ fixed Passport.own_length Passport.own_length_is EDITION s
    ∷ fixed Passport.edition Passport.edition_is EDITION s
    ∷ fixed Passport.sum (sum_of s) SUM s
    ∷ text_field Passport.date s
    ∷ text_field Passport.designation s
    ∷ text_field Passport.title s
    ∷ []

-- the descriptor up to its carried bytes, and what follows them
unfoldable pub descriptor_checks : List ℕ → List Check
descriptor_checks s =
    fixed Descriptor.identifier Descriptor.identifier_is NOT_SXF s
    ∷ fixed Descriptor.own_length Descriptor.own_length_is EDITION s
    ∷ text_field Descriptor.designation s
    ∷ []

-- "448 four zero bytes"
unfoldable pub reserved_checks : List ℕ → List Check
reserved_checks s = allowed (zeros (bytes_in Descriptor.reserved s)) Descriptor.reserved ∷ []

abbrev pub head_in : List ℕ → Head
head_in s =
    record {
      date = text_of (bytes_in Passport.date s);
      designation = text_of (bytes_in Passport.designation s);
      scale = number_in Passport.scale s;
      title = text_of (bytes_in Passport.title s);
      rest = bytes_in Passport.rest s;
      designation2 = text_of (bytes_in Descriptor.designation s);
      carried = bytes_in Descriptor.carried s;
    }

-- what is read past in the text fields
abbrev pub tails_in : List ℕ → Tails
tails_in s =
    record {
      date = tail_of (bytes_in Passport.date s);
      designation = tail_of (bytes_in Passport.designation s);
      title = tail_of (bytes_in Passport.title s);
      designation2 = tail_of (bytes_in Descriptor.designation s);
    }

-- "LEFT OVER: bytes after the last record (the first)"
unfoldable pub sheet_walk : List ℕ → Walk Sheet
sheet_walk s = do
  checks 0 (size_checks s)
  checks 0 (passport_checks s)
  checks 0 (rest_checks (bytes_in Passport.rest s))
  checks 0 (descriptor_checks s)
  checks 0 (carried_checks (bytes_in Descriptor.carried s))
  checks 0 (reserved_checks s)
  records ← whole LEFT_OVER (times (number_in Descriptor.count s) record_walk) start (drop start s)
  ends (record { head = head_in s; tails = tails_in s; records = records })
