-- A short shore with a long island (02, request 2): the mark over a small first count, in reading and in writing.
use Prim.Native.Nat.{ℕ, zero, suc, ◌+◌, ◌<◌, ◌≤◌}
use mathlib.Core.Bool.{true, false}
use mathlib.Core.List.{List, [], ◌∷◌}
use mathlib.Core.Path.{◌≡◌, refl, sym, ◌∙◌, subst}
use borrow.Author.Tests.{eqb-true, eq-eqb, ltb-true}
use lib.ListN.{length, take, drop, length-append}
use native.Mathlib.Omega.{arith}
use Rattle.layout.specs.Answers.Calls.{Rooms, reading, unfolded, asked, written}
use Rattle.layout.specs.Answers.Enums.{found_of}
use Rattle.layout.specs.Bytes.{All, FitAll, repeat}
use Rattle.layout.specs.Computing.{computing}
use Rattle.layout.specs.Layout.Encode.{encode_record, encode}
use Rattle.layout.specs.Layout.Fine.{FinePart, FineSubobject, FineRecord, FineHead, Fine}
use Rattle.layout.specs.Layout.Sizes.{record_bytes}
use Rattle.layout.specs.Layout.Uses.{record_years, years}
use Rattle.layout.specs.Refusals.{LENGTH, COUNT, TOO_NEW}
use Rattle.layout.specs.Shared.Mark.{n1_of, has_mark, good_first}
use Rattle.layout.specs.Shared.Reference.{reference_checks, byte20, byte21, byte22}
use Rattle.layout.specs.Shared.Tails.{clean_sheet}
use Rattle.layout.specs.Sheet.{Part, Reference, Record, Head, Sheet, Table}
use Rattle.layout.specs.Walk.{given, refused}
use Rattle.layout.specs.Writing.Tables.{table, flatten_record, flatten}
use Rattle.layout.specs.Years.{is_setting}
use Rattle.laws.proofs.Again.{clean_again}
use Rattle.laws.proofs.Base.Lists.{◌&◌}
use Rattle.laws.proofs.Called.{reading-complete}
use Rattle.laws.proofs.Cases.Reading.{sealed}
use Rattle.laws.proofs.Encoding.Lengths.{length-encode}
use Rattle.laws.proofs.Encoding.Plain.{encode-bytes}
use Rattle.laws.proofs.Encoding.Tails.{clean-tails, all-clean}
use Rattle.laws.proofs.Samples.{with, sheet, point, sheet_p, head_of}
use Rattle.laws.proofs.Writing.Records.{NearRecord, near-fine}
use Rattle.laws.proofs.Writing.Sizes.{record_length}
use Rattle.std.specs.Prelude.{Ok}

-- P with the mark at +30 and its one point counted by the word: "under the mark any count in the word is good"
abbrev sheet_s : List ℕ
sheet_s = sealed (with 476 (1 ∷ 0 ∷ 0 ∷ 0 ∷ 0 ∷ 0 ∷ 0xFF ∷ 0xFF ∷ []) sheet_p)

-- "The record row gains a ninth number, mark 0 or 1"
abbrev table_s : Table
table_s = table (0 ∷ 0 ∷ 0 ∷ 2 ∷ 255 ∷ 1 ∷ 1 ∷ 0 ∷ 1 ∷ 1 ∷ 0 ∷ []) (3 ∷ 4 ∷ []) []

-- an area whose first part is that point, with a subobject after it, of which these are the bytes
abbrev island : List ℕ → List ℕ
island bs =
    let size : ℕ = 4 + length bs in
    sealed (sheet 0 1 (with 8 (size ∷ []) (with 24 (1 ∷ 0 ∷ 0 ∷ 0 ∷ 1 ∷ 0 ∷ 0xFF ∷ 0xFF ∷ []) (point 1 0 (32 + size) bs))))

abbrev rooms : Rooms
rooms = record { numbers = 13; elements = 4; bytes = 0 }

abbrev table_i : Table
table_i = table (0 ∷ 0 ∷ 0 ∷ 1 ∷ 255 ∷ 1 ∷ 2 ∷ 0 ∷ 1 ∷ 1 ∷ 0 ∷ 1 ∷ 0 ∷ []) (3 ∷ 4 ∷ 5 ∷ 6 ∷ []) []

small : (unfolded 2004 sheet_s rooms ≡ given table_s)
    × (written 2004 (head_of (0x41 ∷ [])) table_s 488 ≡ given sheet_s)
    -- "The mark's year stays 2004, and the writer's TOO NEW now stands at the mark's number."
    × (unfolded 1999 sheet_s rooms ≡ refused TOO_NEW 482 2004)
    × (written 1999 (head_of (0x41 ∷ [])) table_s 488 ≡ refused TOO_NEW 8 2004)
    × (found_of (asked 2017 sheet_s 0)
    ≡ Ok (record {
      place = 452;
      total = 36;
      code = 0;
      in_group = 0;
      group = 0;
      reference = 2;
      generalisation = 255;
      word = 1;
      parts = 1;
      items = 0;
      mark = 1;
      points = 1;
    }))
    -- a later count of one point, and one of 70,000: N1 is good, only the points do not fit
    × (unfolded 2017 (island (0 ∷ 0 ∷ 1 ∷ 0 ∷ 5 ∷ 0 ∷ 6 ∷ 0 ∷ [])) rooms ≡ given table_i)
    × (written 2017 (head_of (0x41 ∷ [])) table_i 496 ≡ given (island (0 ∷ 0 ∷ 1 ∷ 0 ∷ 5 ∷ 0 ∷ 6 ∷ 0 ∷ [])))
    × (reading 2017 (island (1 ∷ 0 ∷ 0x70 ∷ 0x11 ∷ [])) ≡ refused LENGTH 492 0)
    -- without the mark N1 is not good
    × (reading 2017 (sealed (with 482 (1 ∷ 0 ∷ []) (island (1 ∷ 0 ∷ 0x70 ∷ 0x11 ∷ [])))) ≡ refused COUNT 488 0)
unfolding computing
small = (refl, refl, refl, refl, refl, refl, refl, refl, refl)

-- "A lake outline of ten points had an island of 70,000."
abbrev area : Reference
area = record { byte20 = 1; byte21 = 0; byte22 = 0 }

abbrev pub lake : Part → Part → Record
lake shore isle =
    record {
      code = 0;
      in_group = 0;
      group = 0;
      reference = area;
      generalisation = 255;
      word = 10;
      mark = 1;
      first = shore;
      subobjects = isle ∷ [];
      items = [];
    }

-- its row, with word 10 and mark 1 before the counts of its parts; and the header's bytes from the word on
pub lake-row : (shore isle : Part)
    → ((flatten_record (lake shore isle)).numbers
    ≡ 0 ∷ 0 ∷ 0 ∷ 1 ∷ 255 ∷ 10 ∷ 2 ∷ 0 ∷ 1 ∷ shore.points ∷ length shore.text ∷ isle.points ∷ length isle.text ∷ [])
    × (take 8 (drop 24 (encode_record (lake shore isle))) ≡ 10 ∷ 0 ∷ 0 ∷ 0 ∷ 1 ∷ 0 ∷ 0xFF ∷ 0xFF ∷ [])
unfolding computing
lake-row shore isle = (refl, refl)

-- Whatever their points are, such a record is fine, and has 32 bytes, 40 of the shore, 4 of N1 and N2, and 280,000 of the island.
pub lake-fine : (shore isle : Part) → shore.points ≡ 10 → isle.points ≡ 70000 → FinePart area shore → FinePart area isle
    → FineRecord (lake shore isle) × (length (encode_record (lake shore isle)) ≡ 280076)
unfolding reference_checks byte20 byte21 byte22 record_bytes
lake-fine shore isle ten many fs fi =
    let near : NearRecord (lake shore isle) =
    record {
      code = omega arith;
      in_group = omega arith;
      group = omega arith;
      byte20 = omega arith;
      byte21 = omega arith;
      byte22 = omega arith;
      generalisation = omega arith;
      word = omega arith;
      count = omega arith;
      reference = refl & refl & refl & refl & tt;
      mark = omega arith;
      counted = eq-eqb 10 shore.points (sym ten);
      first = fs;
      subobjects = (record { n1 = omega arith; counted = refl; part = fi }, tt);
      flagged = refl;
      items = tt;
    } in
    let size : length (encode_record (lake shore isle)) ≡ 280076 = record_length (lake shore isle) near ∙ omega arith in
    (near-fine (lake shore isle) near (omega (arith, size)), size)

-- its one feature is the mark
pub lake-years : (shore isle : Part) → record_years (lake shore isle) ≡ 2004 ∷ []
unfolding computing record_years
lake-years shore isle = refl

-- So a sheet that holds it is read as what it holds, and is written from its table, at every setting that none of its features is later than.
pub lake-both_ways : (h : Head) → FineHead h → (shore isle : Part) → shore.points ≡ 10 → isle.points ≡ 70000
    → FinePart area shore → FinePart area isle → (year : ℕ) → is_setting year ≡ true
    → let t : Sheet = clean_sheet h (lake shore isle ∷ []) in
    All (λ z. z ≤ year) (years t)
    → (length (encode t) ≡ 280528) × (reading year (encode t) ≡ given t) × (written year h (flatten t.records) 280528 ≡ given (encode t))
lake-both_ways h fh shore isle ten many fs fi year ok old =
    let t : Sheet = clean_sheet h (lake shore isle ∷ []) in
    let ft = clean-tails h fh in
    let r = lake-fine shore isle ten many fs fi in
    let size : length (encode t) ≡ 280528 = omega (arith, length-encode t fh ft, length-append (encode_record (lake shore isle)) [], r.1) in
    let fine : Fine t = record { short = omega (arith, size); head = fh; tails = ft; count = omega arith; records = (r.0, tt) } in
    let read = reading-complete year (encode t) t (record { setting = ok; fine = fine; old = old; is = refl }) in
    (size, read, clean_again year (encode t) (encode-bytes t fine) t read (all-clean h) 280528 (omega (arith, size)))

-- There are such parts, of any count: all points at 0, 0.
abbrev still : ℕ → Part
still n = record { points = n; elements = repeat n (0 ∷ 0 ∷ []); text = [] }

still-fits : (n : ℕ) → FitAll (repeat n (2 ∷ 2 ∷ [])) (repeat n (0 ∷ 0 ∷ []))
still-fits zero = tt
still-fits (suc n) = (omega arith, (omega arith, still-fits n))

still-fine : (n : ℕ) → FinePart area (still n)
still-fine n = record { elements = still-fits n; label = refl }

pub still-lake : FineRecord (lake (still 10) (still 70000))
still-lake = (lake-fine (still 10) (still 70000) refl refl (still-fine 10) (still-fine 70000)).0

-- "Such a record must carry the mark, or the island's count has no room for its upper half."
no_room : (r : Reference) (l : List Part) → All (FineSubobject r false) l → All (λ a. a.points < 65536) l
no_room r [] f = tt
no_room r (a ∷ l) f = (omega (arith, eqb-true (n1_of a.points) 0 f.0.counted), no_room r l f.1)

pub unmarked : (r : Record) → FineRecord r → r.mark ≡ 0 → (r.first.points < 65535) × All (λ a. a.points < 65536) r.subobjects
unmarked r f none =
    let first : good_first 0 r.word r.first.points ≡ true = subst (λ m. good_first m r.word r.first.points ≡ true) none f.counted in
    let later : All (FineSubobject r.reference false) r.subobjects =
    subst (λ m. All (FineSubobject r.reference (has_mark m)) r.subobjects) none f.subobjects in
    (ltb-true _ _ first, no_room r.reference r.subobjects later)
