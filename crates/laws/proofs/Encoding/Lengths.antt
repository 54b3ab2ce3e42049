-- How many bytes headers, records and sheets have.
use mathlib.Core.List.{List, [], ◌∷◌, ◌++◌}
use mathlib.Core.Path.{◌≡◌, refl}
use Prim.Native.Nat.{ℕ, ◌+◌, ◌*◌, ◌≤◌}
use lib.ListN.{length, length-append, length-replicate}
use native.Mathlib.Omega.{arith}
use Rattle.layout.specs.Bytes.{flat}
use Rattle.layout.specs.Fields.Header
use Rattle.layout.specs.Layout.Encode.{encode_metric, encode_semantics, encode_header, encode_record, encode_head, encode_with, sheet_sum, encode}
use Rattle.layout.specs.Layout.Fine.{FineHead, FineTails}
use Rattle.layout.specs.Reading.Sheets.{start}
use Rattle.layout.specs.Sheet.{Record, Head, Tails, Sheet}

-- a header has 32 bytes
pub length-header : (r : Record) (metric semantics : ℕ) → length (encode_header r metric semantics) ≡ Header.size
unfolding encode_header
length-header r metric semantics = refl

pub length_record : (r : Record) → length (encode_record r) ≡ Header.size + length (encode_metric r) + length (encode_semantics r)
unfolding encode_record
length_record r =
    let metric = encode_metric r in
    let semantics = encode_semantics r in
    let header = encode_header r (length metric) (length semantics) in
    omega (arith, length-header r (length metric) (length semantics), length-append (header ++ metric) semantics, length-append header metric)

-- the records' bytes are some of the sheet's
pub length-records : (u : Sheet) → length (flat encode_record u.records) ≤ length (encode u)
unfolding encode encode_with
length-records u =
    omega (arith, length-append (encode_head u.head u.tails (sheet_sum u) (length u.records)) (flat encode_record u.records))

-- there are at least 32 for each record
pub count-records : (l : List Record) → 32 * length l ≤ length (flat encode_record l)
count-records [] = omega arith
count-records (r ∷ l) = omega (arith, count-records l, length_record r, length-append (encode_record r) (flat encode_record l))

-- passport and descriptor
pub head-length : (h : Head) (a : Tails) (sum count : ℕ) → FineHead h → FineTails h a → length (encode_head h a sum count) ≡ start
unfolding encode_head
head-length h a sum count f g =
    let date = g.date.filled in
    let designation = g.designation.filled in
    let title = g.title.filled in
    let designation2 = g.designation2.filled in
    simp (length-append, length-replicate) (omega (arith, f.rest.0, f.carried.0))

-- a sheet has 452 bytes and its records'
pub length-encode : (u : Sheet) → FineHead u.head → FineTails u.head u.tails → length (encode u) ≡ start + length (flat encode_record u.records)
unfolding encode encode_with
length-encode u f g =
    let count = length u.records in
    let sum = sheet_sum u in
    omega (arith, length-append (encode_head u.head u.tails sum count) (flat encode_record u.records), head-length u.head u.tails sum count f g)
