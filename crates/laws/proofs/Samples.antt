-- The sheets that document 01 tries, made byte by byte from its own words, without the layout's help. (01, Sheets to try)
use Prim.Native.Nat.{ℕ, ◌+◌}
use mathlib.Core.List.{List, [], ◌∷◌, ◌++◌}
use lib.ListN.{length, take, drop, replicate}
use Rattle.layout.specs.Bytes.{bytes}
use Rattle.layout.specs.Sheet.{Head}

-- the bytes bs written over those from a place on
abbrev pub with : ℕ → List ℕ → List ℕ → List ℕ
with place bs s = take place s ++ bs ++ drop (place + length bs) s

-- "E: 452 bytes, designation "A" twice, 3 at 96 and 444, else zero beyond the fixed fields", with a sum and a record count
abbrev pub sheet : ℕ → ℕ → List ℕ → List ℕ
sheet sum count records =
    with 0 (0x53 ∷ 0x58 ∷ 0x46 ∷ 0x00 ∷ [])
    (with 4 (0x90 ∷ 0x01 ∷ 0x00 ∷ 0x00 ∷ [])
    (with 8 (0x00 ∷ 0x00 ∷ 0x04 ∷ 0x00 ∷ [])
    (with 12 (bytes 4 sum)
    (with 28 (0x41 ∷ [])
    (with 96 (3 ∷ [])
    (with 400 (0x44 ∷ 0x41 ∷ 0x54 ∷ 0x00 ∷ [])
    (with 404 (52 ∷ [])
    (with 408 (0x41 ∷ [])
    (with 440 (bytes 4 count)
    (with 444 (3 ∷ []) (replicate 452 0)))))))))))
    ++ records

-- "one record of 36 bytes: metric 4, byte 20 = 2, generalisation 255, points 1, X 3, Y 4", with bytes 20 and 21, a total length, and
-- semantics after it
abbrev pub point : ℕ → ℕ → ℕ → List ℕ → List ℕ
point byte20 byte21 total semantics =
    with 0 (0xFF ∷ 0x7F ∷ 0xFF ∷ 0x7F ∷ [])
    (with 4 (total ∷ [])
    (with 8 (4 ∷ [])
    (with 20 (byte20 ∷ byte21 ∷ [])
    (with 23 (255 ∷ [])
    (with 30 (1 ∷ [])
    (with 32 (3 ∷ [])
    (with 34 (4 ∷ []) (replicate 36 0))))))))
    ++ semantics

abbrev pub sheet_e : List ℕ
sheet_e = sheet 795 0 []

abbrev pub sheet_p : List ℕ
sheet_p = sheet 1865 1 (point 2 0 36 [])

-- "P with byte 21 = 2 and semantics 01 00 02 FF F9 04 (000, example 1)"
abbrev pub sheet_q : List ℕ
sheet_q = sheet 2384 1 (point 2 2 42 (0x01 ∷ 0x00 ∷ 0x02 ∷ 0xFF ∷ 0xF9 ∷ 0x04 ∷ []))

-- "P with byte 472 = 18, sum 1881": a multipolygon
abbrev pub sheet_m : List ℕ
sheet_m = sheet 1881 1 (point 18 0 36 [])

-- the head of these sheets, with a designation
abbrev pub head_of : List ℕ → Head
head_of designation =
    record {
      date = [];
      designation = designation;
      scale = 0;
      title = [];
      rest = 3 ∷ replicate 303 0;
      designation2 = 0x41 ∷ [];
      carried = 3 ∷ 0 ∷ 0 ∷ 0 ∷ [];
    }
