-- The other answers: sizes, rooms, one record, the head, the unit and corners; the features met and the years used; a sheet with every
-- kind of part and item, read and written back.
use Prim.Native.Nat.{ℕ}
use mathlib.Core.List.{List, [], ◌∷◌, ◌++◌}
use mathlib.Core.Path.{◌≡◌, refl}
use lib.Ieee.{Float, binary64, nan_bits, of_bits}
use Rattle.layout.specs.Answers.Calls.{and_then, reading, unfolded, Rooms, asked, written}
use Rattle.layout.specs.Answers.Enums.{checked_of, found_of, headed_of, unit_in, corners_in}
use Rattle.layout.specs.Computing.{computing}
use Rattle.layout.specs.Layout.Uses.{years}
use Rattle.layout.specs.Reading.Sheets.{sheet_walk}
use Rattle.layout.specs.Refusals.{SUM, TOO_NEW, LENGTH, ROOM, ASK, refusal_number}
use Rattle.layout.specs.Sheet.{Table}
use Rattle.layout.specs.Walk.{given, refused, Met, met}
use Rattle.layout.specs.Writing.Tables.{table}
use Rattle.layout.specs.declared.Corners.TheVariants as Corners
use Rattle.layout.specs.declared.SheetUnit.TheVariants as Unit-is
use Rattle.laws.proofs.Cases.Reading.{sealed}
use Rattle.laws.proofs.Samples.{with, sheet, point, sheet_e, sheet_p, sheet_q, head_of}
use Rattle.std.specs.Prelude.{Ok, Err}

abbrev rooms : ℕ → ℕ → ℕ → Rooms
rooms n e b = record { numbers = n; elements = e; bytes = b }

-- "ROOM has place 1, 2 or 3 for the first too small"; a sheet's own refusal comes first, then a record number asked for
calls : (unfolded 2017 sheet_q (rooms 14 1 1) ≡ refused ROOM 1 0)
    × (unfolded 2017 sheet_q (rooms 15 1 1) ≡ refused ROOM 2 0)
    × (unfolded 2017 sheet_q (rooms 15 2 1) ≡ refused ROOM 3 0)
    × (unfolded 2017 (sheet 796 0 []) (rooms 0 0 0) ≡ refused SUM 12 0)
    × (checked_of (reading 2017 sheet_q) ≡ Ok (record { sum = 2384; records = 1; numbers = 15; elements = 2; bytes = 2 }))
    × (checked_of (reading 2017 (sheet 796 0 [])) ≡ Err (record { reason = SUM; place = 12; year = 0 }))
    × (asked 2017 (sheet 796 0 []) 7 ≡ refused SUM 12 0)
    × (asked 2017 sheet_p 1 ≡ refused ASK 0 0)
    × (refusal_number SUM ≡ 5)
unfolding computing
calls = (refl, refl, refl, refl, refl, refl, refl, refl, refl)

-- Q's record as the third, behind two of P's
found : found_of (asked 2017 (sealed (sheet 0 3 (point 2 0 36 [] ++ point 2 0 36 [] ++ point 2 2 42 (1 ∷ 0 ∷ 2 ∷ 255 ∷ 249 ∷ 4 ∷ [])))) 2)
    ≡ Ok (record {
      place = 524;
      total = 42;
      code = 0;
      in_group = 0;
      group = 0;
      reference = 514;
      generalisation = 255;
      word = 0;
      parts = 1;
      items = 1;
      mark = 0;
      points = 1;
    })
unfolding computing
found = refl

abbrev zero_double : Float
zero_double = of_bits binary64 0

views : (unit_in (reading 2017 sheet_e) ≡ Ok Unit-is.DevicePoints)
    × (unit_in (reading 2017 (sealed (with 315 (0x80 ∷ []) (with 236 (65 ∷ []) sheet_e)))) ≡ Ok Unit-is.Degrees)
    × (unit_in (reading 2017 (sheet 796 0 [])) ≡ Err (record { reason = SUM; place = 12; year = 0 }))
    × (corners_in (reading 2017 (sealed (with 166 (0xF0 ∷ 0x3F ∷ []) sheet_e)))
    ≡ Ok (Corners.Doubles (record {
      sw_x = zero_double;
      sw_y = zero_double;
      nw_x = zero_double;
      nw_y = zero_double;
      ne_x = zero_double;
      ne_y = zero_double;
      se_x =
          zero_double;
      se_y = of_bits binary64 0x3FF0000000000000;
    })))
    -- the third corner is no number: its place, and all eight as stored
    × (corners_in (reading 2017 (sealed (with 126 (0xF8 ∷ 0x7F ∷ []) sheet_e)))
    ≡ Ok (Corners.Bits 120 (record { sw_x = 0; sw_y = 0; nw_x = 0x7FF8000000000000; nw_y = 0; ne_x = 0; ne_y = 0; se_x = 0; se_y = 0 })))
    × (refusal_number SUM ≡ 5)
unfolding computing nan_bits
views = (refl, refl, refl, refl, refl, refl)

-- A label of two parts in three dimensions, of floating elements, with an item of each type: the header,
abbrev rich : List ℕ
rich =
    (0xFF ∷ 0x7F ∷ 0xFF ∷ 0x7F ∷ 114 ∷ 0 ∷ 0 ∷ 0 ∷ 22 ∷ 0 ∷ 0 ∷ 0 ∷ 7 ∷ 0 ∷ 0 ∷ 0 ∷ [])
    ++ (1 ∷ 0 ∷ 2 ∷ 0 ∷ 3 ∷ 2 ∷ 14 ∷ 0x24 ∷ 9 ∷ 0 ∷ 0 ∷ 0 ∷ 1 ∷ 0 ∷ 1 ∷ 0 ∷ [])
    -- X, Y and the height, with the text "AB"; a subobject without points, with an empty text
    ++ (1 ∷ 0 ∷ 0 ∷ 0 ∷ 2 ∷ 0 ∷ 0 ∷ 0 ∷ 3 ∷ 0 ∷ 0 ∷ 0 ∷ 2 ∷ 0x41 ∷ 0x42 ∷ 0 ∷ [])
    ++ (0 ∷ 0 ∷ 0 ∷ 0 ∷ 0 ∷ 0 ∷ [])
    -- types 0, 126, 127, 1, 2, 4, 8, 128
    ++ (1 ∷ 0 ∷ 0 ∷ 1 ∷ 0x41 ∷ 0 ∷ [])
    ++ (2 ∷ 0 ∷ 126 ∷ 0 ∷ 0 ∷ [])
    ++ (3 ∷ 0 ∷ 127 ∷ 0 ∷ 0 ∷ 0 ∷ [])
    ++ (4 ∷ 0 ∷ 1 ∷ 0 ∷ 5 ∷ [])
    ++ (5 ∷ 0 ∷ 2 ∷ 1 ∷ 6 ∷ 7 ∷ [])
    ++ (6 ∷ 0 ∷ 4 ∷ 2 ∷ 8 ∷ 9 ∷ 10 ∷ 11 ∷ [])
    ++ (7 ∷ 0 ∷ 8 ∷ 0x80 ∷ 1 ∷ 2 ∷ 3 ∷ 4 ∷ 5 ∷ 6 ∷ 7 ∷ 8 ∷ [])
    ++ (8 ∷ 0 ∷ 128 ∷ 255 ∷ 4 ∷ 0 ∷ 0 ∷ 0 ∷ 0x42 ∷ 0 ∷ 0 ∷ 0 ∷ [])

abbrev sheet_r : List ℕ
sheet_r = sealed (sheet 0 2 (rich ++ point 2 0 36 []))

-- its table: the label's row, its parts and items, and then the row of P's record
abbrev table_r : Table
table_r =
    table
    ((7 ∷ 1 ∷ 2 ∷ 918019 ∷ 0x24 ∷ 9 ∷ 2 ∷ 8 ∷ 0 ∷ [])
    ++ (1 ∷ 2 ∷ 0 ∷ 0 ∷ [])
    ++ (1 ∷ 0 ∷ 1 ∷ 2 ∷ 2 ∷ 126 ∷ 0 ∷ 1 ∷ 3 ∷ 127 ∷ 0 ∷ 2 ∷ 4 ∷ 1 ∷ 0 ∷ 1 ∷ 5 ∷ 2 ∷ 1 ∷ 2 ∷ 6 ∷ 4 ∷ 2 ∷ 4 ∷ 7 ∷ 8 ∷ 128 ∷ 8 ∷ 8 ∷ 128 ∷ 255 ∷ 4 ∷ [])
    ++ (0 ∷ 0 ∷ 0 ∷ 2 ∷ 255 ∷ 0 ∷ 1 ∷ 0 ∷ 0 ∷ 1 ∷ 0 ∷ []))
    (1 ∷ 2 ∷ 3 ∷ 3 ∷ 4 ∷ [])
    -- the text, and the values in order
    ((0x41 ∷ 0x42 ∷ [])
    ++ (0x41 ∷ 0 ∷ 0 ∷ 0 ∷ 0 ∷ 5 ∷ 6 ∷ 7 ∷ 8 ∷ 9 ∷ 10 ∷ 11 ∷ 1 ∷ 2 ∷ 3 ∷ 4 ∷ 5 ∷ 6 ∷ 7 ∷ 8 ∷ 0x42 ∷ 0 ∷ 0 ∷ 0 ∷ []))

both_ways : (unfolded 2017 sheet_r (rooms 56 5 26) ≡ given table_r)
    × (written 2017 (head_of (0x41 ∷ [])) table_r 602 ≡ given sheet_r)
    × (unfolded 2008 sheet_r (rooms 56 5 26) ≡ refused TOO_NEW 556 2012)
    × (written 2008 (head_of (0x41 ∷ [])) table_r 602 ≡ refused TOO_NEW 42 2012)
unfolding computing
both_ways = (refl, refl, refl, refl)

-- features in order, with place and year: accuracy, GUID and edit date, multipolygon, compressed graphics, Unicode
abbrev sheet_f : List ℕ
sheet_f = sealed (with 98 (1 ∷ []) (with 447 (3 ∷ []) (sheet 0 1 (point 18 17 36 []))))

abbrev feature : ℕ → ℕ → Met
feature place year = record { place = place; year = year }

abbrev six_features : List Met
six_features = feature 98 2006 ∷ feature 447 2017 ∷ feature 447 2017 ∷ feature 472 2016 ∷ feature 473 2015 ∷ feature 473 2008 ∷ []

-- the same features where the sheet is accepted, and where it then meets a refusal of its own (metric over total - 32 comes before them)
features : (met (sheet_walk sheet_f) ≡ six_features)
    × (and_then (reading 2017 sheet_f) (λ t. given (years t)) ≡ given (2006 ∷ 2017 ∷ 2017 ∷ 2016 ∷ 2015 ∷ 2008 ∷ []))
    × (met (sheet_walk (sealed (with 482 (2 ∷ []) sheet_f))) ≡ six_features)
    × (met (sheet_walk (sealed (with 460 (5 ∷ []) sheet_f))) ≡ feature 98 2006 ∷ feature 447 2017 ∷ feature 447 2017 ∷ [])
    × (reading 2016 (sealed (with 482 (2 ∷ []) sheet_f)) ≡ refused TOO_NEW 447 2017)
    × (reading 2017 (sealed (with 482 (2 ∷ []) sheet_f)) ≡ refused LENGTH 484 0)
unfolding computing
features = (refl, refl, refl, refl, refl, refl)
