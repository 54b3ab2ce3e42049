-- Reading, unfolding, one record, and writing, at a setting. (01, Order: "setting, TOO LONG, [..] then LEFT OVER, then a record number
-- asked for, then ROOM")
use Rattle.std.specs.Prelude.{ℕ, zero, suc, ◌+◌, cond, List, [], ◌∷◌, ◌++◌, leb, length, drop}
use Rattle.layout.specs.Layout.Encode.{encode_record, encode}
use Rattle.layout.specs.Reading.Sheets.{start, sheet_walk}
use Rattle.layout.specs.Refusals.{ROOM, ASK}
use Rattle.layout.specs.Sheet.{Record, Head, Sheet, Table}
use Rattle.layout.specs.Walk.{Answer, given, refused, answer, up_to}
use Rattle.layout.specs.Writing.Sheets.{table_walk}
use Rattle.layout.specs.Writing.Tables.{flatten}
use Rattle.layout.specs.Years.{is_setting}

-- an answer made from another, unless that is a refusal
abbrev pub and_then : {A B : Type 0} → Answer A → (A → Answer B) → Answer B
and_then (given a) f = f a
and_then (refused reason place year) f = refused reason place year

-- "ASK: setting not one of nine [..]; place 0"
abbrev pub at_setting : {A : Type 0} → ℕ → Answer A → Answer A
at_setting year a = cond (is_setting year) a (refused ASK 0 0)

-- the setting of a year
abbrev pub setting_of : ℕ → Answer ℕ
setting_of year = at_setting year (given year)

unfoldable pub reading : ℕ → List ℕ → Answer Sheet
reading year s = at_setting year (answer (up_to year) (sheet_walk s))

-- how much is lent for numbers, elements and bytes
pub record Rooms : Type 0 where
  pub numbers : ℕ
  pub elements : ℕ
  pub bytes : ℕ

-- "Unfolding a sheet fills these three; ROOM has place 1, 2 or 3 for the first too small." (01, The record table)
abbrev pub in_rooms : Rooms → Table → Answer Table
in_rooms rooms t =
    cond (leb (length t.numbers) rooms.numbers)
    (cond (leb (length t.elements) rooms.elements)
    (cond (leb (length t.bytes) rooms.bytes) (given t) (refused ROOM 3 0))
    (refused ROOM 2 0))
    (refused ROOM 1 0)

unfoldable pub unfolded : ℕ → List ℕ → Rooms → Answer Table
unfolded year s rooms = and_then (reading year s) (λ t. in_rooms rooms (flatten t.records))

-- the sheet, where its table fits the rooms
unfoldable pub roomy : ℕ → List ℕ → Rooms → Answer Sheet
roomy year s rooms = and_then (reading year s) (λ t. and_then (in_rooms rooms (flatten t.records)) (λ _. given t))

-- What a lent output holds after a call. "A refusal [..] writes nothing. Success writes only the stated lengths." (01, The refusals)
abbrev pub over : List ℕ → List ℕ → List ℕ
over l before = l ++ drop (length l) before

abbrev pub lent : {A : Type 0} → (A → List ℕ) → Answer A → List ℕ → List ℕ
lent part (given a) before = over (part a) before
lent part (refused reason place year) before = before

-- a record and where it starts
pub record Placed : Type 0 where
  pub place : ℕ
  pub value : Record

-- the record of a number, from 0, where the first starts at a place; "ASK: [..] record number not below the count; place 0"
abbrev pub record_of : ℕ → List Record → ℕ → Answer Placed
record_of place [] number = refused ASK 0 0
record_of place (r ∷ rs) zero = given (record { place = place; value = r })
record_of place (r ∷ rs) (suc number) = record_of (place + length (encode_record r)) rs number

-- "A record asked for by number, from 0, answers place, total length, its eight numbers and its first part's points." (01) The ninth, the
-- mark, comes after items (02, request 2).
unfoldable pub asked : ℕ → List ℕ → ℕ → Answer Placed
asked year s number = and_then (reading year s) (λ t. record_of start t.records number)

-- "ROOM: a lent output too small; place 0 unless said"
abbrev pub in_room : ℕ → List ℕ → Answer (List ℕ)
in_room room s = cond (leb (length s) room) (given s) (refused ROOM 0 0)

-- what is given, where it fits a lent output of so many: ROOM comes after every other refusal
abbrev pub roomed : ℕ → Answer (List ℕ) → Answer (List ℕ)
roomed room a = and_then a (in_room room)

unfoldable pub written : ℕ → Head → Table → ℕ → Answer (List ℕ)
written year h t room = at_setting year (and_then (answer (up_to year) (table_walk h t)) (λ u. in_room room (encode u)))
