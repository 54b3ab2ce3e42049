-- How a record stands in the record table: which number has which index. (01, The record table)
--   "Per record eight numbers: code, number in group, group number, reference bytes as one number (byte 20 lowest), generalisation,
--   word at +24, parts (1 + subobjects), items. Then per part two: points, text length. Then per item four: code, type, scale byte,
--   value length."
-- Now nine: "The record row gains a ninth number, mark 0 or 1" (02, request 2). It stands after items.
use Rattle.std.specs.Prelude.{ℕ, ◌+◌, ◌*◌, ◌/◌, ◌%◌, List, [], ◌∷◌, ◌≡◌, refl, get_or}
use Rattle.layout.specs.Bytes.{number}
use Rattle.layout.specs.Sheet.{Reference}

-- the indices of a record's numbers, counted from the first of them
abbrev pub code : ℕ
code = 0

abbrev pub in_group : ℕ
in_group = 1

abbrev pub group : ℕ
group = 2

abbrev pub reference : ℕ
reference = 3

abbrev pub generalisation : ℕ
generalisation = 4

abbrev pub word : ℕ
word = 5

abbrev pub parts : ℕ
parts = 6

abbrev pub items : ℕ
items = 7

abbrev pub mark : ℕ
mark = 8

-- how many numbers a record has before those of its parts
abbrev pub row_width : ℕ
row_width = 9

-- the indices of a part's numbers, counted from the first of them
abbrev pub points : ℕ
points = 0

abbrev pub text_length : ℕ
text_length = 1

abbrev pub part_width : ℕ
part_width = 2

-- the indices of an item's numbers, counted from the first of them
abbrev pub item_code : ℕ
item_code = 0

abbrev pub item_type : ℕ
item_type = 1

abbrev pub item_scale : ℕ
item_scale = 2

abbrev pub item_length : ℕ
item_length = 3

abbrev pub item_width : ℕ
item_width = 4

-- how many numbers a record with so many parts and items calls for
abbrev pub row_size : ℕ → ℕ → ℕ
row_size part_count item_count = row_width + (part_width * part_count + item_width * item_count)

-- the number at an index; the checks see to it that there is one
abbrev pub nth : List ℕ → ℕ → ℕ
nth numbers index = get_or numbers index 0

-- "reference bytes as one number (byte 20 lowest)", and the bytes of such a number
abbrev pub reference_number : Reference → ℕ
reference_number r = number 3 (r.byte20 ∷ r.byte21 ∷ r.byte22 ∷ [])

abbrev pub reference_of : ℕ → Reference
reference_of n = record { byte20 = n % 256; byte21 = n / 256 % 256; byte22 = n / 65536 % 256 }

cases : (row_size 1 0 ≡ 11) × (row_size 2 3 ≡ 25) × (reference_number (record { byte20 = 2; byte21 = 1; byte22 = 8 }) ≡ 524546)
    × (reference_of 524546 ≡ record { byte20 = 2; byte21 = 1; byte22 = 8 })
cases = (refl, refl, refl, refl)
