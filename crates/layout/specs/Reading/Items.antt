-- A semantic item. (01, Record and Order: "each item (head, type, scale, length, fit, closing zeros)")
use Rattle.std.specs.Prelude.{ℕ, ◌+◌, ◌-◌, List, [], ◌∷◌, leb, length, take, drop}
use Rattle.layout.specs.Bytes.{number_in}
use Rattle.layout.specs.Fields.Item as Field
use Rattle.layout.specs.Refusals.{LENGTH, SEMANTIC, TEXT}
use Rattle.layout.specs.Shared.Types.{Kind, kind_of, is_known, is_long, good_scale, length_bytes, value_length, good_length, closing, is_closed}
use Rattle.layout.specs.Sheet.{Item}
use Rattle.layout.specs.Walk.{Check, must, dated, checks, ◌>>◌, ends, Reader, piece}
use Rattle.layout.specs.Years.{since, type_128}

-- xs are the bytes from the item's start on
abbrev pub kind_in : List ℕ → Kind
kind_in xs = kind_of (number_in Field.type xs)

-- where the value starts: after code, type and scale, and with type 128 after its length
abbrev pub value_at : Kind → ℕ
value_at k = Field.size + length_bytes k

abbrev pub value_size : List ℕ → ℕ
value_size xs = value_length (kind_in xs) (number_in Field.scale xs) (number_in Field.long_length xs)

abbrev pub item_size : List ℕ → ℕ
item_size xs = value_at (kind_in xs) + value_size xs

abbrev pub item_in : List ℕ → Item
item_in xs =
    record {
      code = number_in Field.code xs;
      type = number_in Field.type xs;
      scale = number_in Field.scale xs;
      value = take (value_size xs) (drop (value_at (kind_in xs)) xs);
    }

-- "SEMANTIC: unknown type (item +2), bad scale (+3), bad length of type 128 (+4)"; "LENGTH: [..] an item not fitting (its first
-- byte)"; "TEXT: [..] a closing zero missing (first closing byte)" (01, The refusals)
unfoldable pub item_checks : List ℕ → List Check
item_checks xs =
    let k : Kind = kind_in xs in
    must (is_known k) SEMANTIC (Field.type).place
    ∷ dated (is_long k) (since type_128) (Field.type).place
    ∷ must (good_scale k (number_in Field.scale xs)) SEMANTIC (Field.scale).place
    ∷ must (leb (value_at k) (length xs)) LENGTH 0
    ∷ must (good_length k (value_size xs)) SEMANTIC (Field.long_length).place
    ∷ must (leb (item_size xs) (length xs)) LENGTH 0
    ∷ must (is_closed k (item_in xs).value) TEXT (item_size xs - closing k)
    ∷ []

unfoldable pub item_walk : Reader Item
item_walk place xs = do
  checks place (must (leb Field.size (length xs)) LENGTH 0 ∷ [])
  checks place (item_checks xs)
  ends (piece (item_in xs) (item_size xs))
