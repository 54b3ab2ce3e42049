-- An item in two halves: what its head says, and its value.
use Rattle.std.specs.Prelude.{List, [], ◌∷◌, ◌≡◌, ℕ, ◌-◌, ◌≤◌, leb, length}
use Rattle.reading_check.specs.declared.items.Shape.{Shape}
use Rattle.layout.specs.Bytes.{number_in}
use Rattle.layout.specs.Fields.Item as Field
use Rattle.layout.specs.Reading.Items.{kind_in, value_at, value_size, item_size, item_in}
use Rattle.layout.specs.Refusals.{LENGTH, SEMANTIC, TEXT}
use Rattle.layout.specs.Shared.Types.{Kind, is_known, is_long, good_scale, value_length, good_length, closing, is_closed}
use Rattle.layout.specs.Sheet.{Item}
use Rattle.layout.specs.Walk.{Check, must, dated, checks, ◌>>◌, ends, Reader, piece}
use Rattle.layout.specs.Years.{since, type_128}

-- what follows from the type and the scale byte; the size of a long value stands before it, and is 0 here
abbrev pub shape_of : Kind → ℕ → Shape
shape_of k scale =
    record {
      known = is_known k;
      long = is_long k;
      good_scale = good_scale k scale;
      at = value_at k;
      size = value_length k scale 0;
      closing = closing k;
    }

pub record Shaped (xs : List ℕ) (k : Shape) : Type 0 where
  pub is : k ≡ shape_of (kind_in xs) (number_in Field.scale xs)
  pub low : 4 ≤ k.at
  pub at : k.at ≤ 8
  pub size : k.size ≤ 512
  pub closing : k.closing ≤ 2

-- the checks up to where the value starts, with n bytes left from the item's start on
abbrev pub shape_checks : Shape → ℕ → List Check
shape_checks k n =
    must k.known SEMANTIC (Field.type).place
    ∷ dated k.long (since type_128) (Field.type).place
    ∷ must k.good_scale SEMANTIC (Field.scale).place
    ∷ must (leb k.at n) LENGTH 0
    ∷ []

unfoldable pub value_checks : List ℕ → List Check
value_checks xs =
    must (good_length (kind_in xs) (value_size xs)) SEMANTIC (Field.long_length).place
    ∷ must (leb (item_size xs) (length xs)) LENGTH 0
    ∷ must (is_closed (kind_in xs) (item_in xs).value) TEXT (item_size xs - closing (kind_in xs))
    ∷ []

unfoldable pub value_walk : Reader Item
value_walk place xs = do
  checks place (value_checks xs)
  ends (piece (item_in xs) (item_size xs))
