-- An item's checks in three steps: what its code, type and scale byte say, how long its value is, and its closing zeros.
use Rattle.std.specs.Prelude.{List, [], ◌∷◌, ◌++◌, ◌≡◌, refl, ℕ, ◌+◌, eqb, leb, length, take}
use Rattle.layout.specs.Fields.Item as Field
use Rattle.layout.specs.Refusals.{SEMANTIC, TABLE, TEXT}
use Rattle.layout.specs.Shared.Row
use Rattle.layout.specs.Shared.Types.{Kind, kind_of, is_known, is_long, good_scale, length_bytes, value_length, good_length, is_closed}
use Rattle.layout.specs.Walk.{Check, must, dated}
use Rattle.layout.specs.Writing.Items.{ItemRow, fits_field, item_rules}
use Rattle.layout.specs.Years.{since, type_128}
use Rattle.writing_check.specs.declared.items.ItemNumbers.{ItemNumbers}

abbrev pub row_of : ItemNumbers → ItemRow
row_of a = record { code = a.code; type = a.t; scale = a.scale; size = a.size }

-- how many bytes it has
abbrev pub length_of : ItemNumbers → Kind → ℕ
length_of a k = Field.size + (length_bytes k + a.size)

abbrev pub head_rules : ItemNumbers → Kind → List Check
head_rules a k =
    fits_field Field.code a.code Row.item_code
    ∷ fits_field Field.type a.t Row.item_type
    ∷ must (is_known k) SEMANTIC Row.item_type
    ∷ dated (is_long k) (since type_128) Row.item_type
    ∷ fits_field Field.scale a.scale Row.item_scale
    ∷ must (good_scale k a.scale) SEMANTIC Row.item_scale
    ∷ []

abbrev pub size_rules : ItemNumbers → Kind → ℕ → List Check
size_rules a k left =
    fits_field Field.long_length a.size Row.item_length
    ∷ must (eqb a.size (value_length k a.scale a.size)) TABLE Row.item_length
    ∷ must (good_length k a.size) SEMANTIC Row.item_length
    ∷ must (leb a.size left) TABLE Row.item_length
    ∷ []

abbrev pub value_rules : ItemNumbers → Kind → ℕ → List ℕ → List Check
value_rules a k left pool = size_rules a k left ++ (must (is_closed k (take a.size pool)) TEXT Row.item_length ∷ [])

-- together they are the checks of an item
pub item_rules_lem : (a : ItemNumbers) (k : Kind) (pool : List ℕ) → k ≡ kind_of a.t
    → head_rules a k ++ value_rules a k (length pool) pool ≡ item_rules (row_of a) pool
unfolding item_rules
item_rules_lem a k pool e = rw e refl
