-- How many bytes a record has, by numbers that stand in the table.
use Rattle.std.specs.Prelude.{ℕ, ◌+◌, ◌*◌, cond, List, [], ◌∷◌, length}
use Rattle.layout.specs.Fields.Header
use Rattle.layout.specs.Fields.Item as ItemField
use Rattle.layout.specs.Fields.Subobject
use Rattle.layout.specs.Shared.Reference.{text_in_metric}
use Rattle.layout.specs.Shared.Types.{kind_of, length_bytes}
use Rattle.layout.specs.Shared.Widths.{point_size}
use Rattle.layout.specs.Sheet.{Item, Part, Reference, Record}

abbrev pub sum_by : {A : Type 0} → (A → ℕ) → List A → ℕ
sum_by f [] = 0
sum_by f (a ∷ l) = f a + sum_by f l

abbrev pub item_bytes : Item → ℕ
item_bytes i = ItemField.size + (length_bytes (kind_of i.type) + length i.value)

-- a text has a length byte and a closing zero
abbrev pub part_bytes : Reference → Part → ℕ
part_bytes r a = a.points * point_size r + cond (text_in_metric r) (2 + length a.text) 0

abbrev pub subobject_bytes : Reference → Part → ℕ
subobject_bytes r a = Subobject.size + part_bytes r a

unfoldable pub record_bytes : Record → ℕ
record_bytes r =
    Header.size + (part_bytes r.reference r.first + sum_by (subobject_bytes r.reference) r.subobjects + sum_by item_bytes r.items)
