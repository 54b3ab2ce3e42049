-- The writer's checks on an item's four numbers. (01, The record table)
--   "At an item: SEMANTIC or TOO NEW at type, SEMANTIC at scale; at value length TABLE, SEMANTIC (type 128), the pool, TEXT for a
--   closing zero missing. At one index the number's own size comes first".
use Rattle.std.specs.Prelude.{ℕ, ◌^◌, List, [], ◌∷◌, eqb, leb, ltb, length, take, drop}
use Rattle.layout.specs.Bytes.{Field}
use Rattle.layout.specs.Fields.Item as Field
use Rattle.layout.specs.Refusals.{SEMANTIC, TABLE, TEXT}
use Rattle.layout.specs.Shared.Row
use Rattle.layout.specs.Shared.Types.{kind_of, is_known, is_long, good_scale, value_length, good_length, is_closed}
use Rattle.layout.specs.Sheet.{Item}
use Rattle.layout.specs.Walk.{Check, must, dated, checks, ◌>>◌, ends}
use Rattle.layout.specs.Writing.Tables.{table, Taker, taken}
use Rattle.layout.specs.Years.{since, type_128}

-- "TABLE: a number too large for its field"
abbrev pub fits_field : Field → ℕ → ℕ → Check
fits_field f v index = must (ltb v (256 ^ f.width)) TABLE index

pub record ItemRow : Type 0 where
  pub code : ℕ
  pub type : ℕ
  pub scale : ℕ
  pub size : ℕ

abbrev pub item_row_in : List ℕ → ItemRow
item_row_in ns =
    record { code = Row.nth ns Row.item_code; type = Row.nth ns Row.item_type; scale = Row.nth ns Row.item_scale; size = Row.nth ns Row.item_length }

-- "TABLE: [..] a value length not its type's, [..] a byte pool that ends early (the [..] value length)"
unfoldable pub item_rules : ItemRow → List ℕ → List Check
item_rules a pool =
    let k = kind_of a.type in
    fits_field Field.code a.code Row.item_code
    ∷ fits_field Field.type a.type Row.item_type
    ∷ must (is_known k) SEMANTIC Row.item_type
    ∷ dated (is_long k) (since type_128) Row.item_type
    ∷ fits_field Field.scale a.scale Row.item_scale
    ∷ must (good_scale k a.scale) SEMANTIC Row.item_scale
    ∷ fits_field Field.long_length a.size Row.item_length
    ∷ must (eqb a.size (value_length k a.scale a.size)) TABLE Row.item_length
    ∷ must (good_length k a.size) SEMANTIC Row.item_length
    ∷ must (leb a.size (length pool)) TABLE Row.item_length
    ∷ must (is_closed k (take a.size pool)) TEXT Row.item_length
    ∷ []

unfoldable pub take_item : Taker Item
take_item index t = do
  let a : ItemRow = item_row_in t.numbers
  checks index (item_rules a t.bytes)
  ends
      (taken
      (record { code = a.code; type = a.type; scale = a.scale; value = take a.size t.bytes })
      (table (drop Row.item_width t.numbers) t.elements (drop a.size t.bytes)))
