-- The value of a semantic item as a number. (01, Record: "1, 2, 4: that many bytes, a signed integer times ten to the signed scale,
-- scale byte 0x80 refused. 8: a double, scale carried.")
use Rattle.std.specs.Prelude.{ℕ, false, cond, List, [], ◌∷◌, ◌≡◌, refl, pos, negsuc, Result, Ok, Err}
use Rattle.std.specs.Float.{inf, fin, binary64}
use Rattle.std.specs.Float.Ieee.{nan_bits, of_bits}
use Rattle.layout.specs.Answers.Enums.{refusal}
use Rattle.layout.specs.Answers.Units.{signed}
use Rattle.layout.specs.Bytes.{number, bytes}
use Rattle.layout.specs.Fields.Item as Field
use Rattle.layout.specs.Refusals.{SEMANTIC, refusal_number}
use Rattle.layout.specs.Shared.Types.{Kind, narrow, wide, long, integer, double, unknown, kind_of, good_scale}
use Rattle.layout.specs.Sheet.{Item}
use Rattle.layout.specs.declared.Refusal.{Refusal}
use Rattle.layout.specs.declared.SemanticValue.{SemanticValue}
use Rattle.layout.specs.declared.SemanticValue.TheVariants.{Number, Double, NotNumber, Other}

-- a double of the stored bits, or, where these are no number, the bits
unfoldable pub double_of : ℕ → SemanticValue
double_of bits = cond (nan_bits binary64 bits) (NotNumber bits) (Double (of_bits binary64 bits))

-- Texts have no number. A refusal's place counts from the item's start: "SEMANTIC: unknown type (item +2), bad scale (+3)".
abbrev pub value_in : Kind → Item → Result SemanticValue Refusal
value_in narrow i = Ok (Other i.type)
value_in wide i = Ok (Other i.type)
value_in long i = Ok (Other i.type)
value_in (integer n) i =
    cond (good_scale (integer n) i.scale)
    (Ok (Number (record { whole = signed n (number n i.value); power = signed 1 i.scale })))
    (Err (refusal SEMANTIC (Field.scale).place 0))
value_in double i = Ok (double_of (number 8 i.value))
value_in unknown i = Err (refusal SEMANTIC (Field.type).place 0)

unfoldable pub semantic_value : Item → Result SemanticValue Refusal
semantic_value i = value_in (kind_of i.type) i

abbrev of : ℕ → ℕ → List ℕ → Result SemanticValue Refusal
of type scale value = semantic_value (record { code = 1; type = type; scale = scale; value = value })

-- 000, example 1: 127,3 metres; and the ends of the ranges
cases : (of 2 0xFF (0xF9 ∷ 0x04 ∷ []) ≡ Ok (Number (record { whole = pos 1273; power = negsuc 0 })))
    × (of 1 127 (0xFF ∷ []) ≡ Ok (Number (record { whole = negsuc 0; power = pos 127 })))
    × (of 4 0x81 (0 ∷ 0 ∷ 0 ∷ 0x80 ∷ []) ≡ Ok (Number (record { whole = negsuc 2147483647; power = negsuc 126 })))
    × (of 4 0x80 (0 ∷ 0 ∷ 0 ∷ 0 ∷ []) ≡ Err (refusal SEMANTIC 3 0)) × (of 0 1 (65 ∷ 0 ∷ []) ≡ Ok (Other 0))
    × (refusal_number SEMANTIC ≡ 12)
unfolding semantic_value
cases = (refl, refl, refl, refl, refl, refl)

-- An item by its type, its scale byte and its value as a number.
-- The value has eight bytes. An item of type 1, 2 or 4 has only so many of them, the lowest, so that every number has an answer. An item's
-- code says nothing of its value.
abbrev pub item_of : ℕ → ℕ → ℕ → Item
item_of type scale value = record { code = 0; type = type; scale = scale; value = bytes 8 value }

-- 000, example 1: 127,3 metres; the ends of the ranges; bits past the width; doubles; texts; and a type that there is not
item_cases : (semantic_value (item_of 2 0xFF 0x04F9) ≡ Ok (Number (record { whole = pos 1273; power = negsuc 0 })))
    × (semantic_value (item_of 1 127 0xFF) ≡ Ok (Number (record { whole = negsuc 0; power = pos 127 })))
    × (semantic_value (item_of 4 0x81 0x80000000) ≡ Ok (Number (record { whole = negsuc 2147483647; power = negsuc 126 })))
    × (semantic_value (item_of 4 0x80 0) ≡ Err (refusal SEMANTIC 3 0))
    × (semantic_value (item_of 1 0 0x1234) ≡ Ok (Number (record { whole = pos 0x34; power = pos 0 })))
    × (semantic_value (item_of 2 0 0x1FFFF) ≡ Ok (Number (record { whole = negsuc 0; power = pos 0 })))
    × (semantic_value (item_of 4 0 0x1FFFFFFFF) ≡ Ok (Number (record { whole = negsuc 0; power = pos 0 })))
    × (semantic_value (item_of 8 0x80 0x3FF0000000000000) ≡ Ok (Double (fin false 1 (pos 0))))
    × (semantic_value (item_of 8 0 0x7FF0000000000000) ≡ Ok (Double (inf false)))
    × (semantic_value (item_of 8 0 0x7FF0000000000001) ≡ Ok (NotNumber 0x7FF0000000000001))
    × (semantic_value (item_of 0 1 65) ≡ Ok (Other 0)) × (semantic_value (item_of 126 1 65) ≡ Ok (Other 126)) × (semantic_value (item_of 127 1 65) ≡ Ok (Other 127))
    × (semantic_value (item_of 128 255 65) ≡ Ok (Other 128))
    × (semantic_value (item_of 3 0x80 65) ≡ Err (refusal SEMANTIC 2 0))
    × (refusal_number SEMANTIC ≡ 12)
unfolding semantic_value double_of nan_bits of_bits
item_cases = (refl, refl, refl, refl, refl, refl, refl, refl, refl, refl, refl, refl, refl, refl, refl, refl)
