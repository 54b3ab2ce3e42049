-- What a generalisation byte says of visibility. (01, Record; tables 4 and 5 of 000)
--   "Visibility byte: lower bound is the low four bits, upper is 15 minus the high four. 0xFF means unset and has no bounds. Tables 4
--   and 5 of 000 give sixteen denominators each."
use Rattle.std.specs.Prelude.{ℕ, ◌-◌, cond, List, [], ◌∷◌, ◌≡◌, refl, eqb, length, get_or, Option, Some, None}
use Rattle.layout.specs.Bytes.{number_in, bits, bit}
use Rattle.layout.specs.Fields.Passport
use Rattle.layout.specs.Sheet.{Head}
use Rattle.layout.specs.declared.Scales.{Scales}

-- "Карты масштаба мельче 1 : 10 000" (000, table 4): level 0 stands for 500 and less, level 15 for 40 million and more
abbrev pub table4 : List ℕ
table4 =
    500 ∷ 1000 ∷ 2000 ∷ 5000 ∷ 10000 ∷ 25000 ∷ 50000 ∷ 100000 ∷ 200000 ∷ 500000 ∷ 1000000 ∷ 2000000 ∷ 5000000 ∷ 10000000 ∷ 20000000 ∷ 40000000 ∷ []

-- "Карты масштаба 1 : 10 000 и крупнее" (000, table 5): level 0 stands for 5 and less, level 15 for 500 thousand and more
abbrev pub table5 : List ℕ
table5 =
    5 ∷ 10 ∷ 25 ∷ 50 ∷ 100 ∷ 200 ∷ 500 ∷ 1000 ∷ 2000 ∷ 5000 ∷ 10000 ∷ 25000 ∷ 50000 ∷ 100000 ∷ 200000 ∷ 500000 ∷ []

-- +96: "bit 7 picks the generalisation table": 0 table 4, 1 table 5 (000, table 1, note 4)
abbrev pub table_of : ℕ → List ℕ
table_of flags = cond (bit 7 flags) table5 table4

abbrev pub scales : ℕ → ℕ → Scales
scales lower upper = record { lower = lower; upper = upper }

-- none where none is set
unfoldable pub visibility_of : ℕ → ℕ → Option Scales
visibility_of flags b =
    let denominator : ℕ → ℕ = λ level. get_or (table_of flags) level 0 in
    cond (eqb b 0xFF) None (Some (scales (denominator (bits 0 3 b)) (denominator (15 - bits 4 7 b))))

-- of a sheet's head and a record's generalisation byte
abbrev pub visibility : Head → ℕ → Option Scales
visibility h b = visibility_of (number_in (Passport.in_rest Passport.flags) h.rest) b

cases : (length table4 ≡ 16) × (length table5 ≡ 16)
    × (visibility_of 0x03 0x24 ≡ Some (scales 10000 10000000)) × (visibility_of 0x83 0x24 ≡ Some (scales 100 100000))
    × (visibility_of 0x03 0xFF ≡ None) × (visibility_of 0x83 0xFF ≡ None)
    × (visibility_of 0x03 0x00 ≡ Some (scales 500 40000000)) × (visibility_of 0x83 0x00 ≡ Some (scales 5 500000))
    × (visibility_of 0x03 0xF0 ≡ Some (scales 500 500)) × (visibility_of 0x83 0x0F ≡ Some (scales 500000 500000))
unfolding visibility_of
cases = (refl, refl, refl, refl, refl, refl, refl, refl, refl, refl)
