-- The unit of a sheet, that of its heights, and the number that an element stands for. (01, Passport)
use Rattle.std.specs.Prelude.{ℕ, ◌/◌, ◌^◌, Bool, cond, not, ◌||◌, List, ◌≡◌, refl, eqb, leb, ℤ, pos, negsuc, ◌-ℤ◌}
use Rattle.std.specs.Float.{binary32, binary64}
use Rattle.std.specs.Float.Ieee.{nan_bits, of_bits}
use Rattle.layout.specs.Bytes.{Field, number_in, bits}
use Rattle.layout.specs.Fields.Passport
use Rattle.layout.specs.Sheet.{Head}
use Rattle.layout.specs.declared.HeightUnit.{HeightUnit}
use Rattle.layout.specs.declared.HeightUnit.TheVariants as Height
use Rattle.layout.specs.declared.Number.{Number}
use Rattle.layout.specs.declared.Number.TheVariants as Is
use Rattle.layout.specs.declared.SheetUnit.{SheetUnit}
use Rattle.layout.specs.declared.SheetUnit.TheVariants.{DevicePoints, Metres, Radians, Degrees, Unknown}
use Rattle.layout.specs.declared.Stored.{Stored}
use Rattle.layout.specs.declared.Stored.TheVariants as As

-- a number of so many bytes, read as signed: from half of its range on it is below zero
abbrev pub is_negative : ℕ → ℕ → Bool
is_negative width n = leb (256 ^ width / 2) n

abbrev pub signed : ℕ → ℕ → ℤ
signed width n = cond (is_negative width n) (pos n -ℤ pos (256 ^ width)) (pos n)

-- "Unit of the sheet: real when bits 3-4 of +96 are 3, or +312 is negative, or +98 is not 0."
abbrev pub is_real : ℕ → ℕ → ℕ → Bool
is_real flags resolution accuracy = eqb (bits 3 4 flags) 3 || is_negative (Passport.resolution).width resolution || not (eqb accuracy 0)

-- "A real sheet is in metres, radians or degrees as +236 is 0, 64 or 65, and of unknown unit for other values. A sheet that isn't real
-- is in device points."
unfoldable pub unit_of : ℕ → ℕ → ℕ → ℕ → SheetUnit
unit_of flags resolution accuracy unit =
    cond (is_real flags resolution accuracy)
    (cond (eqb unit 0) Metres (cond (eqb unit 64) Radians (cond (eqb unit 65) Degrees (Unknown unit))))
    DevicePoints

-- a field of the 304 bytes from +96 on
abbrev pub in_rest : Field → List ℕ → ℕ
in_rest f rest = number_in (Passport.in_rest f) rest

-- the unit of a sheet, from these bytes
abbrev pub rest_unit : List ℕ → SheetUnit
rest_unit rest = unit_of (in_rest Passport.flags rest) (in_rest Passport.resolution rest) (in_rest Passport.accuracy rest) (in_rest Passport.unit rest)

abbrev pub sheet_unit : Head → SheetUnit
sheet_unit h = rest_unit h.rest

-- The unit of heights stands in a byte of its own, whatever the plane's is: "Единица измерения по высоте [..] 0 - метры" (000, table 1).
unfoldable pub height_unit_of : ℕ → HeightUnit
height_unit_of byte = cond (eqb byte 0) Height.Metres (Height.Unknown byte)

abbrev pub rest_height_unit : List ℕ → HeightUnit
rest_height_unit rest = height_unit_of (in_rest Passport.height_unit rest)

-- An integer of two bytes is 0 to 65535, one of four bytes is signed (000, 2.1.4: "в диапазоне от 0 до 65535 для двухбайтного элемента
-- метрики или в диапазоне от -2147483647 до 2147483647 для четырехбайтного"). 0x80000000, which 000 leaves out, is the least (DECISIONS 19).
unfoldable pub number_of : Stored → Number
number_of (As.Short b) = Is.Whole (pos b)
number_of (As.Long b) = Is.Whole (signed 4 b)
number_of (As.Single b) = cond (nan_bits binary32 b) (Is.NotNumber b) (Is.Single (of_bits binary32 b))
number_of (As.Double b) = cond (nan_bits binary64 b) (Is.NotNumber b) (Is.Double (of_bits binary64 b))

units : (unit_of 0x03 0 0 0 ≡ DevicePoints) × (unit_of 0x03 0 0 64 ≡ DevicePoints)
    × (unit_of 0x1B 0 0 0 ≡ Metres) × (unit_of 0x03 0xFFFFFFFF 0 64 ≡ Radians) × (unit_of 0x03 0 1 65 ≡ Degrees) × (unit_of 0x1B 0 0 7 ≡ Unknown 7)
    × (unit_of 0x03 0x7FFFFFFF 0 0 ≡ DevicePoints) × (unit_of 0x03 0x80000000 0 0 ≡ Metres)
unfolding unit_of
units = (refl, refl, refl, refl, refl, refl, refl, refl)

numbers : (number_of (As.Short 65535) ≡ Is.Whole (pos 65535)) × (number_of (As.Long 4294967295) ≡ Is.Whole (negsuc 0))
    × (number_of (As.Long 2147483647) ≡ Is.Whole (pos 2147483647))
    × (number_of (As.Single 0x7F800001) ≡ Is.NotNumber 0x7F800001) × (number_of (As.Single 0x7F800000) ≡ Is.Single (of_bits binary32 0x7F800000))
    × (number_of (As.Double 0xFFF8000000000000) ≡ Is.NotNumber 0xFFF8000000000000)
unfolding number_of nan_bits
numbers = (refl, refl, refl, refl, refl, refl)

heights : (height_unit_of 0 ≡ Height.Metres) × (height_unit_of 64 ≡ Height.Unknown 64) × (height_unit_of 255 ≡ Height.Unknown 255)
unfolding height_unit_of
heights = (refl, refl, refl)
