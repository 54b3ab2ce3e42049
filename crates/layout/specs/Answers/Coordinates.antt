-- The element that stored bits are, by its record's reference bytes; and with it the unit that it is in, by its sheet's passport.
-- (01, Passport and Record)
use Rattle.std.specs.Prelude.{ℕ, ◌*◌, ◌^◌, Bool, true, false, cond, List, ◌≡◌, refl, eqb, ltb, replicate, set}
use Rattle.layout.specs.Answers.Enums.{refusal}
use Rattle.layout.specs.Answers.Units.{rest_unit, rest_height_unit, unit_of, height_unit_of}
use Rattle.layout.specs.Fields.Passport
use Rattle.layout.specs.Refusals.{TABLE, ASK, refusal_number}
use Rattle.layout.specs.Shared.Reference.{element_size, floating, three_dimensions}
use Rattle.layout.specs.Shared.Row.{reference_of}
use Rattle.layout.specs.Shared.Row
use Rattle.layout.specs.Shared.Widths.{planar, height}
use Rattle.layout.specs.Sheet.{Reference}
use Rattle.layout.specs.declared.Dimension.{Dimension}
use Rattle.layout.specs.declared.Dimension.TheVariants.{North, East, Height}
use Rattle.layout.specs.declared.HeightUnit.TheVariants as High
use Rattle.layout.specs.declared.Measured.{Measured}
use Rattle.layout.specs.declared.Measured.TheVariants as In
use Rattle.layout.specs.declared.SheetUnit.TheVariants as Unit
use Rattle.layout.specs.declared.Stored.{Stored}
use Rattle.layout.specs.declared.Stored.TheVariants as As
use Rattle.layout.specs.declared.Refusal.{Refusal}
use Rattle.std.specs.Prelude.{Result, Ok, Err}

-- A planar element is an integer or a floating number as the floating bit says; a height is always a floating number (000, table 3, note 6).
abbrev pub planar_stored : Bool → Bool → ℕ → Stored
planar_stored false false bits = As.Short bits
planar_stored false true bits = As.Single bits
planar_stored true false bits = As.Long bits
planar_stored true true bits = As.Double bits

abbrev pub height_stored : ℕ → ℕ → Stored
height_stored width bits = cond (eqb width 8) (As.Double bits) (As.Single bits)

-- the element where its width holds the bits; "TABLE: [..] an element too wide" (01, The record table): no table is lent, so the place is 0
abbrev pub fitting : ℕ → ℕ → Stored → Result Stored Refusal
fitting width bits e = cond (ltb bits (256 ^ width)) (Ok e) (Err (refusal TABLE 0 0))

-- by the size bit and the floating bit
abbrev pub planar_element : Bool → Bool → ℕ → Result Stored Refusal
planar_element size float bits = fitting (planar size float) bits (planar_stored size float bits)

abbrev pub height_element : Bool → Bool → ℕ → Result Stored Refusal
height_element size float bits = fitting (height (planar size float)) bits (height_stored (height (planar size float)) bits)

-- "Первой записывается координата X (отсчитывается от нижнего левого угла вверх), затем координата Y (отсчитывается слева направо). Если
-- объект имеет трехмерное представление, далее идет координата H" (000, 2.1.4). A height of a record that has none is ASK.
abbrev pub element_in : Reference → Dimension → ℕ → Result Stored Refusal
element_in r North bits = planar_element (element_size r) (floating r) bits
element_in r East bits = planar_element (element_size r) (floating r) bits
element_in r Height bits = cond (three_dimensions r) (height_element (element_size r) (floating r) bits) (Err (refusal ASK 0 0))

-- by the reference bytes as one number; "TABLE: a number too large for its field", at its index in the record's row
unfoldable pub element_of : ℕ → Dimension → ℕ → Result Stored Refusal
element_of reference d bits =
    cond (ltb reference (256 ^ 3)) (element_in (reference_of reference) d bits) (Err (refusal TABLE Row.reference 0))

-- An element in the unit of its sheet, which is told by the 304 bytes from +96 on. "A coordinate in device points never stands for one in
-- metres." (01, Passport)
abbrev pub measured : List ℕ → Dimension → Stored → Measured
measured rest North e = In.Plane (rest_unit rest) e
measured rest East e = In.Plane (rest_unit rest) e
measured rest Height e = In.Height (rest_height_unit rest) e

abbrev pub measured_by : List ℕ → Dimension → Result Stored Refusal → Result Measured Refusal
measured_by rest d (Ok e) = Ok (measured rest d e)
measured_by rest d (Err r) = Err r

unfoldable pub measure_of : List ℕ → ℕ → Dimension → ℕ → Result Measured Refusal
measure_of rest reference d bits = measured_by rest d (element_of reference d bits)

-- by bytes 21 and 22
abbrev of : ℕ → ℕ → Reference
of b21 b22 = record { byte20 = 0; byte21 = b21; byte22 = b22 }

elements : (element_in (of 0 0) North 7 ≡ Ok (As.Short 7)) × (element_in (of 0 4) East 7 ≡ Ok (As.Single 7))
    × (element_in (of 4 0) North 7 ≡ Ok (As.Long 7)) × (element_in (of 4 4) East 7 ≡ Ok (As.Double 7))
    × (element_in (of 0 2) Height 7 ≡ Ok (As.Single 7)) × (element_in (of 4 2) Height 7 ≡ Ok (As.Single 7))
    × (element_in (of 0 6) Height 7 ≡ Ok (As.Single 7)) × (element_in (of 4 6) Height 7 ≡ Ok (As.Double 7))
    × (element_in (of 4 4) Height 7 ≡ Err (refusal ASK 0 0))
    -- the ends of each width
    × (element_in (of 0 0) East 65535 ≡ Ok (As.Short 65535)) × (element_in (of 0 0) East 65536 ≡ Err (refusal TABLE 0 0))
    × (element_in (of 4 0) East 4294967296 ≡ Err (refusal TABLE 0 0)) × (element_in (of 0 2) Height 4294967296 ≡ Err (refusal TABLE 0 0))
    × (element_in (of 4 6) Height 18446744073709551615 ≡ Ok (As.Double 18446744073709551615))
    × (refusal_number ASK ≡ 16) × (refusal_number TABLE ≡ 14)
elements = (refl, refl, refl, refl, refl, refl, refl, refl, refl, refl, refl, refl, refl, refl, refl, refl)

-- passports' bytes from +96 on: none is set, or the plane is in metres by +96 and heights are of unknown unit by +237
abbrev still : List ℕ
still = replicate (Passport.rest).width 0

abbrev real : List ℕ
real = set (set still 0 0x1B) (Passport.in_rest Passport.height_unit).place 9

-- the reference number of floating points in three dimensions
abbrev floats : ℕ
floats = 6 * 65536

cases : (measure_of still 2 North 3 ≡ Ok (In.Plane Unit.DevicePoints (As.Short 3))) × (measure_of real 2 East 3 ≡ Ok (In.Plane Unit.Metres (As.Short 3)))
    × (measure_of still floats Height 3 ≡ Ok (In.Height High.Metres (As.Single 3))) × (measure_of real floats Height 3 ≡ Ok (In.Height (High.Unknown 9) (As.Single 3)))
    × (measure_of real 2 Height 3 ≡ Err (refusal ASK 0 0)) × (measure_of real 16777216 North 3 ≡ Err (refusal TABLE 3 0))
    × (refusal_number ASK ≡ 16) × (refusal_number TABLE ≡ 14)
unfolding measure_of element_of unit_of height_unit_of
cases = (refl, refl, refl, refl, refl, refl, refl, refl)
