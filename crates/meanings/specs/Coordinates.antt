-- A coordinate: the number of an element, in the sheet's unit; and a height, in its own. (01, Passport)
use Rattle.layout.specs.Answers.Units.{number_of}
use Rattle.layout.specs.declared.Measured.{Measured}
use Rattle.layout.specs.declared.Measured.TheVariants as Measure
use Rattle.layout.specs.declared.Number.{Number}
use Rattle.layout.specs.declared.Number.TheVariants as Is
use Rattle.layout.specs.declared.SheetUnit.{SheetUnit}
use Rattle.layout.specs.declared.SheetUnit.TheVariants as Unit
use Rattle.layout.specs.declared.Stored.TheVariants as As
use Rattle.meanings.specs.declared.coordinates.Coordinate.{Coordinate}
use Rattle.meanings.specs.declared.coordinates.Coordinate.TheVariants as In
use Rattle.layout.specs.declared.Refusal.{Refusal}
use Rattle.meanings.specs.declared.coordinates.PointNumber.{PointNumber}
use Rattle.meanings.specs.declared.coordinates.PointNumber.TheVariants as Of
use Rattle.std.specs.Prelude.{pos, negsuc, ◌≡◌, refl, Result, Ok, Err}

-- the case of each unit, of the number that an element stands for
unfoldable pub coordinate_of : SheetUnit → Number → Coordinate
coordinate_of Unit.DevicePoints n = In.DevicePoints (record { unit = record {}; number = n })
coordinate_of Unit.Metres n = In.Metres (record { unit = record {}; number = n })
coordinate_of Unit.Radians n = In.Radians (record { unit = record {}; number = n })
coordinate_of Unit.Degrees n = In.Degrees (record { unit = record {}; number = n })
coordinate_of (Unit.Unknown b) n = In.Unknown (record { unit = record { byte = b }; number = n })

-- a coordinate of the plane or a height
unfoldable pub number_as : Measured → PointNumber
number_as (Measure.Plane unit e) = Of.Plane (coordinate_of unit (number_of e))
number_as (Measure.Height unit e) = Of.Height (record { unit = unit; number = number_of e })

unfoldable pub coordinate_in : Result Measured Refusal → Result PointNumber Refusal
coordinate_in (Ok m) = Ok (number_as m)
coordinate_in (Err r) = Err r

cases : (coordinate_of Unit.DevicePoints (number_of (As.Short 65535)) ≡ In.DevicePoints (record { unit = record {}; number = Is.Whole (pos 65535) }))
    × (coordinate_of Unit.Metres (number_of (As.Long 0xFFFFFFFF)) ≡ In.Metres (record { unit = record {}; number = Is.Whole (negsuc 0) }))
    × (coordinate_of Unit.Radians (number_of (As.Short 1)) ≡ In.Radians (record { unit = record {}; number = Is.Whole (pos 1) }))
    × (coordinate_of Unit.Degrees (number_of (As.Short 1)) ≡ In.Degrees (record { unit = record {}; number = Is.Whole (pos 1) }))
    × (coordinate_of (Unit.Unknown 7) (number_of (As.Short 1)) ≡ In.Unknown (record { unit = record { byte = 7 }; number = Is.Whole (pos 1) }))
unfolding coordinate_of number_of
cases = (refl, refl, refl, refl, refl)
