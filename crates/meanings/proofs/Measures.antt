-- A coordinate is in the unit of its sheet: which type it is of is told by the passport's bytes, so that one of a sheet in device points can
-- come out as nothing else, and a height is never a coordinate of the plane. (01, Passport: "A coordinate in device points never stands for
-- one in metres.")
use Prim.Native.Nat.{ℕ}
use Rattle.layout.specs.Answers.Coordinates.{measured_by, element_of, measure_of}
use Rattle.layout.specs.Answers.Units.{rest_unit, rest_height_unit, number_of}
use Rattle.layout.specs.declared.Dimension.TheVariants.{North, East, Height}
use Rattle.layout.specs.declared.Dimension.{Dimension}
use Rattle.layout.specs.declared.HeightUnit.{HeightUnit}
use Rattle.layout.specs.declared.Number.{Number}
use Rattle.layout.specs.declared.SheetUnit.TheVariants as Unit
use Rattle.layout.specs.declared.Stored.{Stored}
use Rattle.meanings.specs.Coordinates.{coordinate_of, number_as, coordinate_in}
use Rattle.meanings.specs.declared.coordinates.Coordinate.TheVariants as In
use Rattle.meanings.specs.declared.coordinates.Coordinate.{Coordinate}
use Rattle.meanings.specs.declared.coordinates.PointNumber.TheVariants as Of
use Rattle.meanings.specs.declared.coordinates.Quantity.{Quantity}
use mathlib.Core.List.{List}
use mathlib.Core.Path.{◌≡◌, refl, ap, ◌∙◌}
use Rattle.std.proofs.Common.{rules}
use Rattle.layout.specs.declared.Refusal.{Refusal}
use Rattle.std.specs.Prelude.{Result, Ok, Err}

by_element : (rest : List ℕ) (d : Dimension) (a : Result Stored Refusal) (c : Coordinate) → coordinate_in (measured_by rest d a) ≡ Ok (Of.Plane c)
    → (¬ (d ≡ Height)) × ((e : Stored) × (a ≡ Ok e) × (c ≡ coordinate_of (rest_unit rest) (number_of e)))
unfolding coordinate_in number_as
by_element rest North (Ok e) c h = (λ k. search rules, (e, refl, cc))
by_element rest East (Ok e) c h = (λ k. search rules, (e, refl, cc))
by_element rest Height (Ok e) c h = search rules
by_element rest d (Err r) c h = search rules

-- A coordinate of the plane is answered where no height was asked for, and is that of the element in the unit of the passport's bytes.
pub in_unit : (rest : List ℕ) (reference : ℕ) (d : Dimension) (bits : ℕ) (c : Coordinate)
    → coordinate_in (measure_of rest reference d bits) ≡ Ok (Of.Plane c)
    → (¬ (d ≡ Height)) × ((e : Stored) × (element_of reference d bits ≡ Ok e) × (c ≡ coordinate_of (rest_unit rest) (number_of e)))
unfolding measure_of
in_unit rest reference d bits c h = by_element rest d (element_of reference d bits) c h

-- So in a sheet in device points it is in device points.
pub device_points : (rest : List ℕ) (reference : ℕ) (d : Dimension) (bits : ℕ) (c : Coordinate) → rest_unit rest ≡ Unit.DevicePoints
    → coordinate_in (measure_of rest reference d bits) ≡ Ok (Of.Plane c) → (n : Number) × (c ≡ In.DevicePoints (record { unit = record {}; number = n }))
unfolding coordinate_of
device_points rest reference d bits c unit h =
    let a = (in_unit rest reference d bits c h).1 in
    (number_of a.0, a.2 ∙ ap (λ u. coordinate_of u (number_of a.0)) unit)

high-element : (rest : List ℕ) (d : Dimension) (a : Result Stored Refusal) (x : Quantity HeightUnit) → coordinate_in (measured_by rest d a) ≡ Ok (Of.Height x)
    → (d ≡ Height) × ((e : Stored) × (a ≡ Ok e) × (x ≡ record { unit = rest_height_unit rest; number = number_of e }))
unfolding coordinate_in number_as
high-element rest North (Ok e) x h = search rules
high-element rest East (Ok e) x h = search rules
high-element rest Height (Ok e) x h = (refl, (e, refl, cc))
high-element rest d (Err r) x h = search rules

-- A height is answered only where one was asked for, in the unit that the passport has for heights.
pub height_in_unit : (rest : List ℕ) (reference : ℕ) (d : Dimension) (bits : ℕ) (x : Quantity HeightUnit)
    → coordinate_in (measure_of rest reference d bits) ≡ Ok (Of.Height x)
    → (d ≡ Height) × ((e : Stored) × (element_of reference d bits ≡ Ok e) × (x ≡ record { unit = rest_height_unit rest; number = number_of e }))
unfolding measure_of
height_in_unit rest reference d bits x h = high-element rest d (element_of reference d bits) x h
