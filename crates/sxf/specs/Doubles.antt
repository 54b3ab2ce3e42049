-- Floats that are numbers: the bits of a NaN are undefined.
use Rattle.std.specs.Prelude.{not, T, is_nan, Float}
use Rattle.layout.specs.declared.Corners.{Corners}
use Rattle.layout.specs.declared.Corners.TheVariants as Corner
use Rattle.layout.specs.declared.Number.{Number}
use Rattle.layout.specs.declared.Number.TheVariants as Is
use Rattle.layout.specs.declared.PlaneCorners.{PlaneCorners}
use Rattle.layout.specs.declared.SemanticValue.{SemanticValue}
use Rattle.layout.specs.declared.SemanticValue.TheVariants as Value

abbrev pub IsNumber : Float → Type 0
IsNumber x = T (not (is_nan x))

-- all eight are
pub record Numbers (d : PlaneCorners Float) : Type 0 where
  pub sw_x : IsNumber d.sw_x
  pub sw_y : IsNumber d.sw_y
  pub nw_x : IsNumber d.nw_x
  pub nw_y : IsNumber d.nw_y
  pub ne_x : IsNumber d.ne_x
  pub ne_y : IsNumber d.ne_y
  pub se_x : IsNumber d.se_x
  pub se_y : IsNumber d.se_y

-- the float of a number, if it has one
unfoldable pub DefinedNumber : Number → Type 0
DefinedNumber (Is.Whole z) = Unit {0}
DefinedNumber (Is.Single x) = IsNumber x
DefinedNumber (Is.Double x) = IsNumber x
DefinedNumber (Is.NotNumber b) = Unit {0}

-- the double of an item's value
unfoldable pub DefinedValue : SemanticValue → Type 0
DefinedValue (Value.Number d) = Unit {0}
DefinedValue (Value.Double x) = IsNumber x
DefinedValue (Value.NotNumber b) = Unit {0}
DefinedValue (Value.Other t) = Unit {0}

-- the doubles of an answer, if it has them
unfoldable pub Defined : Corners → Type 0
Defined (Corner.Doubles d) = Numbers d
Defined (Corner.Bits place b) = Unit {0}
