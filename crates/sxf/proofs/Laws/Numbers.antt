-- The floats of an element and of an item's value are numbers, so that their bits are defined.
use Rattle.std.proofs.Common.{◌≡◌, ℕ, zero, suc, ◌+◌, ◌*◌, ◌^◌, Bool, true, false, cond, not, ◌&&◌, T, ltb, ℤ, pos, negsuc, sym, refl, ◌∙◌, subst}
use Rattle.layout.specs.Answers.Units.{number_of}
use Rattle.layout.specs.Answers.Values.{double_of, value_in, semantic_value}
use Rattle.layout.specs.Shared.Types.{Kind, narrow, wide, long, integer, double, unknown, kind_of, good_scale}
use Rattle.layout.specs.Sheet.{Item}
use Rattle.layout.specs.declared.Decimal.{Decimal}
use Rattle.layout.specs.declared.Number.TheVariants as Is
use Rattle.layout.specs.declared.Refusal.{Refusal}
use Rattle.layout.specs.declared.SemanticValue.TheVariants as Value
use Rattle.layout.specs.declared.SemanticValue.{SemanticValue}
use Rattle.layout.specs.Bytes.{number}
use Rattle.std.specs.Prelude.{Result, Ok, Err}
use native.Mathlib.Omega.{arith}
use Rattle.layout.specs.declared.Stored.TheVariants as As
use Rattle.layout.specs.declared.Stored.{Stored}
use Rattle.sxf.specs.Doubles.{IsNumber, DefinedNumber, DefinedValue}
use lib.Ieee.Bits.{nan_bits_is}
use lib.Ieee.Fits.{and_i, fits_widens}
use lib.Ieee.{Float, Format, binary32, binary64, prec, emax, low, inf, fits, is_nan, nan_bits, of_bits, odd, units, round, of_int}

-- what is made of bits that are no NaN's
pub is_number : (f : Format) (b : ℕ) → nan_bits f b ≡ false → IsNumber (of_bits f b)
is_number f b r = subst (λ (z : Bool). T (not z)) (sym r ∙ nan_bits_is f b) tt

-- what an integer is rounded to
odd_number : (d : ℕ) (s : Bool) (q k l : ℕ) → IsNumber (odd d s q k l)
unfolding odd is_nan
odd_number d s zero k l = tt
odd_number d s (suc q) k l = tt

or_infinity : (b s : Bool) (x : Float) → IsNumber x → IsNumber (cond b x (inf s))
unfolding is_nan
or_infinity true s x h = h
or_infinity false s x h = tt

units_number : (f : Format) (s : Bool) (q k : ℕ) → IsNumber (units f s q k)
unfolding units
units_number f s q k =
    or_infinity (ltb (q * 2 ^ k) (2 ^ (low f + suc (emax f)))) s (odd (suc (prec f)) s q k (low f)) (odd_number (suc (prec f)) s q k (low f))

round_number : (f : Format) (s : Bool) (num den : ℕ) → IsNumber (round f s num den)
unfolding round
round_number f s num den = units_number f s _ _

pub whole-number : (z : ℤ) → IsNumber (of_int binary64 z)
unfolding of_int
whole-number (pos n) = round_number binary64 false n 1
whole-number (negsuc n) = round_number binary64 true (suc n) 1

-- a single that is a number is a double that is one
pub widened : (x : Float) → T (fits binary32 x) → IsNumber x → T (fits binary64 x && not (is_nan x))
widened x h k = and_i (fits binary64 x) (not (is_nan x)) (fits_widens x h) k

-- by the test that an element or a value of bits is put to
single_tested : (t : Bool) (b : ℕ) → nan_bits binary32 b ≡ t → DefinedNumber (cond t (Is.NotNumber b) (Is.Single (of_bits binary32 b)))
unfolding DefinedNumber
single_tested true b e = tt
single_tested false b e = is_number binary32 b e

double_tested : (t : Bool) (b : ℕ) → nan_bits binary64 b ≡ t → DefinedNumber (cond t (Is.NotNumber b) (Is.Double (of_bits binary64 b)))
unfolding DefinedNumber
double_tested true b e = tt
double_tested false b e = is_number binary64 b e

pub element_defined : (e : Stored) → DefinedNumber (number_of e)
unfolding number_of DefinedNumber
element_defined (As.Short b) = tt
element_defined (As.Long b) = tt
element_defined (As.Single b) = single_tested (nan_bits binary32 b) b refl
element_defined (As.Double b) = double_tested (nan_bits binary64 b) b refl

value_tested : (t : Bool) (b : ℕ) → nan_bits binary64 b ≡ t → DefinedValue (cond t (Value.NotNumber b) (Value.Double (of_bits binary64 b)))
unfolding DefinedValue
value_tested true b e = tt
value_tested false b e = is_number binary64 b e

-- what holds of what is given holds of what the answer has
pub of_given : {A : Type 0} (P : A → Type 0) (a x : A) → P a → ◌≡◌ {A = Result A Refusal} (Ok a) (Ok x) → P x
of_given P a x h e = let z : a ≡ x = cc in subst P z h

pub of_refused : {A : Type 0} (P : A → Type 0) (r : Refusal) (x : A) → ◌≡◌ {A = Result A Refusal} (Err r) (Ok x) → P x
of_refused P r x e = let z : ◌≡◌ {A = ℕ} 0 1 = cc in absurd (omega arith)

scale_tested : (t : Bool) (d : Decimal) (r : Refusal) (x : SemanticValue) → cond t (Ok (Value.Number d)) (Err r) ≡ Ok x → DefinedValue x
unfolding DefinedValue
scale_tested true d r x e = of_given DefinedValue (Value.Number d) x tt e
scale_tested false d r x e = of_refused DefinedValue r x e

by_kind : (k : Kind) (i : Item) (x : SemanticValue) → value_in k i ≡ Ok x → DefinedValue x
unfolding DefinedValue double_of
by_kind narrow i x e = of_given DefinedValue (Value.Other i.type) x tt e
by_kind wide i x e = of_given DefinedValue (Value.Other i.type) x tt e
by_kind long i x e = of_given DefinedValue (Value.Other i.type) x tt e
by_kind (integer n) i x e = scale_tested (good_scale (integer n) i.scale) _ _ x e
by_kind double i x e = of_given DefinedValue (double_of (number 8 i.value)) x (value_tested (nan_bits binary64 (number 8 i.value)) _ refl) e
by_kind unknown i x e = of_refused DefinedValue _ x e

pub value_defined : (i : Item) (x : SemanticValue) → semantic_value i ≡ Ok x → DefinedValue x
unfolding semantic_value
value_defined i = by_kind (kind_of i.type) i
