-- The bits that C has of an element and of an item's value: those of a double are the stored ones (`element-stored`, `value-stored`), and the double
-- that an element stands for is exact, an integer's and a single's too (`exact_double`).
use Rattle.std.proofs.Common.{◌≡◌, ℕ, zero, suc, ◌^◌, ◌<◌, Bool, true, false, cond, ltb, ℤ, pos, negsuc, ◌-ℤ◌, refl, ap, ◌∙◌, arith, le→leb, lt→ltb}
use Rattle.layout.specs.Answers.Structs.{number_bits, value_row}
use Rattle.layout.specs.Answers.Units.{is_negative, number_of}
use Rattle.layout.specs.Answers.Values.{double_of}
use Rattle.layout.specs.declared.Number.TheVariants as Is
use Rattle.layout.specs.declared.Number.{Number}
use Rattle.layout.specs.declared.SemanticValue.TheVariants as Value
use Rattle.layout.specs.declared.Stored.TheVariants as As
use Rattle.layout.specs.declared.Stored.{Stored}
use Rattle.meanings.proofs.Same.{has_bits}
use lib.Ieee.Back.{positive_back, negative_back}
use lib.Ieee.Bits.{of_bits-to_bits, of_bits-fits}
use lib.Ieee.Fits.{of_int-fits, fits_widens}
use lib.Ieee.{Float, binary32, binary64, nan_bits, of_bits, to_bits, of_int, in_float, to_signed}
use lib.Signed.{mag}
use Rattle.std.specs.Prelude.{Ok}

-- the bits of an element of eight bytes, a NaN's too
double-bits : (t : Bool) (b : ℕ) → nan_bits binary64 b ≡ t → b < 2 ^ 64 → number_bits (cond t (Is.NotNumber b) (Is.Double (of_bits binary64 b))) ≡ b
double-bits true b e h = refl
double-bits false b e h = has_bits b h e

pub element-stored : (b : ℕ) → b < 2 ^ 64 → number_bits (number_of (As.Double b)) ≡ b
unfolding number_of
element-stored b h = double-bits (nan_bits binary64 b) b refl h

value-bits : (t : Bool) (b : ℕ) → nan_bits binary64 b ≡ t → b < 2 ^ 64 → (value_row (Ok (cond t (Value.NotNumber b) (Value.Double (of_bits binary64 b))))).bits ≡ b
unfolding value_row
value-bits true b e h = refl
value-bits false b e h = has_bits b h e

pub value-stored : (b : ℕ) → b < 2 ^ 64 → (value_row (Ok (double_of b))).bits ≡ b
unfolding double_of
value-stored b h = value-bits (nan_bits binary64 b) b refl h

-- a double x is the number n: the same integer, or the same float
abbrev pub Stands : Number → Float → Type 0
Stands (Is.Whole z) x = to_signed 63 x ≡ z
Stands (Is.Single y) x = x ≡ y
Stands (Is.Double y) x = x ≡ y
Stands (Is.NotNumber b) x = Unit {0}

-- an integer of at most 53 bits
whole : (z : ℤ) → mag z < 2 ^ 53 → to_signed 63 (of_bits binary64 (to_bits binary64 (of_int binary64 z))) ≡ z
unfolding in_float
whole (pos n) h =
    ap (to_signed 63) (of_bits-to_bits binary64 (of_int binary64 (pos n)) (of_int-fits binary64 (pos n)))
    ∙ (positive_back binary64 63 n (le→leb n (2 ^ 53) (omega (arith, h))) (omega (arith, h))).1
whole (negsuc k) h =
    ap (to_signed 63) (of_bits-to_bits binary64 (of_int binary64 (negsuc k)) (of_int-fits binary64 (negsuc k)))
    ∙ (negative_back binary64 63 k (lt→ltb k (2 ^ 53) h) (omega (arith, h))).1

either : (b : Bool) (x y : ℤ) → mag x < 2 ^ 53 → mag y < 2 ^ 53 → mag (cond b x y) < 2 ^ 53
either true x y h k = h
either false x y h k = k

less : (a b : ℕ) → a < 4294967296 → b < 4294967297 → mag (pos a -ℤ pos b) < 2 ^ 53
less a zero h k = omega arith
less a (suc b) h k = either (ltb a (suc b)) _ _ (omega arith) (omega arith)

single_exact : (t : Bool) (b : ℕ)
    → (n : Number) → n ≡ cond t (Is.NotNumber b) (Is.Single (of_bits binary32 b)) → Stands n (of_bits binary64 (number_bits n))
single_exact true b n e = rw e tt
single_exact false b n e = rw e (of_bits-to_bits binary64 (of_bits binary32 b) (fits_widens (of_bits binary32 b) (of_bits-fits binary32 b)))

double_exact : (t : Bool) (b : ℕ)
    → (n : Number) → n ≡ cond t (Is.NotNumber b) (Is.Double (of_bits binary64 b)) → Stands n (of_bits binary64 (number_bits n))
double_exact true b n e = rw e tt
double_exact false b n e = rw e (of_bits-to_bits binary64 (of_bits binary64 b) (of_bits-fits binary64 b))

-- the bits of an element are no wider than it is
abbrev pub Within : Stored → Type 0
Within (As.Short b) = b < 65536
Within (As.Long b) = b < 4294967296
Within (As.Single b) = b < 4294967296
Within (As.Double b) = b < 18446744073709551616

-- The double of the bits that an element has in C is the element's number.
pub exact_double : (e : Stored) → Within e → Stands (number_of e) (of_bits binary64 (number_bits (number_of e)))
unfolding number_of
exact_double (As.Short b) h = whole (pos b) (omega (arith, h))
exact_double (As.Long b) h = whole _ (either (is_negative 4 b) _ _ (less b 4294967296 h (omega arith)) (omega (arith, h)))
exact_double (As.Single b) h = single_exact (nan_bits binary32 b) b _ refl
exact_double (As.Double b) h = double_exact (nan_bits binary64 b) b _ refl
