-- What is so of the value of an item, whatever its kind.
use mathlib.Core.Bool.{true, not, ◌||◌, ◌&&◌}
use mathlib.Core.Path.{◌≡◌, refl}
use Prim.Native.Nat.{ℕ, ◌%◌, ◌≤◌}
use borrow.Author.Tests.{leb-true}
use lib.Dec.{eqb, leb}
use native.Mathlib.Omega.{arith}
use Rattle.layout.specs.Shared.Types.{Kind, narrow, wide, long, integer, double, unknown, is_long, value_length, good_length, closing}
use Rattle.laws.proofs.Base.Lists.{both_true}

-- only a long value can have a bad length: for code that tests it without the kind
pub good-is : (k : Kind) (n : ℕ) → good_length k n ≡ (not (is_long k) || (eqb (n % 2) 0 && leb 2 n))
good-is narrow n = refl
good-is wide n = refl
good-is long n = refl
good-is (integer m) n = refl
good-is double n = refl
good-is unknown n = refl

-- a value of the right length has room for its closing zeros
pub closing_under : (k : Kind) (scale stated size : ℕ) → size ≡ value_length k scale stated → good_length k size ≡ true → closing k ≤ size
closing_under narrow scale stated size e h = omega arith
closing_under wide scale stated size e h = omega arith
closing_under long scale stated size e h = leb-true 2 size (both_true (eqb (size % 2) 0) (leb 2 size) h).1
closing_under (integer m) scale stated size e h = omega arith
closing_under double scale stated size e h = omega arith
closing_under unknown scale stated size e h = omega arith
