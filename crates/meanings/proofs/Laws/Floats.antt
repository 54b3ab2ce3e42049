-- A NaN's pattern by one comparison, in both formats: it lies above an infinity's, without the sign.
use Prim.Native.Nat.{ℕ, ◌*◌, ◌%◌, ◌<◌, ◌≤◌}
use borrow.Author.Tests.{lt-ltb, le-ltb}
use lib.Ieee.{Format, nan_bits, ones, hid, top}
use lib.Ieee.Bits.{nan_bits_above}
use mathlib.Core.Bool.{true, false}
use mathlib.Core.Path.{◌≡◌, ◌∙◌}

module _ (f : Format) (b : ℕ) where
  pub is_nan : ones f * hid f < b % top f → nan_bits f b ≡ true
  is_nan h = nan_bits_above f b ∙ lt-ltb _ _ h

  pub no_nan : b % top f ≤ ones f * hid f → nan_bits f b ≡ false
  no_nan h = nan_bits_above f b ∙ le-ltb _ _ h
