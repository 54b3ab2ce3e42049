-- Which types are integers, and which one is a double.
use Prim.Native.Nat.{ℕ, ◌≤◌}
use Rattle.layout.specs.Shared.Types.{integer, double, kind_of}
use Rattle.std.proofs.Common.{rules}
use mathlib.Core.Path.{◌≡◌}

pub width : (type n : ℕ) → kind_of type ≡ integer n → type ≡ n
width type n h = search rules

pub integer-width : (type n : ℕ) → kind_of type ≡ integer n → n ≤ 4
integer-width type n h = search rules

pub double-width : (type : ℕ) → kind_of type ≡ double → type ≡ 8
double-width type h = search rules
