-- A signed result, as the machine hands it on.
use lib.IntN.{ℤ}
use lib.Signed.{mag}
use Prim.Native.Nat.{◌^◌, ◌<◌}
use mathlib.Core.Path.{◌≡◌, ◌∙◌}
use mir.Facts.{to_z-of_z}
use mir.Syntax.{w64}
use mir.Val.{to_z, of_z}

pub whole : {a x : ℤ} → mag a < 2 ^ 63 → a ≡ x → to_z w64 (of_z w64 a) ≡ x
whole h e = to_z-of_z {w = w64} (record { sfits = h }) ∙ e
