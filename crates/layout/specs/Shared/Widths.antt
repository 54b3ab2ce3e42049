-- How many bytes each element of a point has, and the point. (01, Record; 02, request 4)
use Rattle.std.specs.Prelude.{ℕ, ◌+◌, ◌*◌, Bool, true, false, cond, List, [], ◌∷◌, ◌≡◌, refl, eqb}
use Rattle.std.proofs.Common.{arith}
use Rattle.layout.specs.Bytes.{total}
use Rattle.layout.specs.Shared.Reference.{element_size, floating, three_dimensions}
use Rattle.layout.specs.Sheet.{Reference}

-- by the size bit and the floating bit: "A planar element is 2 bytes (integer) or 4 (floating) with size bit 0, and 4 or 8 with
-- size bit 1."
abbrev pub planar : Bool → Bool → ℕ
planar false false = 2
planar false true = 4
planar true false = 4
planar true true = 8

-- "A height is 8 bytes where planar elements are 8, else 4."
abbrev pub height : ℕ → ℕ
height planarWidth = cond (eqb planarWidth 8) 8 4

-- by the size bit, the floating bit and the bit of three dimensions: a point is X, Y and, in three dimensions, a height
abbrev pub element_widths : Bool → Bool → Bool → List ℕ
element_widths size float three = planar size float ∷ planar size float ∷ cond three (height (planar size float) ∷ []) []

-- 02, request 4: a point's size is worked out "as twice the planar element plus the height, which is nothing in two dimensions."
abbrev pub point_bytes : Bool → Bool → Bool → ℕ
point_bytes size float three = 2 * planar size float + cond three (height (planar size float)) 0

-- of a record's reference bytes
abbrev pub widths : Reference → List ℕ
widths r = element_widths (element_size r) (floating r) (three_dimensions r)

abbrev pub point_size : Reference → ℕ
point_size r = point_bytes (element_size r) (floating r) (three_dimensions r)

-- a point's size is the sum of its elements' widths
pub point_is_elements : (size float three : Bool) → point_bytes size float three ≡ total (element_widths size float three)
point_is_elements size float true = omega arith
point_is_elements size float false = omega arith

abbrev of : ℕ → ℕ → Reference
of b21 b22 = record { byte20 = 0; byte21 = b21; byte22 = b22 }

cases : (widths (of 0 0) ≡ 2 ∷ 2 ∷ []) × (widths (of 0 4) ≡ 4 ∷ 4 ∷ []) × (widths (of 4 0) ≡ 4 ∷ 4 ∷ []) × (widths (of 4 4) ≡ 8 ∷ 8 ∷ [])
    × (widths (of 0 2) ≡ 2 ∷ 2 ∷ 4 ∷ []) × (widths (of 0 6) ≡ 4 ∷ 4 ∷ 4 ∷ []) × (widths (of 4 2) ≡ 4 ∷ 4 ∷ 4 ∷ []) × (widths (of 4 6) ≡ 8 ∷ 8 ∷ 8 ∷ [])
cases = (refl, refl, refl, refl, refl, refl, refl, refl)

-- "So a point has 4, 8, 8 or 16 bytes in two dimensions and 8, 12, 12 or 24 in three."
sizes : (point_size (of 0 0) ≡ 4) × (point_size (of 0 4) ≡ 8) × (point_size (of 4 0) ≡ 8) × (point_size (of 4 4) ≡ 16)
    × (point_size (of 0 2) ≡ 8) × (point_size (of 0 6) ≡ 12) × (point_size (of 4 2) ≡ 12) × (point_size (of 4 6) ≡ 24)
sizes = (refl, refl, refl, refl, refl, refl, refl, refl)
