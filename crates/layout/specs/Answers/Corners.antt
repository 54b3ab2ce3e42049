-- The eight plane corners. (01, Passport: "The eight plane corners are answered together as doubles, each with its stored bits.")
use Rattle.std.specs.Prelude.{ℕ, ◌+◌, ◌*◌, cond, List, [], ◌∷◌, Float}
use Rattle.std.specs.Float.{binary64}
use Rattle.std.specs.Float.Ieee.{nan_bits, of_bits}
use Rattle.layout.specs.Bytes.{field, number_in}
use Rattle.layout.specs.Fields.Passport
use Rattle.layout.specs.Sheet.{Head}
use Rattle.layout.specs.declared.Corners.{Corners}
use Rattle.layout.specs.declared.Corners.TheVariants.{Doubles, Bits}
use Rattle.layout.specs.declared.PlaneCorners.{PlaneCorners}

-- the stored bits of the n-th of eight doubles, from 0, in the rest of a passport
abbrev pub corner_at : ℕ → List ℕ → ℕ
corner_at n rest = number_in (Passport.in_rest (field ((Passport.corners).place + 8 * n) 8)) rest

-- X and Y of the south-west, north-west, north-east and south-east corner (000, table 1)
abbrev pub corner_bits : List ℕ → PlaneCorners ℕ
corner_bits rest =
    record {
      sw_x = corner_at 0 rest;
      sw_y = corner_at 1 rest;
      nw_x = corner_at 2 rest;
      nw_y = corner_at 3 rest;
      ne_x = corner_at 4 rest;
      ne_y = corner_at 5 rest;
      se_x = corner_at 6 rest;
      se_y = corner_at 7 rest;
    }

abbrev double : ℕ → Float
double b = of_bits binary64 b

abbrev pub doubles : PlaneCorners ℕ → PlaneCorners Float
doubles c =
    record {
      sw_x = double c.sw_x;
      sw_y = double c.sw_y;
      nw_x = double c.nw_x;
      nw_y = double c.nw_y;
      ne_x = double c.ne_x;
      ne_y = double c.ne_y;
      se_x = double c.se_x;
      se_y = double c.se_y;
    }

-- each a double of the stored bits; or, where one is no number, the place of the first that is none, and all eight as stored.
-- place is that of the first of bs
abbrev pub corners_from : ℕ → List ℕ → PlaneCorners ℕ → Corners
corners_from place [] c = Doubles (doubles c)
corners_from place (b ∷ bs) c = cond (nan_bits binary64 b) (Bits place c) (corners_from (place + 8) bs c)

unfoldable pub corners_of : PlaneCorners ℕ → Corners
corners_of c =
    corners_from (Passport.corners).place
    (c.sw_x ∷ c.sw_y ∷ c.nw_x ∷ c.nw_y ∷ c.ne_x ∷ c.ne_y ∷ c.se_x ∷ c.se_y ∷ [])
    c

abbrev pub plane_corners : Head → Corners
plane_corners h = corners_of (corner_bits h.rest)
