-- The first plane corner that is no number.
use Rattle.std.specs.Prelude.{ℕ, ◌+◌, cond, List, [], ◌∷◌}
use Rattle.layout.specs.Fields.Passport
use Rattle.layout.specs.declared.PlaneCorners.{PlaneCorners}
use Rattle.std.specs.Float.{binary64}
use Rattle.std.specs.Float.Ieee.{nan_bits}

-- the eight in the order in which they stand
abbrev pub eight : PlaneCorners ℕ → List ℕ
eight c = c.sw_x ∷ c.sw_y ∷ c.nw_x ∷ c.nw_y ∷ c.ne_x ∷ c.ne_y ∷ c.se_x ∷ c.se_y ∷ []

unfoldable pub place_or : ℕ → ℕ → ℕ → ℕ
place_or b place later = cond (nan_bits binary64 b) place later

-- the place of the first of bs that is no number, where place is that of the first of bs; 0 if all are numbers
abbrev pub first_from : ℕ → List ℕ → ℕ
first_from place [] = 0
first_from place (b ∷ bs) = place_or b place (first_from (place + 8) bs)

unfoldable pub first_none : PlaneCorners ℕ → ℕ
first_none c = first_from (Passport.corners).place (eight c)
