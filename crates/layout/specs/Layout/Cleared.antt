-- A sheet with its tails cleared. (02, 6: "its bytes with those tails cleared and the sum to match")
use Rattle.std.specs.Prelude.{ℕ, cond, List, [], ◌∷◌, ◌++◌, ◌≡◌, refl, eqb, length, take, drop, replicate}
use Rattle.layout.specs.Bytes.{Field, field, after, bytes_in, stored}
use Rattle.layout.specs.Fields.Descriptor
use Rattle.layout.specs.Fields.Passport
use Rattle.layout.specs.Reading.Sheets.{sum_of}

-- the bytes of s with others in a field
abbrev pub put_in : Field → List ℕ → List ℕ → List ℕ
put_in f bs s = take f.place s ++ (bs ++ drop (after f) s)

-- zeros after the first zero; where there is none there is no tail
abbrev pub clear_tail : List ℕ → List ℕ
clear_tail [] = []
clear_tail (x ∷ xs) = cond (eqb x 0) (x ∷ replicate (length xs) 0) (x ∷ clear_tail xs)

abbrev pub cleared_in : Field → List ℕ → List ℕ
cleared_in f s = put_in f (clear_tail (bytes_in f s)) s

-- the sum put right
abbrev pub summed : List ℕ → List ℕ
summed s = put_in Passport.sum (stored Passport.sum (sum_of s)) s

-- the four text fields cleared, then the sum put right
unfoldable pub cleared : List ℕ → List ℕ
cleared s =
    summed (cleared_in Descriptor.designation (cleared_in Passport.title (cleared_in Passport.designation (cleared_in Passport.date s))))

cases : (cleared_in (field 1 4) (9 ∷ 65 ∷ 0 ∷ 66 ∷ 67 ∷ 8 ∷ []) ≡ 9 ∷ 65 ∷ 0 ∷ 0 ∷ 0 ∷ 8 ∷ [])
    × (cleared_in (field 1 4) (9 ∷ 65 ∷ 66 ∷ 67 ∷ 0 ∷ 8 ∷ []) ≡ 9 ∷ 65 ∷ 66 ∷ 67 ∷ 0 ∷ 8 ∷ [])
    × (cleared_in (field 1 2) (9 ∷ 65 ∷ 66 ∷ 8 ∷ []) ≡ 9 ∷ 65 ∷ 66 ∷ 8 ∷ [])
cases = (refl, refl, refl)
