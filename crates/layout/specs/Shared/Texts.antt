-- Text fields. (01, Passport)
-- "A text field holds its text, then at least one zero [..]. Text has no zero in it. Digits are not checked." What stands after the first zero
-- is the field's tail: "the text-field reading now answers the text before the first zero and whether the rest was clean" (02, 6).
use Rattle.std.specs.Prelude.{ℕ, ◌+◌, ◌-◌, ◌<◌, Bool, true, false, not, ◌&&◌, cond, List, [], ◌∷◌, ◌++◌, ◌≡◌, refl, eqb, ltb, length, replicate}
use Rattle.layout.specs.Bytes.{All, Bytes, Field, field, bytes_in, zeros}
use Rattle.layout.specs.Refusals.{TEXT}
use Rattle.layout.specs.Walk.{Check, must}

-- the text of a field: what stands before its first zero
abbrev pub text_of : List ℕ → List ℕ
text_of [] = []
text_of (x ∷ xs) = cond (eqb x 0) [] (x ∷ text_of xs)

-- and its tail: what stands after that zero
abbrev pub tail_of : List ℕ → List ℕ
tail_of [] = []
tail_of (x ∷ xs) = cond (eqb x 0) xs (tail_of xs)

-- a tail is clean if it has only zeros
abbrev pub is_clean : List ℕ → Bool
is_clean tail = zeros tail

-- no zero is among these bytes: so it is with a text, and with a field that holds none
abbrev pub no_zero : List ℕ → Bool
no_zero [] = true
no_zero (x ∷ xs) = not (eqb x 0) && no_zero xs

-- the reader's check: "in reading, 6 for a text field is now only given when it has no zero at all" (02, 6); its place is the field's
abbrev pub is_text_field : List ℕ → Bool
is_text_field xs = not (no_zero xs)

abbrev pub text_field : Field → List ℕ → Check
text_field f s = must (is_text_field (bytes_in f s)) TEXT f.place

-- the writer's check: "TEXT for a text too long or with a zero" (01, The record table)
abbrev pub is_text : Field → List ℕ → Bool
is_text f t = ltb (length t) f.width && no_zero t

abbrev pub text_fits : Field → List ℕ → Check
text_fits f t = must (is_text f t) TEXT f.place

-- what a field holds: a text, a zero and a tail
abbrev pub tailed : List ℕ → List ℕ → List ℕ
tailed text tail = text ++ 0 ∷ tail

-- a text that a field can hold
pub record FineText (f : Field) (t : List ℕ) : Type 0 where
  pub short : length t < f.width
  pub nonzero : All (λ x. eqb x 0 ≡ false) t
  pub is_bytes : Bytes t

-- a tail that goes with a text: any bytes, up to the field's end
pub record FineTail (f : Field) (t tail : List ℕ) : Type 0 where
  pub filled : length t + 1 + length tail ≡ f.width
  pub is_bytes : Bytes tail

-- the clean tail that goes with a text, which the writer makes: "and zeros to its end" (01)
abbrev pub clean_tail : Field → List ℕ → List ℕ
clean_tail f t = replicate (f.width - (length t + 1)) 0

-- a text as the writer stores it
abbrev pub padded : Field → List ℕ → List ℕ
padded f t = tailed t (clean_tail f t)

cases : (text_of (65 ∷ 66 ∷ 0 ∷ 0 ∷ []) ≡ 65 ∷ 66 ∷ []) × (text_of (0 ∷ 0 ∷ []) ≡ [])
    × (is_text_field (65 ∷ 66 ∷ 0 ∷ 0 ∷ []) ≡ true) × (is_text_field (0 ∷ 0 ∷ []) ≡ true)
    -- no zero at all; a letter after the first zero
    × (is_text_field (65 ∷ 66 ∷ []) ≡ false) × (is_text_field (65 ∷ 0 ∷ 66 ∷ 0 ∷ []) ≡ true) × (is_text_field (0 ∷ 66 ∷ []) ≡ true)
    × (tail_of (65 ∷ 0 ∷ 66 ∷ 0 ∷ []) ≡ 66 ∷ 0 ∷ []) × (tail_of (65 ∷ 66 ∷ 0 ∷ []) ≡ []) × (tail_of (0 ∷ 0 ∷ 66 ∷ []) ≡ 0 ∷ 66 ∷ [])
    × (is_clean (66 ∷ 0 ∷ []) ≡ false) × (is_clean (0 ∷ 66 ∷ []) ≡ false) × (is_clean (0 ∷ 0 ∷ []) ≡ true) × (is_clean [] ≡ true)
    × (padded (field 0 4) (65 ∷ 66 ∷ []) ≡ 65 ∷ 66 ∷ 0 ∷ 0 ∷ []) × (padded (field 0 3) (65 ∷ 66 ∷ []) ≡ 65 ∷ 66 ∷ 0 ∷ [])
cases = (refl, refl, refl, refl, refl, refl, refl, refl, refl, refl, refl, refl, refl, refl, refl, refl)
