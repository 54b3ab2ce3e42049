-- Numbers that stand in a part of a list.
use mathlib.Core.List.{List, [], ◌∷◌}
use mathlib.Core.Path.{◌≡◌, refl, ap, sym, ◌∙◌}
use Prim.Native.Nat.{ℕ, zero, suc, ◌+◌, ◌-◌, ◌*◌, ◌≤◌}
use lib.ListN.{take, drop}
use native.Mathlib.Omega.{arith}
use Rattle.layout.specs.Bytes.{Field, field, after, number, number_in, bytes_in}
use Rattle.laws.proofs.Base.Lists.{drop-take}

number-take : (w n : ℕ) (xs : List ℕ) → w ≤ n → number w (take n xs) ≡ number w xs
number-take zero n xs h = refl
number-take (suc w) zero xs h = absurd (omega arith)
number-take (suc w) (suc n) [] h = refl
number-take (suc w) (suc n) (x ∷ xs) h = ap (λ k. x + 256 * k) (number-take w n xs (omega arith))

-- a field of a part that has it whole
pub field-take : (f : Field) (n : ℕ) (xs : List ℕ) → after f ≤ n → number_in f (take n xs) ≡ number_in f xs
field-take f n xs h =
    let b : ℕ = n - f.place in
    let is : n ≡ f.place + b = omega arith in
    ap (λ k. number_in f (take k xs)) is
    ∙ ap (λ l. number f.width l) (drop-take f.place b xs)
    ∙ number-take f.width b (drop f.place xs) (omega arith)

-- two lists that agree on their first n
pub field-same : (f : Field) (n : ℕ) (xs ys : List ℕ) → after f ≤ n → take n xs ≡ take n ys → number_in f xs ≡ number_in f ys
field-same f n xs ys h e = sym (field-take f n xs h) ∙ ap (number_in f) e ∙ field-take f n ys h

-- and two that agree on the bytes of a field
pub bytes_same : (f : Field) (xs ys : List ℕ) → bytes_in f xs ≡ bytes_in f ys → number_in f xs ≡ number_in f ys
bytes_same f xs ys e = field-same (field 0 f.width) f.width (drop f.place xs) (drop f.place ys) (omega arith) e
