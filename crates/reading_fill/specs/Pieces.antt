-- Pieces read without a test: what walks that come to their end give. A piece has a reading and the count of bytes that it takes.
use Rattle.std.specs.Prelude.{List, [], ◌∷◌, ℕ, zero, suc, ◌+◌, length, drop}

-- n pieces, one after another, and their bytes together
unfoldable pub times_in : {A : Type 0} → (List ℕ → A) → (List ℕ → ℕ) → ℕ → List ℕ → List A
times_in one size zero xs = []
times_in one size (suc n) xs = one xs ∷ times_in one size n (drop (size xs) xs)

unfoldable pub times_size : (List ℕ → ℕ) → ℕ → List ℕ → ℕ
times_size size zero xs = 0
times_size size (suc n) xs = size xs + times_size size n (drop (size xs) xs)

-- pieces up to the end of the bytes; there are at most `most`, for each takes a byte at least
unfoldable pub filling_in : {A : Type 0} → (List ℕ → A) → (List ℕ → ℕ) → ℕ → List ℕ → List A
filling_in one size zero xs = []
filling_in one size (suc most) [] = []
filling_in one size (suc most) (x ∷ xs) = one (x ∷ xs) ∷ filling_in one size most (drop (size (x ∷ xs)) (x ∷ xs))

unfoldable pub filling_size : (List ℕ → ℕ) → ℕ → List ℕ → ℕ
filling_size size zero xs = 0
filling_size size (suc most) [] = 0
filling_size size (suc most) (x ∷ xs) = size (x ∷ xs) + filling_size size most (drop (size (x ∷ xs)) (x ∷ xs))

abbrev pub fill_in : {A : Type 0} → (List ℕ → A) → (List ℕ → ℕ) → List ℕ → List A
fill_in one size xs = filling_in one size (length xs) xs

abbrev pub fill_size : (List ℕ → ℕ) → List ℕ → ℕ
fill_size size xs = filling_size size (length xs) xs

-- a fact of each of n pieces, one after another
unfoldable pub Each : (List ℕ → Type 0) → (List ℕ → ℕ) → ℕ → List ℕ → Type 0
Each ok size zero xs = Unit {0}
Each ok size (suc n) xs = ok xs × Each ok size n (drop (size xs) xs)
