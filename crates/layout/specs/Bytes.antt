-- Bytes, little-endian numbers at any width, fields, bits and sums.
-- "All numbers are little-endian. "Place" is a byte offset in the sheet, from 0." (01, What the base holds)
use Rattle.std.specs.Prelude.{ℕ, zero, suc, ◌+◌, ◌-◌, ◌*◌, ◌/◌, ◌%◌, ◌^◌, ◌<◌, Bool, true, false, not, ◌&&◌, List, [], ◌∷◌, ◌++◌, ◌≡◌, refl, eqb, take, drop}

abbrev pub All : {A : Type 0} → (A → Type 0) → List A → Type 0
All P [] = Unit {0}
All P (a ∷ l) = P a × All P l

-- the lists that f gives, one after another
abbrev pub flat : {A B : Type 0} → (A → List B) → List A → List B
flat f [] = []
flat f (a ∷ l) = f a ++ flat f l

-- there is at least one
abbrev pub some : {A : Type 0} → List A → Bool
some [] = false
some (a ∷ l) = true

-- a list of bytes
abbrev pub Bytes : List ℕ → Type 0
Bytes l = All (λ x. x < 256) l

-- the number of the first n bytes, lowest first; a byte past the end counts as 0
abbrev pub number : ℕ → List ℕ → ℕ
number zero xs = 0
number (suc n) [] = 0
number (suc n) (x ∷ xs) = x + 256 * number n xs

-- the n bytes of a number, lowest first
abbrev pub bytes : ℕ → ℕ → List ℕ
bytes zero v = []
bytes (suc n) v = v % 256 ∷ bytes n (v / 256)

-- A field: where it stands, counted from the start of its piece, and how many bytes it has.
pub record Field : Type 0 where
  pub place : ℕ
  pub width : ℕ

abbrev pub field : ℕ → ℕ → Field
field place width = record { place = place; width = width }

-- the first place after a field
abbrev pub after : Field → ℕ
after f = f.place + f.width

-- what stands in a field of xs: its number, its bytes
abbrev pub number_in : Field → List ℕ → ℕ
number_in f xs = number f.width (drop f.place xs)

abbrev pub bytes_in : Field → List ℕ → List ℕ
bytes_in f xs = take f.width (drop f.place xs)

-- a number as its field stores it
abbrev pub stored : Field → ℕ → List ℕ
stored f v = bytes f.width v

-- Numbers of the widths ws, one after another; and stored so.
abbrev pub numbers : List ℕ → List ℕ → List ℕ
numbers [] xs = []
numbers (w ∷ ws) xs = number w xs ∷ numbers ws (drop w xs)

abbrev pub stored_all : List ℕ → List ℕ → List ℕ
stored_all [] vs = []
stored_all (w ∷ ws) [] = []
stored_all (w ∷ ws) (v ∷ vs) = bytes w v ++ stored_all ws vs

-- as many numbers as widths, each narrow enough for its own
abbrev pub FitAll : List ℕ → List ℕ → Type 0
FitAll [] [] = Unit {0}
FitAll [] (v ∷ vs) = ⊥
FitAll (w ∷ ws) [] = ⊥
FitAll (w ∷ ws) (v ∷ vs) = (v < 256 ^ w) × FitAll ws vs

-- the widths ws, n times over
abbrev pub repeat : ℕ → List ℕ → List ℕ
repeat zero ws = []
repeat (suc n) ws = ws ++ repeat n ws

-- the numbers of a list, added up
abbrev pub total : List ℕ → ℕ
total [] = 0
total (x ∷ xs) = x + total xs

-- the low 32 bits of a number
abbrev pub low32 : ℕ → ℕ
low32 n = n % 2 ^ 32

-- every byte is zero
abbrev pub zeros : List ℕ → Bool
zeros [] = true
zeros (x ∷ xs) = eqb x 0 && zeros xs

-- the bits from the first to the last of a byte, both counted in, as a number (two clauses, since b / 1 is not computed away)
abbrev pub bits : ℕ → ℕ → ℕ → ℕ
bits zero last b = b % 2 ^ suc last
bits (suc k) last b = b / 2 ^ suc k % 2 ^ (suc last - suc k)

-- one bit is set
abbrev pub bit : ℕ → ℕ → Bool
bit k b = eqb (bits k k b) 1

-- two tests agree
abbrev pub agree : Bool → Bool → Bool
agree true b = b
agree false b = not b

cases : (number 4 (0x53 ∷ 0x58 ∷ 0x46 ∷ 0x00 ∷ 9 ∷ []) ≡ 0x00465853) × (number 2 (7 ∷ []) ≡ 7)
    × (bytes 3 0x012345 ≡ 0x45 ∷ 0x23 ∷ 0x01 ∷ []) × (number_in (field 1 2) (9 ∷ 1 ∷ 2 ∷ 3 ∷ []) ≡ 513)
    × (numbers (2 ∷ 1 ∷ []) (1 ∷ 2 ∷ 3 ∷ 4 ∷ []) ≡ 513 ∷ 3 ∷ []) × (stored_all (2 ∷ 1 ∷ []) (513 ∷ 3 ∷ []) ≡ 1 ∷ 2 ∷ 3 ∷ [])
    × (low32 4294967295 ≡ 4294967295) × (low32 4294967296 ≡ 0) × (low32 17112760320 ≡ 4227858432)
    × (bits 0 1 0b10110101 ≡ 0b01) × (bits 3 4 0b10110101 ≡ 0b10) × (bits 5 7 0b10110101 ≡ 0b101)
    × (bit 0 0b10110101 ≡ true) × (bit 6 0b10110101 ≡ false) × (bit 7 0b10110101 ≡ true)
cases = (refl, refl, refl, refl, refl, refl, refl, refl, refl, refl, refl, refl, refl, refl, refl)
