-- What `corners_of` promises: each double has the bits stored, and where one is a NaN the bits are answered as they are. (01, Passport:
-- "answered together as doubles, each with its stored bits")
use Prim.Native.Nat.{ℕ, ◌+◌, ◌^◌, ◌<◌}
use Rattle.layout.specs.Answers.Corners.{doubles, corners_from, corners_of}
use Rattle.layout.specs.Answers.Structs.{bits_of}
use Rattle.layout.specs.Bytes.{All}
use Rattle.layout.specs.Fields.Passport
use Rattle.layout.specs.declared.PlaneCorners.{PlaneCorners}
use Rattle.layout.specs.declared.Corners.TheVariants.{Doubles, Bits}
use Rattle.layout.specs.declared.Corners.{Corners}
use Rattle.meanings.specs.Places.{eight, place_or, first_from, first_none}
use lib.Dec.{T}
use lib.Ieee.{inf, fin, binary64, nan_bits, of_bits, to_bits}
use lib.Ieee.Bits.{to_bits-of_bits, nan_bits_is}
use lib.IntN.{pos, negsuc}
use mathlib.Core.Bool.{Bool, true, false, not, cond}
use mathlib.Core.List.{List, [], ◌∷◌}
use mathlib.Core.Path.{◌≡◌, refl, sym, subst, ◌∙◌}

-- a number's double has its bits
pub has_bits : (n : ℕ) → n < 2 ^ 64 → nan_bits binary64 n ≡ false → to_bits binary64 (of_bits binary64 n) ≡ n
has_bits n h e = to_bits-of_bits binary64 n h (subst (λ (b : Bool). T (not b)) (sym e ∙ nan_bits_is binary64 n) tt)

-- infinities, zeros of both signs and subnormals are numbers
kinds : (of_bits binary64 0x7FF0000000000000 ≡ inf false) × (of_bits binary64 0xFFF0000000000000 ≡ inf true)
    × (of_bits binary64 0 ≡ fin false 0 (pos 0)) × (of_bits binary64 0x8000000000000000 ≡ fin true 0 (pos 0))
    × (of_bits binary64 1 ≡ fin false 1 (negsuc 1073)) × (nan_bits binary64 0x7FF0000000000001 ≡ true)
    × (nan_bits binary64 0x7FF0000000000000 ≡ false) × (to_bits binary64 (fin true 0 (pos 0)) ≡ 0x8000000000000000)
unfolding of_bits nan_bits to_bits
kinds = (refl, refl, refl, refl, refl, refl, refl, refl)

-- the eight are of 64 bits, as the code has them
pub record Words (b : PlaneCorners ℕ) : Type 0 where
  pub sw_x : b.sw_x < 2 ^ 64
  pub sw_y : b.sw_y < 2 ^ 64
  pub nw_x : b.nw_x < 2 ^ 64
  pub nw_y : b.nw_y < 2 ^ 64
  pub ne_x : b.ne_x < 2 ^ 64
  pub ne_y : b.ne_y < 2 ^ 64
  pub se_x : b.se_x < 2 ^ 64
  pub se_y : b.se_y < 2 ^ 64

abbrev Real : ℕ → Type 0
Real b = nan_bits binary64 b ≡ false

-- What holds of eight as stored, with the place of the first that is a NaN, and of eight doubles if all are numbers, holds of the answer.
module _ (P : Corners → ℕ → Type 0) (c : PlaneCorners ℕ) (stored : (place : ℕ) → P (Bits place c) place) where
  past : (test : Bool) (b place later : ℕ) (m : Corners) → nan_bits binary64 b ≡ test → (Real b → P m later)
      → P (cond test (Bits place c) m) (cond test place later)
  past true b place later m t k = stored place
  past false b place later m t k = k t

  by_list : (place : ℕ) (bs : List ℕ) → (All Real bs → P (Doubles (doubles c)) 0) → P (corners_from place bs c) (first_from place bs)
  unfolding place_or
  by_list place [] k = k tt
  by_list place (b ∷ bs) k =
      past (nan_bits binary64 b) b place (first_from (place + 8) bs) (corners_from (place + 8) bs c) refl (λ r. by_list (place + 8) bs (λ h. k (r, h)))

  pub by_eight : (All Real (eight c) → P (Doubles (doubles c)) 0) → P (corners_of c) (first_none c)
  unfolding corners_of first_none
  by_eight k = by_list (Passport.corners).place (eight c) k

-- eight numbers, as doubles and back
pub all_back : (c : PlaneCorners ℕ) → Words c → All Real (eight c) → bits_of (doubles c) ≡ c
all_back c w r =
    rw (
      has_bits c.sw_x w.sw_x r.0,
      has_bits c.sw_y w.sw_y r.1.0,
      has_bits c.nw_x w.nw_x r.1.1.0,
      has_bits c.nw_y w.nw_y r.1.1.1.0,
      has_bits c.ne_x w.ne_x r.1.1.1.1.0,
      has_bits c.ne_y w.ne_y r.1.1.1.1.1.0,
      has_bits c.se_x w.se_x r.1.1.1.1.1.1.0,
      has_bits c.se_y w.se_y r.1.1.1.1.1.1.1.0,
    )
    refl

-- An answer keeps the bits c: its doubles have them, field by field; or it has them as they are, with the place of the first that is a NaN.
abbrev pub Keeps : PlaneCorners ℕ → Corners → ℕ → Type 0
Keeps c (Doubles d) none = bits_of d ≡ c
Keeps c (Bits place b) none = (b ≡ c) × (place ≡ none)

pub corners-same : (c : PlaneCorners ℕ) → Words c → Keeps c (corners_of c) (first_none c)
corners-same c w = by_eight (Keeps c) c (λ place. (refl, refl)) (all_back c w)
