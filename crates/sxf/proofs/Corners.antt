-- The corners that a sheet answers: doubles are numbers, so that their bits are defined; and the bits are those stored, whether all eight
-- are numbers or not. (01, Passport: "answered together as doubles, each with its stored bits")
use Rattle.std.proofs.Common.{◌≡◌, ℕ, ◌^◌, ◌<◌, List, drop, refl, ap, ◌∙◌}
use Rattle.layout.specs.Answers.Calls.{reading}
use Rattle.layout.specs.Answers.Corners.{corners_of, corner_bits}
use Rattle.layout.specs.Answers.Enums.{corners_in}
use Rattle.layout.specs.Bytes.{Bytes, number}
use Rattle.layout.specs.Sheet.{Sheet}
use Rattle.layout.specs.Walk.{Answer, given, refused}
use Rattle.layout.specs.declared.PlaneCorners.{PlaneCorners}
use Rattle.laws.proofs.Base.Lists.{all_drop}
use Rattle.laws.proofs.Base.Numbers.{number_lt}
use Rattle.laws.proofs.Called.{reading-sound}
use Rattle.layout.specs.Answers.Structs.{corners_row, bits_row}
use Rattle.layout.specs.declared.Corners.{Corners}
use Rattle.std.specs.Prelude.{Ok}
use Rattle.sxf.proofs.Laws.Numbers.{is_number, of_given, of_refused}
use Rattle.sxf.specs.Doubles.{Defined}
use Rattle.meanings.proofs.Same.{Words, by_eight, all_back}
use Rattle.meanings.specs.Places.{first_none}
use lib.Ieee.{binary64}

bits_defined : (c : PlaneCorners ℕ) → Defined (corners_of c)
unfolding Defined
bits_defined c =
    by_eight (λ m n. Defined m) c (λ place. tt) λ r.
    record {
      sw_x = is_number binary64 c.sw_x r.0;
      sw_y = is_number binary64 c.sw_y r.1.0;
      nw_x = is_number binary64 c.nw_x r.1.1.0;
      nw_y = is_number binary64 c.nw_y r.1.1.1.0;
      ne_x = is_number binary64 c.ne_x r.1.1.1.1.0;
      ne_y = is_number binary64 c.ne_y r.1.1.1.1.1.0;
      se_x = is_number binary64 c.se_x r.1.1.1.1.1.1.0;
      se_y = is_number binary64 c.se_y r.1.1.1.1.1.1.1.0;
    }

pub sheet_defined : (a : Answer Sheet) (x : Corners) → corners_in a ≡ Ok x → Defined x
unfolding corners_in
sheet_defined (given t) x e = of_given Defined (corners_of (corner_bits t.head.rest)) x (bits_defined (corner_bits t.head.rest)) e
sheet_defined (refused n p y) x e = of_refused Defined _ x e

bits-row : (c : PlaneCorners ℕ) → Words c → corners_row (Ok (corners_of c)) ≡ bits_row (first_none c) c
unfolding corners_row
bits-row c w = by_eight (λ m n. corners_row (Ok m) ≡ bits_row n c) c (λ place. refl) (λ r. ap (bits_row 0) (all_back c w r))

word : (k : ℕ) (rest : List ℕ) → Bytes rest → number 8 (drop k rest) < 2 ^ 64
word k rest b = number_lt 8 (drop k rest) (all_drop _ k rest b)

words : (rest : List ℕ) → Bytes rest → Words (corner_bits rest)
words rest b =
    record {
      sw_x = word 8 rest b;
      sw_y = word 16 rest b;
      nw_x = word 24 rest b;
      nw_y = word 32 rest b;
      ne_x = word 40 rest b;
      ne_y = word 48 rest b;
      se_x = word 56 rest b;
      se_y = word 64 rest b;
    }

-- of every sheet that is read at a year
pub corners-stored : (y : ℕ) (s : List ℕ) → Bytes s → (t : Sheet) → reading y s ≡ given t
    → corners_row (corners_in (reading y s)) ≡ bits_row (first_none (corner_bits t.head.rest)) (corner_bits t.head.rest)
unfolding corners_in
corners-stored y s b t e =
    ap (λ a. corners_row (corners_in a)) e ∙ bits-row (corner_bits t.head.rest) (words t.head.rest (reading-sound y s t b e).fine.head.rest.1)
