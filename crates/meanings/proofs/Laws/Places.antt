-- The corners that `layout` answers, by which of the eight is the first that is no number.
use Prim.Native.Nat.{ℕ, ◌+◌, ◌*◌}
use Rattle.layout.specs.Answers.Corners.{doubles, corners_from, corners_of}
use Rattle.layout.specs.declared.PlaneCorners.{PlaneCorners}
use Rattle.layout.specs.declared.Corners.TheVariants.{Doubles, Bits}
use Rattle.layout.specs.declared.Corners.{Corners}
use Rattle.meanings.specs.Places.{eight}
use Rattle.std.proofs.lemmas.Iterator.Adapters.{position_from-zero}
use Rattle.std.specs.List.{position, position_from}
use Rattle.std.specs.Prelude.{Option, Some, None}
use lib.Ieee.{binary64, nan_bits}
use mathlib.Core.Bool.{Bool, true, false, cond}
use mathlib.Core.List.{List, [], ◌∷◌}
use mathlib.Core.Path.{◌≡◌, refl, sym, ap, subst, ◌∙◌}
use native.Mathlib.Omega.{arith}

abbrev answer : PlaneCorners ℕ → Option ℕ → Corners
answer c (Some i) = Bits (104 + 8 * i) c
answer c None = Doubles (doubles c)

one : (test : Bool) (n : ℕ) (c : PlaneCorners ℕ) (m : Corners) (later : Option ℕ) → m ≡ answer c later
    → cond test (Bits (104 + 8 * n) c) m ≡ answer c (cond test (Some n) later)
one true n c m later e = refl
one false n c m later e = e

each : (n : ℕ) (bs : List ℕ) (c : PlaneCorners ℕ) → corners_from (104 + 8 * n) bs c ≡ answer c (position_from (nan_bits binary64) n bs)
each n [] c = refl
each n (b ∷ bs) c =
    let next : 104 + 8 * (n + 1) ≡ 104 + 8 * n + 8 = omega arith in
    one (nan_bits binary64 b) n c _ _ (subst (λ (p : ℕ). corners_from p bs c ≡ answer c (position_from (nan_bits binary64) (n + 1) bs)) next (each (n + 1) bs c))

by_first : (c : PlaneCorners ℕ) (found : Option ℕ) → found ≡ position (nan_bits binary64) (eight c) → answer c found ≡ corners_of c
unfolding corners_of
by_first c found e = ap (answer c) (e ∙ position_from-zero (nan_bits binary64) (eight c)) ∙ sym (each 0 (eight c) c)

pub at_first : (c : PlaneCorners ℕ) (i : ℕ) → Some i ≡ position (nan_bits binary64) (eight c) → Bits (104 + 8 * i) c ≡ corners_of c
at_first c i e = by_first c (Some i) e

pub as_doubles : (c : PlaneCorners ℕ) → None ≡ position (nan_bits binary64) (eight c) → Doubles (doubles c) ≡ corners_of c
as_doubles c e = by_first c None e
