-- How many elements points have, and bytes at most. Points whose elements are all of one width are so many elements of that width: for
-- code that chooses a loop by the width.
use mathlib.Core.Bool.{Bool, true, false, cond}
use mathlib.Core.List.{[], ◌∷◌}
use mathlib.Core.Path.{◌≡◌, refl, sym, ap, subst, ◌∙◌}
use Prim.Native.Nat.{ℕ, zero, suc, ◌*◌, ◌^◌, ◌≤◌, ◌<◌}
use lib.ListN.{length}
use native.Mathlib.Nat.{zero-mul, mul-le-mul_left}
use native.Mathlib.Omega.{arith}
use Rattle.fields.specs.Shapes.{dimensions, loop_by, loop_of}
use Rattle.fields.specs.declared.shapes.Loop.{Loop}
use Rattle.fields.specs.declared.shapes.Loop.TheVariants as By
use Rattle.fields.specs.declared.shapes.Shape.{Shape}
use Rattle.layout.specs.Bytes.{repeat}
use Rattle.layout.specs.Shared.Widths.{element_widths}

-- how many elements a point has
pub widths-count : (size float three : Bool) → length (element_widths size float three) ≡ dimensions three
widths-count size float true = refl
widths-count size float false = refl

-- so many points of so many bytes
pub product_fits : (points k : ℕ) → points < 2 ^ 32 → k ≤ 24 → points * k < 103079215105
product_fits points k h l = omega (arith, mul-le-mul_left points l)

pub record OneWidth (p : ℕ) (size float three : Bool) : Type 0 where
  pub widths : element_widths size float three ≡ p ∷ p ∷ cond three (p ∷ []) []

-- what a loop serves: elements that are all of its width, or points of 2, 2 and 4 bytes
abbrev pub Served : Loop → Bool → Bool → Bool → Type 0
Served By.Two size float three = OneWidth 2 size float three
Served By.Four size float three = OneWidth 4 size float three
Served By.Eight size float three = OneWidth 8 size float three
Served By.Points size float three = (size ≡ false) × (float ≡ false) × (three ≡ true)

pub served : (size float three : Bool) (l : Loop) → loop_by size float three ≡ l → Served l size float three
served true true three l e = subst (λ k. Served k true true three) e (record { widths = refl })
served true false three l e = subst (λ k. Served k true false three) e (record { widths = refl })
served false true three l e = subst (λ k. Served k false true three) e (record { widths = refl })
served false false true l e = subst (λ k. Served k false false true) e (refl, refl, refl)
served false false false l e = subst (λ k. Served k false false false) e (record { widths = refl })

-- the loop that was chosen for a shape serves it
pub serves : (s : Shape) {l : Loop} (m : Loop) → l ≡ loop_of s → l ≡ m → Served m s.size s.float s.three
serves s m e f = served s.size s.float s.three m (sym e ∙ f)

repeat-one : (p : ℕ) (three : Bool) (count n : ℕ) → n ≡ count * dimensions three → repeat n (p ∷ []) ≡ repeat count (p ∷ p ∷ cond three (p ∷ []) [])
repeat-one p three zero n e = let z : n ≡ 0 = e ∙ zero-mul (dimensions three) in rw z refl
repeat-one p true (suc count) n e =
    let q : n ≡ suc (suc (suc (count * 3))) = omega arith in
    rw q (ap (λ l. p ∷ p ∷ p ∷ l) (repeat-one p true count (count * 3) refl))
repeat-one p false (suc count) n e =
    let q : n ≡ suc (suc (count * 2)) = omega arith in
    rw q (ap (λ l. p ∷ p ∷ l) (repeat-one p false count (count * 2) refl))

module _ {p : ℕ} {size float three : Bool} (one : OneWidth p size float three) (count n : ℕ) (e : n ≡ count * dimensions three) where
  pub widths-repeat : repeat n (p ∷ []) ≡ repeat count (element_widths size float three)
  widths-repeat = repeat-one p three count n e ∙ ap (repeat count) (sym one.widths)
