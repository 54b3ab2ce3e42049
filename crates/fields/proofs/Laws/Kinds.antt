-- The kind of an item for code that asks only whether its value is long: what stands before the value, and which length it has.
use mathlib.Core.Bool.{true, false}
use mathlib.Core.List.{List}
use mathlib.Core.Path.{◌≡◌, refl, sym, ap, ap₂, ◌∙◌}
use Prim.Native.Nat.{ℕ, ◌+◌}
use lib.ListN.{drop}
use lib.Seq.{drop-drop}
use native.Mathlib.Omega.{arith}
use Rattle.layout.specs.Bytes.{number}
use Rattle.layout.specs.Reading.Items.{kind_in, value_size}
use Rattle.layout.specs.Shared.Types.{Kind, narrow, wide, long, integer, double, unknown, kind_of, is_long, length_bytes, value_length}

never : false ≡ true → ⊥
never e = let z : ◌≡◌ {A = ℕ} 0 1 = cc in omega arith

pub long-is : (k : Kind) → is_long k ≡ true → k ≡ long
long-is narrow e = absurd (never e)
long-is wide e = absurd (never e)
long-is long e = refl
long-is (integer n) e = absurd (never e)
long-is double e = absurd (never e)
long-is unknown e = absurd (never e)

-- no length stands before any other, so that none is asked for
pub short-is : (k : Kind) → is_long k ≡ false → (length_bytes k ≡ 0) × ((scale n : ℕ) → value_length k scale 0 ≡ value_length k scale n)
short-is narrow e = (refl, λ scale n. refl)
short-is wide e = (refl, λ scale n. refl)
short-is long e = let z : ◌≡◌ {A = ℕ} 0 1 = cc in absurd (omega arith)
short-is (integer m) e = (refl, λ scale n. refl)
short-is double e = (refl, λ scale n. refl)
short-is unknown e = (refl, λ scale n. refl)

-- the item at a place of a sheet, by its type and scale as the code reads them
module _ (xs : List ℕ) (at : ℕ) where
  pub kind-there : (t : ℕ) → t ≡ number 1 (drop (at + 2) xs) → kind_of t ≡ kind_in (drop at xs)
  kind-there t e = ap kind_of (e ∙ ap (number 1) (sym (drop-drop 2 at xs)))

  module _ (k : Kind) (e : k ≡ kind_in (drop at xs)) where
    pub size-long : is_long k ≡ true → (n : ℕ) → n ≡ number 4 (drop (at + 4) xs) → n ≡ value_size (drop at xs)
    size-long l n h =
        let there = drop at xs in
        let stated = number 4 (drop 4 there) in
        h ∙ ap (number 4) (sym (drop-drop 4 at xs)) ∙ ap (λ k. value_length k (number 1 (drop 3 there)) stated) (sym (long-is k l) ∙ e)

    pub size-short : is_long k ≡ false → (scale n : ℕ) → scale ≡ number 1 (drop (at + 3) xs) → n ≡ value_length k scale 0 → n ≡ value_size (drop at xs)
    size-short l scale n s h =
        let there = drop at xs in
        let stated = number 4 (drop 4 there) in
        h ∙ (short-is k l).1 scale stated ∙ ap₂ (λ k s. value_length k s stated) e (s ∙ ap (number 1) (sym (drop-drop 3 at xs)))
