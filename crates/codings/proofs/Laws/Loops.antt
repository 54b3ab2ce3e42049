-- A slice that is set one by one.
use Prim.Native.Nat.{ℕ, ◌+◌, ◌<◌, ◌≤◌}
use mathlib.Core.List.{List, map}
use mathlib.Core.Path.{◌≡◌, refl, sym, ◌∙◌}
use lib.ListN.{length, get_or, drop, set, length-set, drop_of_length-le}
use lib.Seq.{drop-cons, sets}
use native.Mathlib.Numerals.{add-one}
use native.Mathlib.Omega.{arith}

-- i were set: what is left to set onto the slice as it is now gives what was to set onto it as it came
module _ {A B : Type 0} (f : A → B) (xs : List A) (old : List B) where
  pub record Putting (i : ℕ) (out : List B) : Type 0 where
    pub len : length out ≡ length old
    pub le : i ≤ length xs
    pub eq : sets old 0 (map f xs) ≡ sets out i (map f (drop i xs))

  pub put_none : Putting 0 old
  put_none = record { len = refl; le = omega arith; eq = refl }

  pub put_more : (i : ℕ) (out : List B) (d : A) → Putting i out → i < length xs → (y : B) → y ≡ f (get_or xs i d) → Putting (i + 1) (set out i y)
  put_more i out d s h y e =
      record { len = length-set out i y ∙ s.len; le = omega arith; eq = s.eq ∙ rw (drop-cons xs i d h, ← e, add-one) refl }

  pub put_all : (i : ℕ) (out : List B) → Putting i out → length xs ≤ i → out ≡ sets old 0 (map f xs)
  put_all i out s h = sym (s.eq ∙ rw (drop_of_length-le xs h) refl)
