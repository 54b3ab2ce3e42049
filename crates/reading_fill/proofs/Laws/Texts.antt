-- A text at the end of a part: what the code asks of its place, and what it fills.
use mathlib.Core.Bool.{Bool, true, false, cond}
use mathlib.Core.List.{List}
use mathlib.Core.Path.{◌≡◌, refl, sym, ap, ◌∙◌}
use Prim.Native.Nat.{ℕ, ◌+◌, ◌≤◌}
use lib.ListN.{length, take, drop, length-drop}
use lib.Seq.{drop-drop, length-take-le}
use native.Mathlib.Omega.{arith}
use Rattle.reading_fill.specs.Parts.{text_in, text_size}
use Rattle.layout.specs.Bytes.{number}

-- a text
module _ (xs : List ℕ) (at n : ℕ) (text : Bool) (has : text ≡ true) (fits : at + text_size text (drop at xs) ≤ length xs) where
  pub text-some : at + 1 ≤ length xs
  text-some = let r : at + (number 1 (drop at xs) + 2) ≤ length xs = rw has at fits in omega arith

  module _ (e : n ≡ number 1 (drop at xs)) where
    text-room : at + (n + 2) ≤ length xs
    text-room = let r : at + (number 1 (drop at xs) + 2) ≤ length xs = rw has at fits in omega arith

    pub text-is : take n (drop (at + 1) xs) ≡ text_in text (drop at xs)
    text-is = rw (has, ← e, drop-drop) refl

    pub text-length : n ≡ length (text_in text (drop at xs))
    text-length = sym (ap length (sym text-is) ∙ length-take-le n (drop (at + 1) xs) (omega (arith, text-room, length-drop (at + 1) xs)))

    pub text-ask : (w ol : ℕ) → w + length (text_in text (drop at xs)) ≤ ol → (at + 1 + n ≤ length xs) × (w + n ≤ ol)
    text-ask w ol h = omega (arith, text-room, text-length)

-- a text takes its length and two bytes
pub text_takes : (xs : List ℕ) (text : Bool) (n : ℕ) → text_size text xs ≤ length xs → n ≡ length (text_in text xs) → text_size text xs ≡ cond text (n + 2) 0
text_takes xs false n h e = refl
text_takes xs true n h e = omega (arith, length-take-le (number 1 xs) (drop 1 xs) (omega (arith, length-drop 1 xs)))
