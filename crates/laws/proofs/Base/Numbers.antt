-- The laws of numbers and bytes, once over the width, and of numbers one after another, once over the widths.
use mathlib.Core.List.{List, [], ◌∷◌, ◌++◌, append_assoc}
use mathlib.Core.Path.{◌≡◌, refl, ap, sym, ◌∙◌}
use Prim.Native.Nat.{ℕ, zero, suc, ◌+◌, ◌*◌, ◌/◌, ◌%◌, ◌^◌, ◌≤◌, ◌<◌}
use lib.Arith.{mod-mul}
use lib.ListN.{length, drop, get_or, length-append, length-drop}
use lib.Seq.{drop_at}
use native.Mathlib.Nat.{zero-mul, suc-mul, pow-zero, pow-succ', one-le-pow}
use native.Mathlib.Omega.{arith}
use Rattle.layout.specs.Bytes.{Bytes, number, bytes, numbers, stored_all, FitAll, repeat, total}
use Rattle.laws.proofs.Base.Lists.{all_drop}
use Rattle.laws.proofs.Base.Readers.{took_both}

pub length-bytes : (n v : ℕ) → length (bytes n v) ≡ n
length-bytes zero v = refl
length-bytes (suc n) v = ap suc (length-bytes n (v / 256))

pub bytes-bytes : (n v : ℕ) → Bytes (bytes n v)
bytes-bytes zero v = tt
bytes-bytes (suc n) v = (omega arith, bytes-bytes n (v / 256))

pub number-bytes : (n v : ℕ) (r : List ℕ) → v < 256 ^ n → number n (bytes n v ++ r) ≡ v
number-bytes zero v r h = omega arith
number-bytes (suc n) v r h = rw (number-bytes n (v / 256) r (omega arith)) (omega arith)

pub number_lt : (n : ℕ) (xs : List ℕ) → Bytes xs → number n xs < 256 ^ n
number_lt zero xs b = omega arith
number_lt (suc n) [] b = omega (arith, number_lt n [] tt)
number_lt (suc n) (x ∷ xs) b = omega (arith, number_lt n xs b.1, b.0)

-- the first n of m bytes of a number are its low ones
pub number-low : (n m v : ℕ) → n ≤ m → number n (bytes m v) ≡ v % 256 ^ n
number-low zero m v h = omega (arith, pow-zero 256)
number-low (suc n) zero v h = absurd (omega arith)
number-low (suc n) (suc m) v h =
    let up : 256 ^ suc n ≡ 256 ^ n * 256 = omega (arith, pow-succ' 256 n) in
    let split = mod-mul v {m = 256 ^ n} {c = 256} (one-le-pow n 256 (omega arith)) (omega arith) in
    rw (number-low n m (v / 256) (omega arith)) (omega (arith, ap (λ (x : ℕ). v % x) up ∙ split))

pub bytes-number : (n : ℕ) (xs : List ℕ) → Bytes xs → n ≤ length xs → bytes n (number n xs) ++ drop n xs ≡ xs
bytes-number zero xs b h = refl
bytes-number (suc n) [] b h = absurd (omega arith)
bytes-number (suc n) (x ∷ xs) b h =
    let l : x < 256 = b.0 in
    let m : (x + 256 * number n xs) % 256 ≡ x = omega arith in
    let d : (x + 256 * number n xs) / 256 ≡ number n xs = omega arith in
    rw (m, d) (ap (λ z. x ∷ z) (bytes-number n xs b.1 (omega arith)))

-- numbers by widths
pub length-stored : (ws es : List ℕ) → FitAll ws es → length (stored_all ws es) ≡ total ws
length-stored [] [] f = refl
length-stored [] (e ∷ es) f = absurd f
length-stored (w ∷ ws) [] f = absurd f
length-stored (w ∷ ws) (e ∷ es) f = rw (length-append, length-bytes, length-stored ws es f.1)

pub numbers-stored : (ws es r : List ℕ) → FitAll ws es → numbers ws (stored_all ws es ++ r) ≡ es
numbers-stored [] [] r f = refl
numbers-stored [] (e ∷ es) r f = absurd f
numbers-stored (w ∷ ws) [] r f = absurd f
numbers-stored (w ∷ ws) (e ∷ es) r f =
    rw (
      append_assoc,
      number-bytes w e (stored_all ws es ++ r) f.0,
      drop_at (bytes w e) (stored_all ws es ++ r) w (length-bytes w e),
      numbers-stored ws es r f.1,
    )

pub stored-numbers : (ws xs : List ℕ) → Bytes xs → total ws ≤ length xs → FitAll ws (numbers ws xs) × (stored_all ws (numbers ws xs) ++ drop (total ws) xs ≡ xs)
stored-numbers [] xs bs h = (tt, refl)
stored-numbers (w ∷ ws) xs bs h =
    let b = stored-numbers ws (drop w xs) (all_drop _ w xs bs) (rw length-drop (omega arith)) in (
      (number_lt w xs bs, b.0),
      took_both (bytes w (number w xs)) (stored_all ws (numbers ws (drop w xs))) xs w (total ws) (bytes-number w xs bs (omega arith))
          b.1,
    )

pub length-numbers : (ws xs : List ℕ) → length (numbers ws xs) ≡ length ws
length-numbers [] xs = refl
length-numbers (w ∷ ws) xs = ap suc (length-numbers ws (drop w xs))

-- bytes add up to 255 times their count at most
pub total-bytes : (xs : List ℕ) → Bytes xs → total xs ≤ 255 * length xs
total-bytes [] b = omega arith
total-bytes (x ∷ xs) b = omega (arith, total-bytes xs b.1, b.0)

-- widths repeated
pub length-repeat : (n : ℕ) (ws : List ℕ) → length (repeat n ws) ≡ n * length ws
length-repeat zero ws = sym (zero-mul (length ws))
length-repeat (suc n) ws = rw (length-append, length-repeat n ws, suc-mul) (omega arith)

pub total_append : (a b : List ℕ) → total (a ++ b) ≡ total a + total b
total_append [] b = omega arith
total_append (w ∷ a) b = rw (total_append a b) (omega arith)

pub total-repeat : (n : ℕ) (ws : List ℕ) → total (repeat n ws) ≡ n * total ws
total-repeat zero ws = sym (zero-mul (total ws))
total-repeat (suc n) ws = rw (total_append ws (repeat n ws), total-repeat n ws, suc-mul) (omega arith)

-- for code that reads `s[p + k]`
pub number_nil : (n : ℕ) → number n [] ≡ 0
number_nil zero = refl
number_nil (suc n) = refl

pub number-drop : (n p : ℕ) (s : List ℕ) → number (suc n) (drop p s) ≡ get_or s p 0 + 256 * number n (drop (suc p) s)
number-drop n zero [] = rw (number_nil n)
number-drop n zero (x ∷ s) = refl
number-drop n (suc p) [] = rw (number_nil n)
number-drop n (suc p) (x ∷ s) = number-drop n p s

-- all bytes, from what the code knows of a slice
pub all-bytes : (s : List ℕ) → ((i : ℕ) → get_or s i 0 < 256) → Bytes s
all-bytes [] g = tt
all-bytes (x ∷ s) g = (g 0, all-bytes s (λ i. g (suc i)))
