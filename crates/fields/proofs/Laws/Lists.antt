-- Lists by a place in them: what stands at the place, and what comes after it. For code that reads `s[i]`.
use mathlib.Core.Bool.{Bool, true, false, ◌&&◌}
use mathlib.Core.List.{List, [], ◌∷◌}
use mathlib.Core.Path.{◌≡◌, refl, sym, ap, ◌∙◌}
use Prim.Native.Nat.{ℕ, zero, suc, ◌+◌, ◌*◌, ◌-◌, ◌^◌, ◌<◌, ◌≤◌}
use borrow.Author.Tests.{ne_eqb}
use lib.Dec.{eqb}
use lib.ListN.{length, get_or, take, drop, drop_of_length-le, length-drop, take-append-drop}
use lib.Seq.{drop-drop, drop-nil, drop-cons, take_all, length-take-le}
use native.Mathlib.Nat.{mul-zero, zero-mul, zero-add, suc-add, pow-succ', pow-zero, mul-add, mul_assoc, add_assoc, one-mul}
use native.Mathlib.Numerals.{add-one}
use native.Mathlib.Omega.{arith}
use Rattle.std.specs.Bool.{MatchBool}
use Rattle.std.specs.List.{AllWithin, HoldsAt}
use Rattle.std.specs.Prelude.{Option, None, Some}
use Rattle.std.specs.Option.{MatchOption, unwrap_or}
use Rattle.std.specs.Simd.{first_chunks}
use Rattle.laws.proofs.Base.Numbers.{number_nil, total_append}
use Rattle.layout.specs.Bytes.{number, total, zeros}
use Rattle.layout.specs.Shared.Texts.{text_of}

pub number-one : (s : List ℕ) (p : ℕ) → number 1 (drop p s) ≡ get_or s p 0
number-one [] p = rw drop-nil
number-one (x ∷ s) zero = omega arith
number-one (x ∷ s) (suc p) = number-one s p

number-add : (m n : ℕ) (s : List ℕ) → number (m + n) s ≡ number m s + 256 ^ m * number n (drop m s)
number-add zero n s = simp (zero-add, pow-zero, one-mul)
number-add (suc m) n [] = simp (suc-add, number_nil, mul-zero)
number-add (suc m) n (x ∷ s) = simp (suc-add, number-add m n s, pow-succ', mul-add, add_assoc, mul_assoc)

-- one law for every width: a number of m + n bytes at p is the number of the first m and that of the next n
pub number-join : (m n : ℕ) (s : List ℕ) (p : ℕ) → number (m + n) (drop p s) ≡ number m (drop p s) + 256 ^ m * number n (drop (p + m) s)
number-join m n s p = number-add m n (drop p s) ∙ simp drop-drop

-- a field k bytes after a place, as the code reads it
pub field_at : (w k p : ℕ) (xs : List ℕ) (v : ℕ) → v ≡ number w (drop (p + k) xs) → v ≡ number w (drop k (drop p xs))
field_at w k p xs v e = rw drop-drop e

-- one more byte of a sum
pub total_step : (s : List ℕ) (i : ℕ) → i < length s → total (drop i s) ≡ get_or s i 0 + total (drop (i + 1) s)
total_step s i h = simp (add-one, drop-cons s i 0 h)

-- a sum in two pieces
pub total_cut : (n : ℕ) (s : List ℕ) → total (take n s) + total (drop n s) ≡ total s
total_cut n s = sym (total_append (take n s) (drop n s)) ∙ ap total (take-append-drop n s)

pub total_on : (s : List ℕ) (at n : ℕ) → total (take n (drop at s)) + total (drop (at + n) s) ≡ total (drop at s)
total_on s at n = rw (← (drop-drop n at s)) (total_cut n (drop at s))

-- nothing is left of a sum past the end
pub total-end : (s : List ℕ) (i : ℕ) → length s ≤ i → total (drop i s) ≡ 0
total-end s i h = simp (drop_of_length-le s h)

-- the text before the first zero, which is at i, or at the end
text-to : (s : List ℕ) (i : ℕ) → i ≤ length s → AllWithin (λ x. x ≡ 0 → ⊥) s 0 i → (i < length s → get_or s i 0 ≡ 0) → i ≡ length (text_of s)
text-to [] i h all e = omega arith
text-to (x ∷ s) zero h all e = let z : x ≡ 0 = e (omega arith) in rw z refl
text-to (x ∷ s) (suc i) h all e =
    let z : eqb x 0 ≡ false = ne_eqb x 0 (all 0 0 (omega arith) (omega arith)) in
    rw z (ap suc (text-to s i (omega arith) (λ k d l lt. all (suc k) d (omega arith) (omega arith)) (λ l. e (omega arith))))

-- what `position` says of the first zero
pub text-found : (s : List ℕ) (r : Option ℕ)
    → MatchOption r (AllWithin (λ x. x ≡ 0 → ⊥) s 0 (length s)) (λ i. (i < length s) × HoldsAt (λ x. x ≡ 0) s i × AllWithin (λ x. x ≡ 0 → ⊥) s 0 i)
    → unwrap_or r (length s) ≡ length (text_of s)
text-found s None all = text-to s (length s) (omega arith) all (λ l. absurd (omega arith))
text-found s (Some i) f = text-to s i (omega (arith, f.0)) f.2 (λ l. f.1 0)

zeros-all : (s : List ℕ) → AllWithin (λ x. x ≡ 0) s 0 (length s) → true ≡ zeros s
zeros-all [] all = refl
zeros-all (x ∷ s) all =
    let z : x ≡ 0 = all 0 0 (omega arith) (omega arith) in rw z (zeros-all s (λ k d l lt. all (suc k) d (omega arith) (omega arith)))

zeros-not : (s : List ℕ) (k : ℕ) → k < length s → (get_or s k 0 ≡ 0 → ⊥) → false ≡ zeros s
zeros-not [] k l n = absurd (omega arith)
zeros-not (x ∷ s) zero l n = rw (ne_eqb x 0 n) refl
zeros-not (x ∷ s) (suc k) l n = rw (← zeros-not s k (omega arith) n) (go (eqb x 0))
  where
    go : (b : Bool) → false ≡ b && false
    go true = refl
    go false = refl

-- what `all` says of zeros
pub zeros-told : (s : List ℕ) (r : Bool) → MatchBool r (AllWithin (λ x. x ≡ 0) s 0 (length s)) ((k : ℕ) × (k < length s) × HoldsAt (λ x. x ≡ 0 → ⊥) s k)
    → r ≡ zeros s
zeros-told s true all = zeros-all s all
zeros-told s false f = zeros-not s f.0 f.1 (f.2 0)

-- a chunk of n bytes
pub chunk-there : (n k : ℕ) (s : List ℕ) (i : ℕ) (d : List ℕ) → i < k → get_or (first_chunks n k s) i d ≡ take n (drop (i * n) s)
chunk-there n zero s i d h = absurd (omega arith)
chunk-there n (suc k) s zero d h = rw zero-mul refl
chunk-there n (suc k) s (suc i) d h =
    let j : n + i * n ≡ suc i * n = omega arith in chunk-there n k (drop n s) i d (omega arith) ∙ ap (take n) (drop-drop (i * n) n s ∙ ap (λ m. drop m s) j)

-- the bytes from p on, as the code's `&s[p..]` has them, and n bytes from p on, as `&s[p..p + n]` has them
pub rest_is : (s : List ℕ) (p : ℕ) → take (length s - p) (drop p s) ≡ drop p s
rest_is s p = take_all (length s - p) (drop p s) (omega (arith, length-drop p s))

pub part_length : (s : List ℕ) (p n : ℕ) → p + n ≤ length s → length (take n (drop p s)) ≡ n
part_length s p n h = length-take-le n (drop p s) (omega (arith, length-drop p s))
