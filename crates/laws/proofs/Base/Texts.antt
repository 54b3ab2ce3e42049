-- A text field: a text, a zero, and a tail to the field's end.
use mathlib.Core.Bool.{Bool, true, false, not, ◌&&◌, cond}
use mathlib.Core.List.{List, [], ◌∷◌, ◌++◌}
use mathlib.Core.Path.{◌≡◌, refl, sym, ap, ap₂, ◌∙◌}
use Prim.Native.Nat.{ℕ, zero, suc, ◌+◌, ◌-◌, ◌<◌, ◌≤◌}
use borrow.Author.Tests.{eqb-true, ne_eqb}
use lib.Dec.{eqb, eqb-suc-suc}
use lib.ListN.{length, take, drop, replicate, take-append-drop, length-append, length-drop, length-replicate}
use native.Mathlib.Omega.{arith}
use Rattle.layout.specs.Bytes.{All, Bytes, Field, bytes_in, zeros}
use Rattle.layout.specs.Layout.Cleared.{clear_tail}
use Rattle.layout.specs.Shared.Texts.{text_of, tail_of, is_clean, no_zero, is_text_field, tailed, clean_tail, padded, FineText, FineTail}
use Rattle.laws.proofs.Base.Lists.{all_append, both_true, cond_both}

text-taken : (n : ℕ) (xs : List ℕ) → take (length (text_of (take n xs))) xs ≡ text_of (take n xs)
text-taken zero xs = refl
text-taken (suc n) [] = refl
text-taken (suc n) (x ∷ xs) =
    cond_both (λ t. take (length t) (x ∷ xs) ≡ t) (eqb x 0) [] (x ∷ text_of (take n xs)) (λ e. refl) (λ e. ap (λ z. x ∷ z) (text-taken n xs))

-- a text stands at the start of its field, so its length gives it back from there,
pub text_at_lem : (f : Field) (s : List ℕ) → take (length (text_of (bytes_in f s))) (drop f.place s) ≡ text_of (bytes_in f s)
text_at_lem f s = text-taken f.width (drop f.place s)

-- and it ends within the bytes that the field stands in
pub text-within : (f : Field) (s : List ℕ) → f.place ≤ length s → f.place + length (text_of (bytes_in f s)) ≤ length s
text-within f s within =
    let xs = drop f.place s in
    let k = length (text_of (bytes_in f s)) in
    omega (
      arith,
      ap length (text_at_lem f s),
      ap length (take-append-drop k xs),
      length-append (take k xs) (drop k xs),
      length-drop f.place s,
    )

text-nonzero : (xs : List ℕ) → All (λ x. eqb x 0 ≡ false) (text_of xs)
text-nonzero [] = tt
text-nonzero (x ∷ xs) =
    cond_both (λ t. All (λ x. eqb x 0 ≡ false) t) (eqb x 0) [] (x ∷ text_of xs) (λ e. tt) (λ e. (e, text-nonzero xs))

pub zeros_back : (l : List ℕ) → zeros l ≡ true → l ≡ replicate (length l) 0
zeros_back [] e = refl
zeros_back (x ∷ l) e =
    let h = both_true (eqb x 0) (zeros l) e in
    ap₂ (λ a s. a ∷ s) (eqb-true x 0 h.0) (zeros_back l h.1)

pub zeros_on : (n : ℕ) → zeros (replicate n 0) ≡ true
zeros_on zero = refl
zeros_on (suc n) = zeros_on n

pub text-short : (xs : List ℕ) → length (text_of xs) ≤ length xs
text-short [] = omega arith
text-short (x ∷ xs) =
    cond_both (λ t. length t ≤ suc (length xs)) (eqb x 0) [] (x ∷ text_of xs) (λ e. omega arith) (λ e. omega (arith, text-short xs))

-- There is no zero exactly where all stands before the first zero.
no_zero_by : (b : Bool) (x : ℕ) (t : List ℕ) → eqb (length (text_of t)) (length t) ≡ no_zero t
    → eqb (length (cond b [] (x ∷ text_of t))) (suc (length t)) ≡ (not b && no_zero t)
no_zero_by true x t e = ne_eqb 0 (suc (length t)) (λ z. absurd (omega arith))
no_zero_by false x t e = eqb-suc-suc (length (text_of t)) (length t) ∙ e

pub no_zero_lem : (t : List ℕ) → eqb (length (text_of t)) (length t) ≡ no_zero t
no_zero_lem [] = refl
no_zero_lem (x ∷ t) = no_zero_by (eqb x 0) x t (no_zero_lem t)

-- From the end of its text on a field has only zeros exactly if its tail is clean.
zeros_by : (b : Bool) (x : ℕ) (xs : List ℕ) → eqb x 0 ≡ b → zeros (drop (length (text_of xs)) xs) ≡ is_clean (tail_of xs)
    → zeros (drop (length (cond b [] (x ∷ text_of xs))) (x ∷ xs)) ≡ is_clean (cond b xs (tail_of xs))
zeros_by true x xs z e = ap (λ b. b && zeros xs) z
zeros_by false x xs z e = e

pub tail-zeros : (xs : List ℕ) → zeros (drop (length (text_of xs)) xs) ≡ is_clean (tail_of xs)
tail-zeros [] = refl
tail-zeros (x ∷ xs) = zeros_by (eqb x 0) x xs refl (tail-zeros xs)

-- A field that has a zero is its text, that zero and its tail
split_by : (b : Bool) (x : ℕ) (xs : List ℕ) → eqb x 0 ≡ b → (is_text_field xs ≡ true → tailed (text_of xs) (tail_of xs) ≡ xs)
    → not (not b && no_zero xs) ≡ true → tailed (cond b [] (x ∷ text_of xs)) (cond b xs (tail_of xs)) ≡ x ∷ xs
split_by true x xs z later e = ap (λ a. a ∷ xs) (sym (eqb-true x 0 z))
split_by false x xs z later e = ap (λ l. x ∷ l) (later e)

text_split : (xs : List ℕ) → is_text_field xs ≡ true → tailed (text_of xs) (tail_of xs) ≡ xs
text_split [] e = let z : ◌≡◌ {A = ℕ} 0 1 = cc in absurd (omega arith)
text_split (x ∷ xs) e = split_by (eqb x 0) x xs refl (text_split xs) e

-- what stands in a text field is a fine text and a fine tail,
pub text_back : (f : Field) (xs : List ℕ) → Bytes xs → length xs ≡ f.width → is_text_field xs ≡ true
    → FineText f (text_of xs) × FineTail f (text_of xs) (tail_of xs) × (tailed (text_of xs) (tail_of xs) ≡ xs)
text_back f xs bs h e =
    let t = text_of xs in
    let a = tail_of xs in
    let split : tailed t a ≡ xs = text_split xs e in
    let plain : Bytes t × Bytes (0 ∷ a) = (all_append _ t (0 ∷ a)).0 (rw split bs) in
    let long : length t + suc (length a) ≡ f.width = sym (length-append t (0 ∷ a)) ∙ ap length split ∙ h in (
      record { short = omega (arith, long); nonzero = text-nonzero xs; is_bytes = plain.0 },
      record { filled = omega (arith, long); is_bytes = plain.1.1 },
      split,
    )

-- and a fine text and a tail are read back as they were stored
pub text_on : (t a : List ℕ) → All (λ x. eqb x 0 ≡ false) t
    → (text_of (tailed t a) ≡ t) × (tail_of (tailed t a) ≡ a) × (is_text_field (tailed t a) ≡ true)
text_on [] a h = (refl, refl, refl)
text_on (x ∷ t) a h = let r = text_on t a h.1 in rw h.0 (ap (λ l. x ∷ l) r.0, r.1, r.2)

-- clearing puts zeros in place of the tail
pub clear_tailed : (t a : List ℕ) → All (λ x. eqb x 0 ≡ false) t → clear_tail (tailed t a) ≡ tailed t (replicate (length a) 0)
clear_tailed [] a h = refl
clear_tailed (x ∷ t) a h = rw h.0 (ap (λ l. x ∷ l) (clear_tailed t a h.1))

pub length-tailed : (f : Field) (t a : List ℕ) → FineTail f t a → length (tailed t a) ≡ f.width
length-tailed f t a g = omega (arith, length-append t (0 ∷ a), g.filled)

-- A clean tail is fine and clean,
zeros-bytes : (n : ℕ) → Bytes (replicate n 0)
zeros-bytes zero = tt
zeros-bytes (suc n) = (omega arith, zeros-bytes n)

pub clean-fine : (f : Field) (t : List ℕ) → FineText f t → FineTail f t (clean_tail f t)
clean-fine f t h =
    let n = f.width - (length t + 1) in
    record { filled = omega (arith, length-replicate {A = ℕ} n 0, h.short); is_bytes = zeros-bytes n }

pub clean-zeros : (f : Field) (t : List ℕ) → is_clean (clean_tail f t) ≡ true
clean-zeros f t = zeros_on (f.width - (length t + 1))

-- and a fine tail that is clean is that one.
pub clean-tail : (f : Field) (t a : List ℕ) → FineTail f t a → is_clean a ≡ true → a ≡ clean_tail f t
clean-tail f t a g e =
    let n : length a ≡ f.width - (length t + 1) = omega (arith, g.filled) in
    zeros_back a e ∙ ap (λ k. replicate k 0) n
