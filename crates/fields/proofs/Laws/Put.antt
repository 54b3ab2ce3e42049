-- A loop that writes a slice at a moving place: what is still to be written onto the slice as it is gives what was to be written onto
-- it as it came.
use borrow.Rule.Slice.PartMut.{put_mid}
use mathlib.Core.List.{List, [], ◌∷◌, ◌++◌, append_assoc}
use mathlib.Core.Path.{◌≡◌, refl, sym, ap, ◌∙◌}
use Prim.Native.Nat.{ℕ, zero, suc, ◌+◌, ◌-◌, ◌*◌, ◌≤◌, ◌<◌}
use lib.ListN.{length, get_or, take, drop, set, length-set}
use lib.Seq.{sets, sets-eq, drop-drop, drop-cons, length-sets, set_comm}
use native.Mathlib.Nat.{mul-suc, add-zero, one-mul}
use native.Mathlib.Omega.{arith}
use Rattle.layout.specs.Bytes.{number, numbers, repeat, total}
use Rattle.laws.proofs.Base.Numbers.{length-numbers}

pub sets_append : (l : List ℕ) (i : ℕ) (a b : List ℕ) → sets l i (a ++ b) ≡ sets (sets l i a) (i + length a) b
sets_append l i [] b = rw add-zero
sets_append l i (x ∷ a) b = sets_append (set l i x) (suc i) a b ∙ ap (λ (k : ℕ). sets (sets (set l i x) (suc i) a) k b) (omega arith)

-- a list set from the front on: the list, and then what was there
pub front_laid : (vs old : List ℕ) → length vs ≤ length old → sets old 0 vs ≡ vs ++ drop (length vs) old
front_laid vs old h = let q : 0 + length vs ≡ length vs = omega arith in sets-eq vs old 0 (omega arith) ∙ rw q refl

-- a part of a slice, written as a whole
pub part_wrote : (out ys zs : List ℕ) (w k n : ℕ) → ys ≡ zs → k ≡ n → length zs ≡ n → w + n ≤ length out → put_mid w k out ys ≡ sets out w zs
part_wrote out ys zs w k n e j l h =
    let m : k ≡ length zs = j ∙ sym l in
    let after : drop (w + length zs) out ≡ drop k (drop w out) = rw m (sym (drop-drop (length zs) w out)) in
    rw e (sym (sets-eq zs out w (omega arith) ∙ ap (λ r. take w out ++ zs ++ r) after ∙ append_assoc (take w out) zs (drop k (drop w out))))

-- what is written later at lower places could as well be written before
set-sets : (l : List ℕ) (i j x : ℕ) (b : List ℕ) → i < j → set (sets l j b) i x ≡ sets (set l i x) j b
set-sets l i j x [] h = refl
set-sets l i j x (y ∷ b) h =
    let other : j ≡ i → ⊥ = λ e. absurd (omega arith) in
    set-sets (set l j y) i (suc j) x b (omega arith) ∙ ap (λ o. sets o (suc j) b) (set_comm l j i y x other)

pub sets_swap : (l : List ℕ) (i j : ℕ) (a b : List ℕ) → i + length a ≤ j → sets (sets l j b) i a ≡ sets (sets l i a) j b
sets_swap l i j [] b h = refl
sets_swap l i j (x ∷ a) b h = ap (λ o. sets o (suc i) a) (set-sets l i j x b (omega arith)) ∙ sets_swap (set l i x) (suc i) j a b (omega arith)

pub numbers_append : (v ws xs : List ℕ) → numbers (v ++ ws) xs ≡ numbers v xs ++ numbers ws (drop (total v) xs)
numbers_append [] ws xs = refl
numbers_append (u ∷ v) ws xs =
    ap (λ l. number u xs ∷ l) (numbers_append v ws (drop u xs) ∙ ap (λ l. numbers v (drop u xs) ++ numbers ws l) (drop-drop (total v) u xs))

pub repeat_cons : (n : ℕ) (ws : List ℕ) → 0 < n → repeat n ws ≡ ws ++ repeat (n - 1) ws
repeat_cons zero ws h = absurd (omega arith)
repeat_cons (suc n) ws h = let e : suc n - 1 ≡ n = omega arith in rw e

pub repeat-none : (n : ℕ) (ws : List ℕ) → n ≤ 0 → repeat n ws ≡ []
repeat-none zero ws h = refl
repeat-none (suc n) ws h = absurd (omega arith)

-- a turn writes one group of numbers of the widths ws
module _ (ws xs : List ℕ) (at n w : ℕ) (out₀ : List ℕ) where
  pub record Putting (i : ℕ) (out : List ℕ) : Type 0 where
    pub len : length out ≡ length out₀
    pub le : i ≤ n
    pub eq : sets out₀ w (numbers (repeat n ws) (drop at xs)) ≡ sets out (w + length ws * i) (numbers (repeat (n - i) ws) (drop (at + total ws * i) xs))

  pub put_turn : (i : ℕ) (out out' : List ℕ) → Putting i out → i < n → out' ≡ sets out (w + length ws * i) (numbers ws (drop (at + total ws * i) xs))
      → Putting (i + 1) out'
  put_turn i out out' g h e =
      let ys : List ℕ = drop (at + total ws * i) xs in
      let m : n - i - 1 ≡ n - (i + 1) = omega arith in
      let j : i + 1 ≡ suc i = omega arith in
      let q : at + total ws * i + total ws ≡ at + total ws * (i + 1) = rw (j, mul-suc) (omega arith) in
      let r : w + length ws * i + length ws ≡ w + length ws * (i + 1) = rw (j, mul-suc) (omega arith) in
      let split : numbers (repeat (n - i) ws) ys ≡ numbers ws ys ++ numbers (repeat (n - (i + 1)) ws) (drop (at + total ws * (i + 1)) xs) =
      ap (λ l. numbers l ys) (repeat_cons (n - i) ws (omega arith)) ∙ numbers_append ws (repeat (n - i - 1) ws) ys ∙ rw (m, drop-drop, q) refl in
      record {
        len = rw e (length-sets out (w + length ws * i) (numbers ws ys) ∙ g.len);
        le = omega arith;
        eq = g.eq ∙ rw (split, sets_append, length-numbers, ← e, r) refl;
      }

-- numbers of one width: a turn reads one
module _ (k : ℕ) (xs : List ℕ) (at n w : ℕ) (out₀ : List ℕ) where
  pub put_one : (i : ℕ) (out : List ℕ) (v : ℕ) → Putting (k ∷ []) xs at n w out₀ i out → i < n → v ≡ number k (drop (at + k * i) xs)
      → Putting (k ∷ []) xs at n w out₀ (i + 1) (set out (w + i) v)
  put_one i out v g h e =
      let one : total (k ∷ []) ≡ k = omega arith in
      put_turn (k ∷ []) xs at n w out₀ i out (set out (w + i) v) g h (rw (one, one-mul, ← e) refl)

-- bytes, one after another
pub take_cons : (n i : ℕ) (xs : List ℕ) → 0 < n → i < length xs → take n (drop i xs) ≡ get_or xs i 0 ∷ take (n - 1) (drop (i + 1) xs)
take_cons zero i xs h k = absurd (omega arith)
take_cons (suc n) i xs h k = let e : suc n - 1 ≡ n = omega arith in let j : i + 1 ≡ suc i = omega arith in rw (e, j, drop-cons xs i 0 k) refl

module _ (xs : List ℕ) (at n w : ℕ) (out₀ : List ℕ) where
  pub record Copying (i : ℕ) (out : List ℕ) : Type 0 where
    pub len : length out ≡ length out₀
    pub le : i ≤ n
    pub eq : sets out₀ w (take n (drop at xs)) ≡ sets out (w + i) (take (n - i) (drop (at + i) xs))

  pub copy_turn : (i : ℕ) (out : List ℕ) → Copying i out → i < n → at + n ≤ length xs → (x : ℕ) → x ≡ get_or xs (at + i) 0 → Copying (i + 1) (set out (w + i) x)
  copy_turn i out g h fits x e =
      let m : n - i - 1 ≡ n - (i + 1) = omega arith in
      let q : at + i + 1 ≡ at + (i + 1) = omega arith in
      let r : suc (w + i) ≡ w + (i + 1) = omega arith in
      record {
        len = length-set out (w + i) x ∙ g.len;
        le = omega arith;
        eq = g.eq ∙ rw (take_cons (n - i) (at + i) xs (omega arith) (omega arith), ← e, m, q, ← r) refl;
      }

-- the three stores of a point whose height is wider than its other elements
pub point-turn : (out xs : List ℕ) (o k x y h : ℕ) → x ≡ number 2 (drop k xs) → y ≡ number 2 (drop (k + 2) xs) → h ≡ number 4 (drop (k + 4) xs)
    → set (set (set out o x) (o + 1) y) (o + 2) h ≡ sets out o (numbers (2 ∷ 2 ∷ 4 ∷ []) (drop k xs))
point-turn out xs o k x y h ex ey eh =
    let a : o + 1 ≡ suc o = omega arith in
    let b : o + 2 ≡ suc (suc o) = omega arith in
    let fy : y ≡ number 2 (drop 2 (drop k xs)) = rw drop-drop ey in
    let fh : h ≡ number 4 (drop 2 (drop 2 (drop k xs))) = rw (drop-drop, drop-drop) eh in
    rw (a, b, ex, fy, fh) refl
