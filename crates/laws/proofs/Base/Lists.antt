-- Lists of which everything is so, and parts of lists.
use mathlib.Core.Bool.{Bool, true, false, ◌&&◌, cond}
use mathlib.Core.List.{List, [], ◌∷◌, ◌++◌}
use mathlib.Core.Logic.{◌↔◌}
use mathlib.Core.Path.{◌≡◌, refl, sym, ap, ◌∙◌}
use Prim.Native.Nat.{ℕ, zero, suc, ◌+◌, ◌-◌, ◌≤◌, ◌<◌}
use native.Mathlib.Nat.{zero-add, suc-add}
use native.Mathlib.Omega.{arith}
use lib.ListN.{length, take, drop, length-drop}
use lib.Seq.{drop-drop, length-take-le}
use Rattle.layout.specs.Bytes.{All, flat, some}

-- values one after another, as a row or a list of checks has them
infixr 10 ◌&◌
abbrev pub ◌&◌ : {A B : Type 0} → A → B → A × B
a & b = (a, b)

pub all_append : {A : Type 0} (P : A → Type 0) (s t : List A) → All P (s ++ t) ↔ (All P s × All P t)
all_append P [] t = (λ h. (tt, h), λ h. h.1)
all_append P (a ∷ s) t =
    (λ h. let e = (all_append P s t).0 h.1 in ((h.0, e.0), e.1), λ h. (h.0.0, (all_append P s t).1 (h.0.1, h.1)))

pub all_drop : {A : Type 0} (P : A → Type 0) (n : ℕ) (s : List A) → All P s → All P (drop n s)
all_drop P zero s h = h
all_drop P (suc n) [] h = h
all_drop P (suc n) (a ∷ s) h = all_drop P n s h.1

pub all_take : {A : Type 0} (P : A → Type 0) (n : ℕ) (s : List A) → All P s → All P (take n s)
all_take P zero s h = tt
all_take P (suc n) [] h = tt
all_take P (suc n) (a ∷ s) h = (h.0, all_take P n s h.1)

-- a part of a part
pub drop-take : (a b : ℕ) (l : List ℕ) → drop a (take (a + b) l) ≡ take b (drop a l)
drop-take zero b l = simp zero-add
drop-take (suc a) zero [] = rw (suc-add a 0) refl
drop-take (suc a) (suc b) [] = rw (suc-add a (suc b)) refl
drop-take (suc a) b (x ∷ l) = rw (suc-add a b) (drop-take a b l)

-- the last c of a part
pub last_of : (xs : List ℕ) (at size c : ℕ) → c ≤ size → at + size ≤ length xs
    → drop (length (take size (drop at xs)) - c) (take size (drop at xs)) ≡ take c (drop (at + size - c) xs)
last_of xs at size c h l =
    let n : length (take size (drop at xs)) ≡ size = length-take-le size (drop at xs) (omega (arith, length-drop at xs)) in
    let d : size ≡ (size - c) + c = omega arith in
    let i : at + size - c ≡ at + (size - c) = omega arith in
    let t : take size (drop at xs) ≡ take ((size - c) + c) (drop at xs) = ap (λ k. take k (drop at xs)) d in
    let j : drop (size - c) (drop at xs) ≡ drop (at + size - c) xs = drop-drop (size - c) at xs ∙ ap (λ k. drop k xs) (sym i) in
    rw n (ap (λ l. drop (size - c) l) t ∙ drop-take (size - c) c (drop at xs) ∙ ap (λ l. take c l) j)

-- there are bytes exactly where there are pieces, if every piece has bytes
pub some-flat : {A : Type 0} (E : A → List ℕ) → ((a : A) → 0 < length (E a)) → (l : List A) → some (flat E l) ≡ some l
some-flat E g [] = refl
some-flat E g (a ∷ l) = go (E a) (g a)
  where
    go : (e : List ℕ) → 0 < length e → some (e ++ flat E l) ≡ true
    go [] h = absurd (omega arith)
    go (x ∷ e) h = refl

-- tests
pub both_true : (a b : Bool) → (a && b) ≡ true → (a ≡ true) × (b ≡ true)
both_true true b e = (refl, e)
both_true false b e = let z : ◌≡◌ {A = ℕ} 0 1 = cc in absurd (omega arith)

-- a fact of `cond b x y` from one of x and one of y
pub cond_both {ℓ} : {A : Type ℓ} (P : A → Type 0) (b : Bool) (x y : A) → (b ≡ true → P x) → (b ≡ false → P y) → P (cond b x y)
cond_both P true x y f g = f refl
cond_both P false x y f g = g refl
