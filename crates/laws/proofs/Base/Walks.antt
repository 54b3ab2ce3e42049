-- The laws of answers: one inversion and one forward law for each way to build a walk.
use mathlib.Core.Bool.{Bool, true, false, cond}
use mathlib.Core.List.{List, [], ◌∷◌, ◌++◌}
use mathlib.Core.Logic.{◌↔◌}
use mathlib.Core.Path.{◌≡◌, refl, ap, ◌∙◌}
use Prim.Native.Nat.{ℕ, ◌≤◌}
use borrow.Author.Tests.{leb-true, le-leb}
use native.Mathlib.Omega.{arith}
use Rattle.layout.specs.Answers.Calls.{and_then}
use Rattle.layout.specs.Bytes.{All, flat}
use Rattle.layout.specs.Refusals.{TOO_NEW}
use Rattle.layout.specs.Walk.{Walk, ends, stops, meets, outcome, Answer, given, refused, answer, up_to, always, ◌>>=◌, ◌>>◌, Check, must, dated, checks, Holds}
use Rattle.layout.specs.Walk.{years_of}
use Rattle.laws.proofs.Base.Lists.{all_append}
use Rattle.layout.specs.declared.refusals.Reason.{Reason}

pub given_inj : {A : Type 0} {a b : A} → given a ≡ given b → a ≡ b
given_inj e = cc

-- a refusal gives nothing
pub cond_back : {A : Type 0} (t : Bool) (w : Answer A) (n : Reason) (p z : ℕ) (a : A) → cond t w (refused n p z) ≡ given a → (t ≡ true) × (w ≡ given a)
cond_back true w n p z a e = (refl, e)
cond_back false w n p z a e = let z : ◌≡◌ {A = ℕ} 0 1 = cc in absurd (omega arith)

pub cond_on {ℓ} : {A : Type ℓ} (t : Bool) (a b : A) → t ≡ true → cond t a b ≡ a
cond_on t a b e = rw e

pub bind_back : {A B : Type 0} (al : ℕ → Bool) (w : Walk A) (f : A → Walk B) (b : B) → answer al (w >>= f) ≡ given b
    → (a : A) × (answer al w ≡ given a) × (answer al (f a) ≡ given b)
bind_back al (ends a) f b e = (a, refl, e)
bind_back al (stops n p) f b e = let z : ◌≡◌ {A = ℕ} 0 1 = cc in absurd (omega arith)
bind_back al (meets p z w) f b e =
    let h = cond_back (al z) _ _ _ _ b e in
    let i = bind_back al w f b h.1 in
    (i.0, cond_on (al z) _ _ h.0 ∙ i.1, i.2)

-- the same, with what it finds as variables: `bind_case al w f b e λ a h i. ..`
pub bind_case : {A B C : Type 0} (al : ℕ → Bool) (w : Walk A) (f : A → Walk B) (b : B) → answer al (w >>= f) ≡ given b
    → ((a : A) → answer al w ≡ given a → answer al (f a) ≡ given b → C) → C
bind_case al w f b e k = let h = bind_back al w f b e in k h.0 h.1 h.2

pub bind_on : {A B : Type 0} (al : ℕ → Bool) (w : Walk A) (f : A → Walk B) (a : A) → answer al w ≡ given a → answer al (w >>= f) ≡ answer al (f a)
bind_on al (ends a) f b e = ap (λ x. answer al (f x)) (given_inj e)
bind_on al (stops n p) f b e = let z : ◌≡◌ {A = ℕ} 0 1 = cc in absurd (omega arith)
bind_on al (meets p z w) f b e = let h = cond_back (al z) _ _ _ _ b e in rw h.0 (bind_on al w f b h.1)

-- a walk made of walks
pub bind_assoc : {A B C : Type 0} (w : Walk A) (f : A → Walk B) (g : B → Walk C) → (w >>= f >>= g) ≡ (w >>= λ a. f a >>= g)
bind_assoc (ends a) f g = refl
bind_assoc (stops n p) f g = refl
bind_assoc (meets p z w) f g = ap (λ v. meets p z v) (bind_assoc w f g)

-- two lists of checks, one after another
pub checks_append : {A : Type 0} (p : ℕ) (cs ds : List Check) (w : Walk A) → (checks p (cs ++ ds) >> w) ≡ (checks p cs >> (checks p ds >> w))
checks_append p [] ds w = refl
checks_append p (must true n k ∷ cs) ds w = checks_append p cs ds w
checks_append p (must false n k ∷ cs) ds w = refl
checks_append p (dated true z k ∷ cs) ds w = rw (checks_append p cs ds w) refl
checks_append p (dated false z k ∷ cs) ds w = checks_append p cs ds w

-- the years that are allowed
abbrev pub Allowed : (ℕ → Bool) → List ℕ → Type 0
Allowed al ys = All (λ z. al z ≡ true) ys

pub checks_back : {A : Type 0} (al : ℕ → Bool) (p : ℕ) (cs : List Check) (w : Walk A) (a : A) → answer al (checks p cs >> w) ≡ given a
    → Holds cs × Allowed al (years_of cs) × (answer al w ≡ given a)
checks_back al p [] w a e = (tt, tt, e)
checks_back al p (must true n k ∷ cs) w a e = let h = checks_back al p cs w a e in ((refl, h.0), h.1, h.2)
checks_back al p (must false n k ∷ cs) w a e = let z : ◌≡◌ {A = ℕ} 0 1 = cc in absurd (omega arith)
checks_back al p (dated false z k ∷ cs) w a e = checks_back al p cs w a e
checks_back al p (dated true z k ∷ cs) w a e =
    let h = cond_back (al z) _ _ _ _ a e in
    let i = checks_back al p cs w a h.1 in
    (i.0, (h.0, i.1), i.2)

pub checks_case : {A C : Type 0} (al : ℕ → Bool) (p : ℕ) (cs : List Check) (w : Walk A) (a : A) → answer al (checks p cs >> w) ≡ given a
    → (Holds cs → Allowed al (years_of cs) → answer al w ≡ given a → C) → C
checks_case al p cs w a e k = let h = checks_back al p cs w a e in k h.0 h.1 h.2

pub checks_on : {A : Type 0} (al : ℕ → Bool) (p : ℕ) (cs : List Check) (w : Walk A) → Holds cs → Allowed al (years_of cs)
    → answer al (checks p cs >> w) ≡ answer al w
checks_on al p [] w h y = refl
checks_on al p (must t n k ∷ cs) w h y = rw h.0 (checks_on al p cs w h.1 y)
checks_on al p (dated false z k ∷ cs) w h y = checks_on al p cs w h y
checks_on al p (dated true z k ∷ cs) w h y = rw y.0 (checks_on al p cs w h y.1)

-- for code: an answer is computed step by step
pub answer_bind : {A B : Type 0} (al : ℕ → Bool) (w : Walk A) (f : A → Walk B) → answer al (w >>= f) ≡ and_then (answer al w) (λ a. answer al (f a))
answer_bind al (ends a) f = refl
answer_bind al (stops n p) f = refl
answer_bind al (meets p z w) f = step (al z) (answer_bind al w f)
  where
    step : (t : Bool) → answer al (w >>= f) ≡ and_then (answer al w) (λ a. answer al (f a))
        → cond t (answer al (w >>= f)) (refused TOO_NEW p z) ≡ and_then (cond t (answer al w) (refused TOO_NEW p z)) (λ a. answer al (f a))
    step true e = e
    step false e = refl

pub bind_refused : {A B : Type 0} {n : Reason} {p z : ℕ} (al : ℕ → Bool) (w : Walk A) (f : A → Walk B) → answer al w ≡ refused n p z → answer al (w >>= f) ≡ refused n p z
bind_refused al w f e = answer_bind al w f ∙ ap (λ v. and_then v (λ a. answer al (f a))) e

pub then_back : {A B : Type 0} (w : Answer A) (f : A → Answer B) (b : B) → and_then w f ≡ given b → (a : A) × (w ≡ given a) × (f a ≡ given b)
then_back (given a) f b e = (a, refl, e)
then_back (refused n p z) f b e = let z : ◌≡◌ {A = ℕ} 0 1 = cc in absurd (omega arith)

-- what a setting allows
pub allowed_append : (al : ℕ → Bool) (s t : List ℕ) → Allowed al (s ++ t) ↔ (Allowed al s × Allowed al t)
allowed_append al s t = all_append (λ z. al z ≡ true) s t

pub allowed-three : (al : ℕ → Bool) (a b c : List ℕ) → Allowed al (a ++ b ++ c) ↔ (Allowed al a × Allowed al b × Allowed al c)
allowed-three al a b c =
    let all = allowed_append al (a ++ b) c in
    let both = allowed_append al a b in
    (λ y. let u = all.0 y in let w = both.0 u.0 in (w.0, w.1, u.1), λ y. all.1 (both.1 (y.0, y.1), y.2))

pub allowed-always : (ys : List ℕ) → Allowed always ys
allowed-always [] = tt
allowed-always (y ∷ ys) = (refl, allowed-always ys)

pub allowed-none : {A : Type 0} (al : ℕ → Bool) (l : List A) → Allowed al (flat (λ a. []) l)
allowed-none al [] = tt
allowed-none al (a ∷ l) = allowed-none al l

pub allowed-up_to : (y : ℕ) (ys : List ℕ) → Allowed (up_to y) ys ↔ All (λ z. z ≤ y) ys
allowed-up_to y [] = (λ h. tt, λ h. tt)
allowed-up_to y (z ∷ zs) =
    (λ h. (leb-true z y h.0, (allowed-up_to y zs).0 h.1), λ h. (le-leb z y h.0, (allowed-up_to y zs).1 h.1))

pub outcome-is : {A : Type 0} (w : Walk A) (a : A) → (outcome w ≡ ends a) ↔ (answer always w ≡ given a)
outcome-is (ends b) a = (λ e. cc, λ e. cc)
outcome-is (stops n p) a = (λ e. cc, λ e. cc)
outcome-is (meets p z w) a = outcome-is w a

-- what is given at some years is what the 2017 walk ends in
pub given-ends : {A : Type 0} (al : ℕ → Bool) (w : Walk A) (a : A) → answer al w ≡ given a → outcome w ≡ ends a
given-ends al (ends b) a e = cc
given-ends al (stops n p) a e = absurd (let q : ◌≡◌ {A = ℕ} 0 1 = cc in omega arith)
given-ends al (meets p z w) a e = given-ends al w a (cond_back (al z) _ _ _ _ a e).1
