-- Walks whose own refusals are never TOO NEW, and whose features are of 2017 or earlier: at 2017 they are followed to their end.
use mathlib.Core.Bool.{true, false}
use mathlib.Core.List.{List, [], ◌∷◌}
use mathlib.Core.Path.{◌≡◌, refl, ap, sym, ◌∙◌}
use Prim.Native.Nat.{ℕ, zero, suc, ◌+◌}
use lib.Dec.{leb, eqb}
use lib.ListN.{length, drop}
use native.Mathlib.Omega.{arith}
use Rattle.layout.specs.Refusals.{TOO_NEW, refusal_number}
use Rattle.layout.specs.Walk.{Walk, ends, stops, meets, refused, answer, up_to, always, ◌>>=◌, ◌>>◌, Check, must, dated, checks, Reader, times, pair, filling}
use Rattle.layout.specs.Walk.{fill, whole}
use Rattle.layout.specs.Writing.Tables.{Taker, many}
use Rattle.layout.specs.Sheet.{Table}
use Rattle.laws.proofs.Base.Lists.{◌&◌}
use Rattle.layout.specs.declared.refusals.Reason.{Reason}

-- the setting that knows every feature
abbrev pub newest_setting : ℕ
newest_setting = 2017

abbrev pub Own : {A : Type 0} → Walk A → Type 0
Own (ends a) = Unit {0}
Own (stops n p) = eqb (refusal_number n) (refusal_number TOO_NEW) ≡ false
Own (meets p z w) = (leb z newest_setting ≡ true) × Own w

-- the same of a list of checks
abbrev pub OwnChecks : List Check → Type 0
OwnChecks [] = Unit {0}
OwnChecks (must t n k ∷ cs) = (eqb (refusal_number n) (refusal_number TOO_NEW) ≡ false) × OwnChecks cs
OwnChecks (dated t z k ∷ cs) = (leb z newest_setting ≡ true) × OwnChecks cs

pub own_checks : (p : ℕ) (cs : List Check) → OwnChecks cs → Own (checks p cs)
own_checks p [] h = tt
own_checks p (must true n k ∷ cs) h = own_checks p cs h.1
own_checks p (must false n k ∷ cs) h = h.0
own_checks p (dated true z k ∷ cs) h = (h.0, own_checks p cs h.1)
own_checks p (dated false z k ∷ cs) h = own_checks p cs h.1

pub own_bind : {A B : Type 0} (w : Walk A) (f : A → Walk B) → Own w → ((a : A) → Own (f a)) → Own (w >>= f)
own_bind (ends a) f h g = g a
own_bind (stops n p) f h g = h
own_bind (meets p z w) f h g = (h.0, own_bind w f h.1 g)

pub own_then : {A : Type 0} (p : ℕ) (cs : List Check) (w : Walk A) → OwnChecks cs → Own w → Own (checks p cs >> w)
own_then p cs w h g = own_bind (checks p cs) (λ _. w) (own_checks p cs h) (λ _. g)

-- readers
abbrev pub OwnReader : {A : Type 0} → Reader A → Type 0
OwnReader r = (p : ℕ) (xs : List ℕ) → Own (r p xs)

pub own_times : {A : Type 0} (n : ℕ) (r : Reader A) → OwnReader r → OwnReader (times n r)
own_times zero r h p xs = tt
own_times (suc n) r h p xs =
    own_bind (r p xs) _ (h p xs) (λ a. own_bind (times n r (p + a.size) (drop a.size xs)) _ (own_times n r h _ _) (λ b. tt))

pub own_pair : {A B : Type 0} (r : Reader A) (s : Reader B) → OwnReader r → OwnReader s → OwnReader (pair r s)
own_pair r s h g p xs = own_bind (r p xs) _ (h p xs) (λ a. own_bind (s (p + a.size) (drop a.size xs)) _ (g _ _) (λ b. tt))

own_filling : {A : Type 0} (r : Reader A) → OwnReader r → (most p : ℕ) (xs : List ℕ) → Own (filling r most p xs)
own_filling r h zero p xs = tt
own_filling r h (suc most) p [] = tt
own_filling r h (suc most) p (x ∷ xs) =
    own_bind (r p (x ∷ xs)) _ (h p (x ∷ xs))
    (λ a. own_bind (filling r most (p + a.size) (drop a.size (x ∷ xs))) _ (own_filling r h most _ _) (λ b. tt))

pub own_fill : {A : Type 0} (r : Reader A) → OwnReader r → (p : ℕ) (xs : List ℕ) → Own (fill r p xs)
own_fill r h p xs = own_filling r h (length xs) p xs

pub own_whole : {A : Type 0} (n : Reason) (r : Reader A) → eqb (refusal_number n) (refusal_number TOO_NEW) ≡ false → OwnReader r → (p : ℕ) (xs : List ℕ) → Own (whole n r p xs)
own_whole n r e h p xs =
    own_bind (r p xs) _ (h p xs) (λ a. own_then (p + a.size) (must (leb (length xs) a.size) n 0 ∷ []) _ (e & tt) tt)

-- takers
abbrev pub OwnTaker : {A : Type 0} → Taker A → Type 0
OwnTaker r = (i : ℕ) (t : Table) → Own (r i t)

pub own_many : {A : Type 0} (n k : ℕ) (r : Taker A) → OwnTaker r → OwnTaker (many n k r)
own_many zero k r h i t = tt
own_many (suc n) k r h i t = own_bind (r i t) _ (h i t) (λ a. own_bind (many n k r (i + k) a.left) _ (own_many n k r h _ _) (λ b. tt))

-- at 2017 such a walk is followed to its own end, and that is never TOO NEW
pub own_newest : {A : Type 0} (w : Walk A) → Own w → answer (up_to newest_setting) w ≡ answer always w
own_newest (ends a) h = refl
own_newest (stops n p) h = refl
own_newest (meets p z w) h = rw h.0 (own_newest w h.1)

pub own_never : {A : Type 0} (w : Walk A) → Own w → (p z : ℕ) → ¬ (answer (up_to newest_setting) w ≡ refused TOO_NEW p z)
own_never (ends a) h p z e = let q : ◌≡◌ {A = ℕ} 0 1 = cc in omega arith
own_never (stops n k) h p z e =
    let q : n ≡ TOO_NEW = cc in
    let r : true ≡ false = ap (λ x. eqb (refusal_number x) (refusal_number TOO_NEW)) (sym q) ∙ h in
    let u : ◌≡◌ {A = ℕ} 0 1 = cc in
    omega arith
own_never (meets k y w) h p z e = own_never w h.1 p z (rw h.0 at e)
