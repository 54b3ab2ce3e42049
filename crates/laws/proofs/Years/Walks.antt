-- What a setting changes, for every walk: TOO NEW at the first feature that is later, and else nothing.
use mathlib.Core.Bool.{Bool, true, false, cond}
use mathlib.Core.List.{List, [], ◌∷◌, ◌++◌}
use mathlib.Core.Logic.{◌↔◌}
use mathlib.Core.Path.{◌≡◌, refl, ap, ◌∙◌}
use Prim.Native.Nat.{ℕ, ◌≤◌, ◌<◌}
use borrow.Author.Tests.{leb-true, leb-false, le-leb, lt-leb}
use lib.Dec.{leb}
use native.Mathlib.Omega.{arith}
use Rattle.layout.specs.Bytes.{All}
use Rattle.layout.specs.Refusals.{TOO_NEW}
use Rattle.layout.specs.Walk.{Walk, ends, stops, meets, refused, answer, up_to, always, Met, met, none, late, first_late, or_too_new}

-- the answer at a setting is TOO NEW at the first late feature, and else the answer where every year is allowed
pub walk_years : {A : Type 0} (y : ℕ) (w : Walk A) → answer (up_to y) w ≡ or_too_new (first_late y (met w)) (answer always w)
walk_years y (ends a) = refl
walk_years y (stops n p) = refl
walk_years y (meets p z w) = step (leb z y) (walk_years y w)
  where
    step : (b : Bool) → answer (up_to y) w ≡ or_too_new (first_late y (met w)) (answer always w)
        → cond b (answer (up_to y) w) (refused TOO_NEW p z) ≡ or_too_new (cond b (first_late y (met w)) (late p z)) (answer always w)
    step true e = e
    step false e = refl

-- what `first_late` finds: no feature before it is late, and it is
abbrev pub FirstAt : ℕ → List Met → Met → Type 0
FirstAt y ms m = (before : List Met) × (after : List Met) × (ms ≡ before ++ (m ∷ after)) × All (λ k. k.year ≤ y) before × (y < m.year)

pub none-late : (y : ℕ) (ms : List Met) → (first_late y ms ≡ none) ↔ All (λ m. m.year ≤ y) ms
none-late y [] = (λ e. tt, λ h. refl)
none-late y (m ∷ ms) =
    (λ e. go (leb m.year y) (none-late y ms).0 refl e, λ h. rw (le-leb m.year y h.0) ((none-late y ms).1 h.1))
  where
    go : (b : Bool) → (first_late y ms ≡ none → All (λ m. m.year ≤ y) ms) → leb m.year y ≡ b
        → cond b (first_late y ms) (late m.place m.year) ≡ none → All (λ m. m.year ≤ y) (m ∷ ms)
    go true r t e = (leb-true _ _ t, r e)
    go false r t e = let z : ◌≡◌ {A = ℕ} 0 1 = cc in absurd (omega arith)

pub first-late : (y : ℕ) (ms : List Met) (m : Met) → FirstAt y ms m → first_late y ms ≡ late m.place m.year
first-late y ms m f = rw f.2 (go f.0 f.3)
  where
    go : (before : List Met) → All (λ k. k.year ≤ y) before → first_late y (before ++ (m ∷ f.1)) ≡ late m.place m.year
    go [] h = rw (lt-leb m.year y f.4)
    go (k ∷ ks) h = rw (le-leb k.year y h.0) (go ks h.1)

pub late-first : (y : ℕ) (ms : List Met) (p z : ℕ) → first_late y ms ≡ late p z → FirstAt y ms (record { place = p; year = z })
late-first y [] p z e = let z : ◌≡◌ {A = ℕ} 0 1 = cc in absurd (omega arith)
late-first y (m ∷ ms) p z e = go (leb m.year y) (late-first y ms p z) refl e
  where
    go : (b : Bool) → (first_late y ms ≡ late p z → FirstAt y ms (record { place = p; year = z })) → leb m.year y ≡ b
        → cond b (first_late y ms) (late m.place m.year) ≡ late p z → FirstAt y (m ∷ ms) (record { place = p; year = z })
    go true k t e = let r = k e in (m ∷ r.0, r.1, ap (λ l. m ∷ l) r.2, (leb-true _ _ t, r.3), r.4)
    go false k t e =
        let a : m.place ≡ p = cc in
        let b : m.year ≡ z = cc in
        let l : y < m.year = leb-false _ _ t in
        ([], ms, (λ i. record { place = a i; year = b i } ∷ ms), tt, omega arith)

-- the same without a function for "first"
pub walk_late : {A : Type 0} (y : ℕ) (w : Walk A) (m : Met) → FirstAt y (met w) m → answer (up_to y) w ≡ refused TOO_NEW m.place m.year
walk_late y w m f = walk_years y w ∙ rw (first-late y (met w) m f)

pub walk_early : {A : Type 0} (y : ℕ) (w : Walk A) → All (λ m. m.year ≤ y) (met w) → answer (up_to y) w ≡ answer always w
walk_early y w h = walk_years y w ∙ rw ((none-late y (met w)).1 h)
