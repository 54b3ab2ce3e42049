-- Walks that are one statement of another walk: the grouping does not matter.
use mathlib.Core.Bool.{Bool}
use mathlib.Core.List.{List}
use mathlib.Core.Path.{◌≡◌, ap, sym, ◌∙◌}
use Prim.Native.Nat.{ℕ}
use Rattle.layout.specs.Walk.{Walk, given, answer, ◌>>◌, Check, checks, Holds, years_of}
use Rattle.laws.proofs.Base.Walks.{bind_assoc, checks_case, checks_on, Allowed}

-- four lists of checks
abbrev pub four_checks : ℕ → List Check → List Check → List Check → List Check → Walk (Unit {0})
four_checks p a b c d = checks p a >> (checks p b >> (checks p c >> checks p d))

pub four_then : {A : Type 0} (p : ℕ) (a b c d : List Check) (w : Walk A)
    → (four_checks p a b c d >> w) ≡ (checks p a >> (checks p b >> (checks p c >> (checks p d >> w))))
four_then p a b c d w =
    bind_assoc (checks p a) (λ _. checks p b >> (checks p c >> checks p d)) (λ _. w)
    ∙ ap (λ v. checks p a >> v) (bind_assoc (checks p b) (λ _. checks p c >> checks p d) (λ _. w)
    ∙ ap (λ v. checks p b >> v) (bind_assoc (checks p c) (λ _. checks p d) (λ _. w)))

-- what four lists of checks ask, and the years of what they come upon
abbrev pub Hold : List Check → List Check → List Check → List Check → Type 0
Hold a b c d = Holds a × Holds b × Holds c × Holds d

abbrev pub Allow : (ℕ → Bool) → List Check → List Check → List Check → List Check → Type 0
Allow al a b c d = Allowed al (years_of a) × Allowed al (years_of b) × Allowed al (years_of c) × Allowed al (years_of d)

pub four_case : {A C : Type 0} (al : ℕ → Bool) (p : ℕ) (a b c d : List Check) (w : Walk A) (v : A) → answer al (four_checks p a b c d >> w) ≡ given v
    → (Hold a b c d → Allow al a b c d → answer al w ≡ given v → C) → C
four_case al p a b c d w v e k =
    checks_case al p a _ v (ap (λ u. answer al u) (sym (four_then p a b c d w)) ∙ e) λ c1 y1 e1.
    checks_case al p b _ v e1 λ c2 y2 e2.
    checks_case al p c _ v e2 λ c3 y3 e3.
    checks_case al p d _ v e3 λ c4 y4 e4.
    k (c1, c2, c3, c4) (y1, y2, y3, y4) e4

pub four_on : {A : Type 0} (al : ℕ → Bool) (p : ℕ) (a b c d : List Check) (w : Walk A) → Hold a b c d → Allow al a b c d
    → answer al (four_checks p a b c d >> w) ≡ answer al w
four_on al p a b c d w h y =
    ap (λ u. answer al u) (four_then p a b c d w)
    ∙ checks_on al p a _ h.0 y.0 ∙ checks_on al p b _ h.1 y.1 ∙ checks_on al p c _ h.2 y.2 ∙ checks_on al p d w h.3 y.3
