-- The laws of checks one after another: they come to what layout's walk of them comes to, and lists of them are joined; then what this says of the
-- checks, and of a walk that has them first.
use mathlib.Core.Bool.{Bool, true, false, cond}
use mathlib.Core.List.{List, [], ◌∷◌, ◌++◌}
use mathlib.Core.Path.{◌≡◌, refl, sym, ap, ◌∙◌}
use Prim.Native.Nat.{ℕ, ◌+◌}
use lib.Dec.{leb}
use native.Mathlib.Omega.{arith}
use Rattle.fields.specs.Checks.{and_next, checked}
use Rattle.layout.specs.Answers.Enums.{refusal, result_of}
use Rattle.layout.specs.Refusals.{TOO_NEW}
use Rattle.layout.specs.Walk.{Walk, ends, Answer, given, refused, answer, up_to, Check, must, dated, checks, Holds, ◌>>◌}
use Rattle.layout.specs.declared.Refusal.{Refusal}
use Rattle.laws.proofs.Base.Walks.{bind_on, bind_refused, checks_back}
use Rattle.std.specs.Prelude.{Result, Ok, Err}

abbrev Checked : Type 0
Checked = Result (Unit {0}) Refusal

abbrev of_layout : ℕ → ℕ → List Check → Checked
of_layout y p cs = result_of (λ _. tt) (answer (up_to y) (checks p cs))

pub as_layout : (y p : ℕ) (cs : List Check) → of_layout y p cs ≡ checked y p cs
as_layout y p [] = refl
as_layout y p (must true n k ∷ cs) = as_layout y p cs
as_layout y p (must false n k ∷ cs) = refl
as_layout y p (dated false z k ∷ cs) = as_layout y p cs
as_layout y p (dated true z k ∷ cs) = go (leb z y) (as_layout y p cs)
  where
    go : (b : Bool) → of_layout y p cs ≡ checked y p cs
        → result_of (λ _. tt {0}) (cond b (answer (up_to y) (checks p cs)) (refused TOO_NEW (p + k) z))
        ≡ and_next (cond b (Ok tt) (Err (refusal TOO_NEW (p + k) z))) (checked y p cs)
    go true e = e
    go false e = refl

pub next_next : (a b c : Checked) → and_next (and_next a b) c ≡ and_next a (and_next b c)
next_next (Ok u) b c = refl
next_next (Err r) b c = refl

-- the last check
pub next_fine : (a : Checked) → and_next a (Ok tt) ≡ a
next_fine (Ok u) = refl
next_fine (Err r) = refl

-- one list of checks, and then another
pub checked_both : (y p : ℕ) (cs ds : List Check) → checked y p (cs ++ ds) ≡ and_next (checked y p cs) (checked y p ds)
checked_both y p [] ds = refl
checked_both y p (must ok n k ∷ cs) ds = ap (and_next _) (checked_both y p cs ds) ∙ sym (next_next _ (checked y p cs) (checked y p ds))
checked_both y p (dated on z k ∷ cs) ds = ap (and_next _) (checked_both y p cs ds) ∙ sym (next_next _ (checked y p cs) (checked y p ds))

-- a refusal as an answer
abbrev pub refused_by : {A : Type 0} → Refusal → Answer A
refused_by q = refused q.reason q.place q.year

fine-given : (v : Answer (Unit {0})) (u : Unit {0}) → result_of (λ _. tt {0}) v ≡ Ok u → v ≡ given tt
fine-given (given a) u e = refl
fine-given (refused n p y) u e = let z : ◌≡◌ {A = ℕ} 0 1 = cc in absurd (omega arith)

stop-refused : (v : Answer (Unit {0})) (q : Refusal) → result_of (λ _. tt {0}) v ≡ Err q → v ≡ refused_by q
stop-refused (given a) q e = let z : ◌≡◌ {A = ℕ} 0 1 = cc in absurd (omega arith)
stop-refused (refused n p y) q e = let i : refusal n p y ≡ q = cc in rw (← i) refl

-- r is what the code came to
module _ (y p : ℕ) (cs : List Check) (r : Checked) (n : r ≡ checked y p cs) where
  pub step_given : (u : Unit {0}) → r ≡ Ok u → answer (up_to y) (checks p cs) ≡ given tt
  step_given u e = fine-given (answer (up_to y) (checks p cs)) u (as_layout y p cs ∙ sym n ∙ e)

  pub step_refused : (q : Refusal) → r ≡ Err q → answer (up_to y) (checks p cs) ≡ refused_by q
  step_refused q e = stop-refused (answer (up_to y) (checks p cs)) q (as_layout y p cs ∙ sym n ∙ e)

  pub step_on : {A : Type 0} (w : Walk A) (u : Unit {0}) → r ≡ Ok u → answer (up_to y) (checks p cs >> w) ≡ answer (up_to y) w
  step_on w u e = bind_on (up_to y) (checks p cs) (λ _. w) tt (step_given u e)

  pub step_stop : {A : Type 0} (w : Walk A) (q : Refusal) → r ≡ Err q → answer (up_to y) (checks p cs >> w) ≡ refused_by q
  step_stop w q e = bind_refused (up_to y) (checks p cs) (λ _. w) (step_refused q e)

  pub step_holds : (u : Unit {0}) → r ≡ Ok u → Holds cs
  step_holds u e = (checks_back (up_to y) p cs (ends (tt {0})) tt (step_on (ends (tt {0})) u e)).0
