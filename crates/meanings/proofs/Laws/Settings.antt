-- A setting is its year, and an answer that makes one is the year of it.
use Prim.Native.Nat.{ℕ}
use Rattle.layout.specs.Answers.Calls.{at_setting}
use Rattle.layout.specs.Answers.Enums.{result_of}
use Rattle.layout.specs.Refusals.{ASK}
use Rattle.layout.specs.Walk.{Answer, given, refused}
use Rattle.layout.specs.Years.{is_setting}
use Rattle.layout.specs.declared.Refusal.{Refusal}
use Rattle.meanings.specs.Settings.{year_in, made}
use Rattle.meanings.specs.declared.setting.Setting.{Setting}
use Rattle.std.specs.Prelude.{Result, Ok, Err}
use mathlib.Core.Bool.{Bool, true, false, cond, Bool-set}
use mathlib.Core.Path.{◌≡◌, refl, sym, ap, subst, ◌∙◌}
use Rattle.std.proofs.Common.{rules}

same_year : (s t : Setting) → s.year ≡ t.year → s ≡ t
same_year s t e =
    subst (λ (y : ℕ). (h : is_setting y ≡ true) → s ≡ record { year = y; nine = h }) e
    (λ h. ap (λ n. record { year = s.year; nine = n }) (Bool-set _ _ s.nine h)) t.nine

pub same_made : (r q : Result Setting Refusal) → year_in r ≡ year_in q → r ≡ q
same_made (Ok s) (Ok t) e = ap Ok (same_year s t (cc))
same_made (Err s) (Err t) e = cc
same_made (Ok s) (Err t) e = search rules
same_made (Err s) (Ok t) e = search rules

-- At a setting an answer is asked for, since its year is one of the nine.
pub at_nine : {A : Type 0} (s : Setting) (a : Answer A) → at_setting s.year a ≡ a
at_nine s a = rw s.nine refl

-- r is what making a setting of a year came to: the setting of that year,
pub known : (y : ℕ) (r : Result Setting Refusal) (s : Setting) → year_in r ≡ made y → r ≡ Ok s → s.year ≡ y
known y r s e f = go (is_setting y) (ap year_in (sym f) ∙ e)
  where
    go : (b : Bool) → Ok s.year ≡ result_of (λ x. x) (cond b (given y) (refused ASK 0 0)) → s.year ≡ y
    go true h = cc
    go false h = search rules

-- or a refusal, which every answer at that year is
pub unknown : {A : Type 0} (y : ℕ) (r : Result Setting Refusal) (q : Refusal) → year_in r ≡ made y → r ≡ Err q → (a : Answer A)
    → at_setting y a ≡ refused q.reason q.place q.year
unknown {A} y r q e f a = go (is_setting y) (ap year_in (sym f) ∙ e)
  where
    go : (b : Bool) → Err q ≡ result_of (λ x. x) (cond b (given y) (refused ASK 0 0)) → cond b a (refused ASK 0 0) ≡ refused q.reason q.place q.year
    go true h = search rules
    go false h = cc
