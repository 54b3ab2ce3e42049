-- Checks that code made as a chain, and what comes after them: the laws of a chain (fields, Chain), for what is counted of a walk.
use mathlib.Core.List.{List}
use mathlib.Core.Path.{◌≡◌, sym, ap}
use Prim.Native.Nat.{ℕ}
use Rattle.reading_check.specs.Tally.{shown}
use Rattle.reading_check.specs.declared.tally.Tally.{Tally}
use Rattle.fields.proofs.Laws.Chain as Chain
use Rattle.fields.specs.Checks.{checked}
use Rattle.layout.specs.Walk.{Walk, Check, checks, ◌>>◌}
use Rattle.layout.specs.declared.Refusal.{Refusal}
use Rattle.std.specs.Prelude.{Result, Ok, Err}
use Rattle.layout.specs.Answers.Enums.{result_of}

-- r is the step that the code came to
module _ {A : Type 0} (y : ℕ) (f : A → Tally) (p : ℕ) (cs : List Check) (w : Walk A) (r : Result (Unit {0}) Refusal) (n : r ≡ checked y p cs) where
  pub step_on : r ≡ (Ok tt) → shown f y (checks p cs >> w) ≡ shown f y w
  step_on e = ap (result_of f) (Chain.step_on y p cs r n w tt e)

  pub step_stop : (q : Refusal) → r ≡ Err q → Err q ≡ shown f y (checks p cs >> w)
  step_stop q e = sym (ap (result_of f) (Chain.step_stop y p cs r n w q e))
