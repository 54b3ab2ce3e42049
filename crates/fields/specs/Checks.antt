-- How checks come out: the contracts of checks in code.
use Rattle.std.specs.Prelude.{Bool, cond, List, [], ◌∷◌, ℕ, ◌+◌, leb, Result, Ok, Err}
use Rattle.layout.specs.Answers.Enums.{refusal}
use Rattle.layout.specs.Refusals.{TOO_NEW}
use Rattle.layout.specs.Walk.{Check, must, dated}
use Rattle.layout.specs.declared.Refusal.{Refusal}
use Rattle.layout.specs.declared.refusals.Reason.{Reason}

-- a test that must hold, or the refusal is given at a place
abbrev pub demanded : Bool → Reason → ℕ → Result (Unit {0}) Refusal
demanded ok reason place = cond ok (Ok tt) (Err (refusal reason place 0))

-- a feature of a year, at a place, at a setting
abbrev pub featured : Bool → ℕ → ℕ → ℕ → Result (Unit {0}) Refusal
featured on since place year = cond on (cond (leb since year) (Ok tt) (Err (refusal TOO_NEW place since))) (Ok tt)

-- the first refusal, else what comes next
abbrev pub and_next : {A : Type 0} → Result (Unit {0}) Refusal → Result A Refusal → Result A Refusal
and_next (Ok u) next = next
and_next (Err r) next = Err r

-- The checks of what starts at a place, one after another, at a setting. (Chain.as_layout: this is what layout's walk of them comes to)
abbrev pub checked : ℕ → ℕ → List Check → Result (Unit {0}) Refusal
checked year place [] = Ok tt
checked year place (must ok reason k ∷ cs) = and_next (demanded ok reason (place + k)) (checked year place cs)
checked year place (dated on since k ∷ cs) = and_next (featured on since (place + k) year) (checked year place cs)
