-- Pieces that are taken one after another, by what each of the calls may be given and answers.
use Rattle.std.specs.Prelude.{◌≡◌, ℕ, zero, suc, Result, Ok, Err}
use Rattle.layout.specs.declared.Refusal.{Refusal}
use Rattle.writing_check.specs.declared.places.Places.{Places}

abbrev pub Answered : Type 0
Answered = Result Places Refusal

-- each of n calls from p on may be made, wherever the ones before it end
abbrev pub Calls : (Places → Type 0) → (Places → Answered → Type 0) → ℕ → Places → Type 0
Calls pre post zero p = Unit {0}
Calls pre post (suc n) p = pre p × ((q : Places) → post p (Ok q) → Calls pre post n q)

pub record MayTake (pre : Places → Type 0) (post : Places → Answered → Type 0) (n : ℕ) (p : Places) : Type 0 where
  pub calls : Calls pre post n p

-- the next step, after one that was answered so
abbrev pub Next : (Places → Type 0) → Answered → Answered → Type 0
Next next (Ok q) r = next q
Next next (Err e) r = r ≡ Err e

-- n calls from p on come to r: where the last one ends, or the first refusal
abbrev pub Run : (Places → Answered → Type 0) → ℕ → Places → Answered → Type 0
Run post zero p r = r ≡ Ok p
Run post (suc n) p r = (m : Answered) × post p m × Next (λ q. Run post n q r) m r

pub record Took (post : Places → Answered → Type 0) (n : ℕ) (p : Places) (r : Answered) : Type 0 where
  pub run : Run post n p r
