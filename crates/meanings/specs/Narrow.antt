-- A number in a narrower type, or the refusal.
use Rattle.layout.specs.Answers.Enums.{refusal}
use Rattle.layout.specs.Refusals.{TABLE}
use Rattle.layout.specs.declared.Refusal.{Refusal}
use Rattle.std.specs.Prelude.{◌≡◌, Result, Ok, Err}

-- Gives is what a conversion may answer
abbrev pub Narrowed : {T E : Type 0} → (Result T E → Type 0) → Result T Refusal → Type 0
Narrowed Gives (Ok x) = Gives (Ok x)
Narrowed {E = E} Gives (Err r) = (r ≡ refusal TABLE 0 0) × ((e : E) × Gives (Err e))
