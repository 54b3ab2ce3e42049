-- What a check's answer says of the sheet: what was read, or the refusal.
use Prim.Native.Nat.{ℕ}
use Rattle.layout.specs.Answers.Calls.{reading}
use Rattle.layout.specs.Answers.Enums.{checked_of, sizes_of}
use Rattle.layout.specs.Reading.Sheets.{sheet_walk}
use Rattle.layout.specs.Sheet.{Sheet}
use Rattle.layout.specs.Walk.{ends, Answer, given, refused, answer, up_to, outcome}
use Rattle.layout.specs.Years.{is_setting}
use Rattle.layout.specs.declared.Refusal.{Refusal}
use Rattle.layout.specs.declared.Sizes.{Sizes}
use Rattle.laws.proofs.Base.Walks.{cond_back, given-ends}
use mathlib.Core.List.{List}
use mathlib.Core.Path.{◌≡◌, refl, sym, ◌∙◌}
use native.Mathlib.Omega.{arith}
use Rattle.std.specs.Prelude.{Result, Ok, Err}

pub by_accepted : (a : Answer Sheet) (z : Sizes) → Ok z ≡ checked_of a → (t : Sheet) × (a ≡ given t) × (z ≡ sizes_of t)
unfolding checked_of
by_accepted (given t) z e = (t, refl, cc)
by_accepted (refused n p y) z e = absurd (let q : ◌≡◌ {A = ℕ} 0 1 = cc in omega arith)

-- an accepted sheet
pub record Seen (y : ℕ) (s : List ℕ) (z : Sizes) : Type 0 where
  pub sheet : Sheet
  pub is : reading y s ≡ given sheet
  pub at : answer (up_to y) (sheet_walk s) ≡ given sheet
  pub sizes : z ≡ sizes_of sheet
  pub read : outcome (sheet_walk s) ≡ ends sheet

pub seen : (y : ℕ) (s : List ℕ) (z : Sizes) (r : Result Sizes Refusal) → r ≡ checked_of (reading y s) → r ≡ Ok z → Seen y s z
unfolding reading
seen y s z r e a =
    let f = by_accepted (reading y s) z (sym a ∙ e) in
    let g : answer (up_to y) (sheet_walk s) ≡ given f.0 = (cond_back (is_setting y) _ _ _ _ f.0 f.1).1 in
    record { sheet = f.0; is = f.1; at = g; sizes = f.2; read = given-ends (up_to y) (sheet_walk s) f.0 g }

by_refusal : (a : Answer Sheet) (q : Refusal) → Err q ≡ checked_of a → a ≡ refused q.reason q.place q.year
unfolding checked_of
by_refusal (given t) q e = absurd (let z : ◌≡◌ {A = ℕ} 0 1 = cc in omega arith)
by_refusal (refused n p y) q e = cc

pub refused-is : (y : ℕ) (s : List ℕ) (q : Refusal) (r : Result Sizes Refusal) → r ≡ checked_of (reading y s) → r ≡ Err q
    → reading y s ≡ refused q.reason q.place q.year
refused-is y s q r e a = by_refusal (reading y s) q (sym a ∙ e)
