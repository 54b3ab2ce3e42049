-- A sheet read at a setting, and at a year that is none: the setting's refusal is the answer.
use Prim.Native.Nat.{ℕ}
use Rattle.layout.specs.Answers.Calls.{reading}
use Rattle.layout.specs.Answers.Enums.{checked_of}
use Rattle.layout.specs.Reading.Sheets.{sheet_walk}
use Rattle.layout.specs.Walk.{refused, answer, up_to}
use Rattle.layout.specs.declared.Refusal.{Refusal}
use Rattle.meanings.proofs.Laws.Settings.{at_nine, unknown}
use Rattle.meanings.specs.Settings.{year_in, made}
use Rattle.meanings.specs.declared.setting.Setting.{Setting}
use mathlib.Core.List.{List}
use mathlib.Core.Path.{◌≡◌}
use Rattle.std.specs.Prelude.{Result, Err}

pub read_at : (k : Setting) (s : List ℕ) → reading k.year s ≡ answer (up_to k.year) (sheet_walk s)
unfolding reading
read_at k s = at_nine k (answer (up_to k.year) (sheet_walk s))

pub not_read : (y : ℕ) (r : Result Setting Refusal) (q : Refusal) → year_in r ≡ made y → r ≡ Err q → (s : List ℕ)
    → reading y s ≡ refused q.reason q.place q.year
unfolding reading
not_read y r q e f s = unknown y r q e f (answer (up_to y) (sheet_walk s))
