-- What pass 1 answers of a head and a table, and what is then known of the sheet that is to be written.
use Rattle.std.specs.Prelude.{List, ◌≡◌, ℕ, ◌≤◌, length}
use Rattle.layout.specs.Answers.Calls.{and_then, in_room}
use Rattle.layout.specs.Answers.Enums.{result_of}
use Rattle.layout.specs.Layout.Encode.{encode}
use Rattle.layout.specs.Layout.Fine.{Fine}
use Rattle.layout.specs.Layout.Sizes.{sum_by, record_bytes}
use Rattle.layout.specs.Shared.Tails.{AllClean}
use Rattle.layout.specs.Sheet.{Head, Sheet, Table}
use Rattle.layout.specs.Walk.{Answer, answer, up_to}
use Rattle.layout.specs.Writing.Sheets.{table_walk}
use Rattle.layout.specs.Writing.Tables.{flatten}
use Rattle.writing_check.specs.declared.tables.Totals.{Totals}
use Rattle.layout.specs.declared.Refusal.{Refusal}
use Rattle.std.specs.Prelude.{Result}

abbrev pub totals_of : Sheet → Totals
totals_of u = record { length = sum_by record_bytes u.records; records = length u.records }

abbrev pub measured_of : Answer Sheet → Result Totals Refusal
measured_of a = result_of totals_of a

-- a fine and clean sheet of that head and that table has those totals, and fits a room
pub record Ready (h : Head) (t : Table) (z : Totals) (ol : ℕ) : Type 0 where
  pub sheet : Sheet
  pub fine : Fine sheet
  pub clean : AllClean sheet.tails
  pub head : sheet.head ≡ h
  pub records : flatten sheet.records ≡ t
  pub totals : z ≡ totals_of sheet
  pub room : length (encode sheet) ≤ ol

-- the writer's answer, once the setting is known to be one of nine
abbrev pub written_at : ℕ → Head → Table → ℕ → Answer (List ℕ)
written_at year h t room = and_then (answer (up_to year) (table_walk h t)) (λ u. in_room room (encode u))
