-- A sheet that is read.
use Rattle.std.specs.Prelude.{List, ◌≡◌, ℕ}
use Rattle.layout.specs.Reading.Sheets.{sheet_walk}
use Rattle.layout.specs.Sheet.{Sheet}
use Rattle.layout.specs.Walk.{outcome, ends}

-- s is read as a sheet
pub record Read (s : List ℕ) : Type 0 where
  pub sheet : Sheet
  pub read : outcome (sheet_walk s) ≡ ends sheet
