-- The records of a sheet, and a sheet whose head is let through.
use Rattle.std.specs.Prelude.{List, ◌≡◌, ℕ, ◌≤◌, length, drop}
use Rattle.layout.specs.Bytes.{number}
use Rattle.layout.specs.Fields.{limit}
use Rattle.layout.specs.Reading.Records.{record_walk}
use Rattle.layout.specs.Sheet.{Record}
use Rattle.layout.specs.Walk.{Walk, given, answer, up_to, checks, Piece, times}
use Rattle.reading_head.specs.Checks.{head_checks}

-- the records of a sheet, as many as its descriptor says
abbrev pub records_in : List ℕ → Walk (Piece (List Record))
records_in s = times (number 4 (drop 440 s)) record_walk 452 (drop 452 s)

-- a sheet within its two limits, whose passport and descriptor hold at a setting
pub record Headed (s : List ℕ) (year : ℕ) : Type 0 where
  pub short : length s ≤ limit
  pub long : 452 ≤ length s
  pub head : answer (up_to year) (checks 0 (head_checks s)) ≡ given tt
