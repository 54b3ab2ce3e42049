-- What pass 1 of the writer answers of a table.
use Rattle.std.specs.Prelude.{List, length}
use Rattle.layout.specs.Answers.Enums.{result_of}
use Rattle.layout.specs.Layout.Sizes.{sum_by, record_bytes}
use Rattle.layout.specs.Sheet.{Record}
use Rattle.layout.specs.Walk.{Answer}
use Rattle.writing_check.specs.Places.{capped}
use Rattle.writing_check.specs.declared.tables.Totals.{Totals}
use Rattle.layout.specs.declared.Refusal.{Refusal}
use Rattle.std.specs.Prelude.{Result}

-- the bytes of all records together, past the limit as one more than it; and how many records there are
abbrev pub totals_of : List Record → Totals
totals_of rs = record { length = capped (sum_by record_bytes rs); records = length rs }

abbrev pub rows_of : Answer (List Record) → Result Totals Refusal
rows_of a = result_of totals_of a
