-- The call has one right answer for each input: two results that meet its contract are equal, and so is what they leave in the lent
-- slice. The contract is that of src/ as the check reads it, so that a contract that says less is refused here.
use Rattle.meanings.proofs.Once.{Once}
use Rattle.writing.proofs.sheets.write.Kinds as write-kinds
use Rattle.writing.proofs.sheets.write.Reads as write-sheet
use Rattle.writing.proofs.sheets.write_by_year.Kinds as write-by-year-kinds
use Rattle.writing.proofs.sheets.write_by_year.Reads as write-by-year
use borrow.Fn.Kinds.{Dens, res_t, ended_of}
use contract.Lifetimes.{Lfts}
use denote.Triple.Clauses.{AtExit}
use mathlib.Core.Path.{◌≡◌, sym, ◌∙◌}

pub once_write : Once write-kinds.ps write-kinds.r write-sheet.Post
once_write κs a x y e f p q = p.0 ∙ sym q.0

-- the slice is the twelfth parameter
pub once_written : (κs : Lfts 10) (a : Dens κs write-kinds.ps) (x y : (res_t write-kinds.r κs).Denot) (e f : AtExit (ended_of 10 write-kinds.ps write-kinds.r) κs)
    → write-sheet.Post κs a x e → write-sheet.Post κs a y f
    → e.1.1.1.1.1.1.1.1.1.1.1.0.now ≡ f.1.1.1.1.1.1.1.1.1.1.1.0.now
once_written κs a x y e f p q = p.1 ∙ sym q.1

-- the same call by year
pub once_write_by_year : Once write-by-year-kinds.ps write-by-year-kinds.r write-by-year.Post
once_write_by_year κs a x y e f p q = p.0 ∙ sym q.0

pub once_written_by_year : (κs : Lfts 10) (a : Dens κs write-by-year-kinds.ps) (x y : (res_t write-by-year-kinds.r κs).Denot)
    (e f : AtExit (ended_of 10 write-by-year-kinds.ps write-by-year-kinds.r) κs) → write-by-year.Post κs a x e → write-by-year.Post κs a y f
    → e.1.1.1.1.1.1.1.1.1.1.1.0.now ≡ f.1.1.1.1.1.1.1.1.1.1.1.0.now
once_written_by_year κs a x y e f p q = p.1 ∙ sym q.1
