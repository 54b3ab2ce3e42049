-- Each public call has one right answer for each input: two results that meet its contract are equal, and so is what they leave in the
-- lent slices. The contracts are those of src/ as the check reads them, so that a contract that says less is refused here.
use Rattle.reading.proofs.records.record_at.Kinds as record-at-kinds
use Rattle.reading.proofs.records.record_at.Reads as record-at
use Rattle.reading.proofs.heads.head_of.Kinds as head-of-kinds
use Rattle.reading.proofs.heads.head_of.Reads as head-of
use Rattle.reading.proofs.heads.unit_of.Kinds as unit-of-kinds
use Rattle.reading.proofs.heads.unit_of.Reads as unit-of
use Rattle.reading.proofs.heads.corners_of.Kinds as corners-of-kinds
use Rattle.reading.proofs.heads.corners_of.Reads as corners-of
use Rattle.reading.proofs.sheets.check.Kinds as check-kinds
use Rattle.reading.proofs.sheets.check.Reads as check-sheet
use Rattle.reading.proofs.sheets.unfold.Kinds as unfold-kinds
use Rattle.reading.proofs.sheets.unfold.Reads as unfold-sheet
use Rattle.reading.proofs.sheets.check_by_year.Kinds as check-by-year-kinds
use Rattle.reading.proofs.sheets.check_by_year.Reads as check-by-year
use Rattle.reading.proofs.sheets.unfold_by_year.Kinds as unfold-by-year-kinds
use Rattle.reading.proofs.sheets.unfold_by_year.Reads as unfold-by-year
use Rattle.reading.proofs.records.record_by_year.Kinds as record-by-year-kinds
use Rattle.reading.proofs.records.record_by_year.Reads as record-by-year
use Rattle.reading.proofs.heads.head_by_year.Kinds as head-by-year-kinds
use Rattle.reading.proofs.heads.head_by_year.Reads as head-by-year
use Rattle.reading.proofs.heads.unit_by_year.Kinds as unit-by-year-kinds
use Rattle.reading.proofs.heads.unit_by_year.Reads as unit-by-year
use Rattle.reading.proofs.heads.corners_by_year.Kinds as corners-by-year-kinds
use Rattle.reading.proofs.heads.corners_by_year.Reads as corners-by-year
use Rattle.meanings.proofs.Once.{Once}
use borrow.Fn.Kinds.{Dens, res_t, ended_of}
use contract.Lifetimes.{Lfts}
use denote.Triple.Clauses.{AtExit}
use mathlib.Core.Path.{◌≡◌, sym, ◌∙◌}

pub once_check : Once check-kinds.ps check-kinds.r check-sheet.Post
once_check κs a x y e f p q = p ∙ sym q

pub once_unfold : Once unfold-kinds.ps unfold-kinds.r unfold-sheet.Post
once_unfold κs a x y e f p q = p.0 ∙ sym q.0

-- the slices follow the sheet and the setting
pub once_unfolded : (κs : Lfts 4) (a : Dens κs unfold-kinds.ps) (x y : (res_t unfold-kinds.r κs).Denot)
    (e f : AtExit (ended_of 4 unfold-kinds.ps unfold-kinds.r) κs)
    → unfold-sheet.Post κs a x e → unfold-sheet.Post κs a y f
    → (e.1.1.0.now ≡ f.1.1.0.now) × (e.1.1.1.0.now ≡ f.1.1.1.0.now) × (e.1.1.1.1.0.now ≡ f.1.1.1.1.0.now)
once_unfolded κs a x y e f p q = (p.1.0 ∙ sym q.1.0, p.1.1.0 ∙ sym q.1.1.0, p.1.1.1 ∙ sym q.1.1.1)

pub once_record_at : Once record-at-kinds.ps record-at-kinds.r record-at.Post
once_record_at κs a x y e f p q = p ∙ sym q

pub once_head-of : Once head-of-kinds.ps head-of-kinds.r head-of.Post
once_head-of κs a x y e f p q = p ∙ sym q

pub once_unit-of : Once unit-of-kinds.ps unit-of-kinds.r unit-of.Post
once_unit-of κs a x y e f p q = p ∙ sym q

pub once_corners-of : Once corners-of-kinds.ps corners-of-kinds.r corners-of.Post
once_corners-of κs a x y e f p q = p ∙ sym q

-- the same calls by year
pub once_check_by_year : Once check-by-year-kinds.ps check-by-year-kinds.r check-by-year.Post
once_check_by_year κs a x y e f p q = p ∙ sym q

pub once_unfold_by_year : Once unfold-by-year-kinds.ps unfold-by-year-kinds.r unfold-by-year.Post
once_unfold_by_year κs a x y e f p q = p.0 ∙ sym q.0

pub once_unfolded_by_year : (κs : Lfts 4) (a : Dens κs unfold-by-year-kinds.ps) (x y : (res_t unfold-by-year-kinds.r κs).Denot)
    (e f : AtExit (ended_of 4 unfold-by-year-kinds.ps unfold-by-year-kinds.r) κs) → unfold-by-year.Post κs a x e → unfold-by-year.Post κs a y f
    → (e.1.1.0.now ≡ f.1.1.0.now) × (e.1.1.1.0.now ≡ f.1.1.1.0.now) × (e.1.1.1.1.0.now ≡ f.1.1.1.1.0.now)
once_unfolded_by_year κs a x y e f p q = (p.1.0 ∙ sym q.1.0, p.1.1.0 ∙ sym q.1.1.0, p.1.1.1 ∙ sym q.1.1.1)

pub once_record_by_year : Once record-by-year-kinds.ps record-by-year-kinds.r record-by-year.Post
once_record_by_year κs a x y e f p q = p ∙ sym q

pub once_head_by_year : Once head-by-year-kinds.ps head-by-year-kinds.r head-by-year.Post
once_head_by_year κs a x y e f p q = p ∙ sym q

pub once_unit_by_year : Once unit-by-year-kinds.ps unit-by-year-kinds.r unit-by-year.Post
once_unit_by_year κs a x y e f p q = p ∙ sym q

pub once_corners_by_year : Once corners-by-year-kinds.ps corners-by-year-kinds.r corners-by-year.Post
once_corners_by_year κs a x y e f p q = p ∙ sym q
