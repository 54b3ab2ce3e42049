-- Each call has one right answer for each input: two results that meet its contract are equal, and so is what they leave in the lent slice.
-- The contracts are those of src/ as the check reads them, so that a contract that says less is refused here.
use Rattle.index.proofs.files.check.Kinds as check-kinds
use Rattle.index.proofs.files.check.Reads as check
use Rattle.index.proofs.files.read.Kinds as read-kinds
use Rattle.index.proofs.files.read.Reads as read
use Rattle.index.proofs.files.select.Kinds as select-kinds
use Rattle.index.proofs.files.select.Reads as select
use Rattle.index.proofs.sheets.build.Kinds as build-kinds
use Rattle.index.proofs.sheets.build.Reads as build
use Rattle.index.proofs.sheets.build_by_year.Kinds as build-year-kinds
use Rattle.index.proofs.sheets.build_by_year.Reads as build-year
use Rattle.index.proofs.sheets.select.Kinds as sheet-select-kinds
use Rattle.index.proofs.sheets.select.Reads as sheet-select
use Rattle.index.proofs.sheets.select_by_year.Kinds as select-year-kinds
use Rattle.index.proofs.sheets.select_by_year.Reads as select-year
use borrow.Fn.Kinds.{Dens, res_t, ended_of}
use contract.Lifetimes.{Lfts}
use denote.Triple.Clauses.{AtExit}
use mathlib.Core.Path.{◌≡◌, sym, ◌∙◌}

pub once_check : (κs : Lfts 1) (a : Dens κs check-kinds.ps) (x y : (res_t check-kinds.r κs).Denot) (e f : AtExit (ended_of 1 check-kinds.ps check-kinds.r) κs)
    → check.Post κs a x e → check.Post κs a y f → x ≡ y
once_check κs a x y e f p q = p ∙ sym q

pub once_read : (κs : Lfts 2) (a : Dens κs read-kinds.ps) (x y : (res_t read-kinds.r κs).Denot) (e f : AtExit (ended_of 2 read-kinds.ps read-kinds.r) κs)
    → read.Post κs a x e → read.Post κs a y f → (x ≡ y) × (e.1.0.now ≡ f.1.0.now)
once_read κs a x y e f p q = (p.0 ∙ sym q.0, p.1 ∙ sym q.1)

pub once_select : (κs : Lfts 2) (a : Dens κs select-kinds.ps) (x y : (res_t select-kinds.r κs).Denot) (e f : AtExit (ended_of 2 select-kinds.ps select-kinds.r) κs)
    → select.Post κs a x e → select.Post κs a y f → (x ≡ y) × (e.1.1.0.now ≡ f.1.1.0.now)
once_select κs a x y e f p q = (p.0 ∙ sym q.0, p.1 ∙ sym q.1)

pub once_build : (κs : Lfts 2) (a : Dens κs build-kinds.ps) (x y : (res_t build-kinds.r κs).Denot) (e f : AtExit (ended_of 2 build-kinds.ps build-kinds.r) κs)
    → build.Post κs a x e → build.Post κs a y f → (x ≡ y) × (e.1.1.0.now ≡ f.1.1.0.now)
once_build κs a x y e f p q = (p.0 ∙ sym q.0, p.1 ∙ sym q.1)

pub once_build_by_year : (κs : Lfts 2) (a : Dens κs build-year-kinds.ps) (x y : (res_t build-year-kinds.r κs).Denot)
    (e f : AtExit (ended_of 2 build-year-kinds.ps build-year-kinds.r) κs)
    → build-year.Post κs a x e → build-year.Post κs a y f → (x ≡ y) × (e.1.1.0.now ≡ f.1.1.0.now)
once_build_by_year κs a x y e f p q = (p.0 ∙ sym q.0, p.1 ∙ sym q.1)

pub once_select_sheet : (κs : Lfts 2) (a : Dens κs sheet-select-kinds.ps) (x y : (res_t sheet-select-kinds.r κs).Denot)
    (e f : AtExit (ended_of 2 sheet-select-kinds.ps sheet-select-kinds.r) κs)
    → sheet-select.Post κs a x e → sheet-select.Post κs a y f → (x ≡ y) × (e.1.1.1.0.now ≡ f.1.1.1.0.now)
once_select_sheet κs a x y e f p q = (p.0 ∙ sym q.0, p.1 ∙ sym q.1)

pub once_select_by_year : (κs : Lfts 2) (a : Dens κs select-year-kinds.ps) (x y : (res_t select-year-kinds.r κs).Denot)
    (e f : AtExit (ended_of 2 select-year-kinds.ps select-year-kinds.r) κs)
    → select-year.Post κs a x e → select-year.Post κs a y f → (x ≡ y) × (e.1.1.1.0.now ≡ f.1.1.1.0.now)
once_select_by_year κs a x y e f p q = (p.0 ∙ sym q.0, p.1 ∙ sym q.1)
