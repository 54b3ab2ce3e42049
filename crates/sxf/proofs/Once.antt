-- Each call has one right answer for each input: two results that meet its contract are equal, and so is what they leave in the lent
-- slices.
use Rattle.sxf.proofs.texts.sxf_from_utf16.Kinds as from-kinds
use Rattle.sxf.proofs.texts.sxf_from_utf16.Reads as from-utf16
use Rattle.sxf.proofs.texts.sxf_to_utf16.Kinds as to-kinds
use Rattle.sxf.proofs.texts.sxf_to_utf16.Reads as to-utf16
use Rattle.sxf.proofs.coordinates.sxf_coordinate_of.Kinds as coordinate-of-kinds
use Rattle.sxf.proofs.coordinates.sxf_coordinate_of.Reads as coordinate-of
use Rattle.sxf.proofs.heads.sxf_corners_of.Kinds as corners-of-kinds
use Rattle.sxf.proofs.heads.sxf_corners_of.Reads as corners-of
use Rattle.sxf.proofs.heads.sxf_head_of.Kinds as head-of-kinds
use Rattle.sxf.proofs.heads.sxf_head_of.Reads as head-of
use Rattle.sxf.proofs.heads.sxf_unit_of.Kinds as unit-of-kinds
use Rattle.sxf.proofs.heads.sxf_unit_of.Reads as unit-of
use Rattle.sxf.proofs.values.sxf_value_of.Kinds as value-of-kinds
use Rattle.sxf.proofs.values.sxf_value_of.Reads as value-of
use Rattle.sxf.proofs.values.sxf_visibility_of.Kinds as visibility-of-kinds
use Rattle.sxf.proofs.values.sxf_visibility_of.Reads as visibility-of
use Rattle.sxf.proofs.version.sxf_version.Kinds as version-kinds
use Rattle.sxf.proofs.version.sxf_version.Reads as version
use Rattle.sxf.proofs.hops.sxf_first_with.Kinds as first-with-kinds
use Rattle.sxf.proofs.hops.sxf_first_with.Reads as first-with
use Rattle.sxf.proofs.hops.sxf_frame_of.Kinds as frame-of-kinds
use Rattle.sxf.proofs.hops.sxf_frame_of.Reads as frame-of
use Rattle.sxf.proofs.indexes.sxf_index_build.Kinds as index-build-kinds
use Rattle.sxf.proofs.indexes.sxf_index_build.Reads as index-build
use Rattle.sxf.proofs.indexes.sxf_index_check.Kinds as index-check-kinds
use Rattle.sxf.proofs.indexes.sxf_index_check.Reads as index-check
use Rattle.sxf.proofs.indexes.sxf_index_read.Kinds as index-read-kinds
use Rattle.sxf.proofs.indexes.sxf_index_read.Reads as index-read
use Rattle.sxf.proofs.indexes.sxf_index_select.Kinds as index-select-kinds
use Rattle.sxf.proofs.indexes.sxf_index_select.Reads as index-select
use Rattle.sxf.proofs.indexes.sxf_select.Kinds as select-kinds
use Rattle.sxf.proofs.indexes.sxf_select.Reads as select-sheet
use Rattle.sxf.proofs.records.sxf_record_at.Kinds as record-at-kinds
use Rattle.sxf.proofs.records.sxf_record_at.Reads as record-at
use Rattle.sxf.proofs.sheets.sxf_check.Kinds as check-kinds
use Rattle.sxf.proofs.sheets.sxf_check.Reads as check-sheet
use Rattle.sxf.proofs.sheets.sxf_unfold.Kinds as unfold-kinds
use Rattle.sxf.proofs.sheets.sxf_unfold.Reads as unfold-sheet
use Rattle.sxf.proofs.tables.sxf_write.Kinds as write-kinds
use Rattle.sxf.proofs.tables.sxf_write.Reads as write-sheet
use Rattle.meanings.proofs.Once.{Once}
use borrow.Fn.Kinds.{Dens, res_t, ended_of}
use contract.Lifetimes.{Lfts}
use denote.Triple.Clauses.{AtExit}
use Rattle.std.proofs.Common.{◌≡◌, sym, ◌∙◌}

pub once_sxf_check : Once check-kinds.ps check-kinds.r check-sheet.Post
once_sxf_check κs a x y e f p q = p ∙ sym q

pub once_sxf_unfold : Once unfold-kinds.ps unfold-kinds.r unfold-sheet.Post
once_sxf_unfold κs a x y e f p q = p.0 ∙ sym q.0

pub once_sxf_unfolded : (κs : Lfts 4) (a : Dens κs unfold-kinds.ps) (x y : (res_t unfold-kinds.r κs).Denot)
    (e f : AtExit (ended_of 4 unfold-kinds.ps unfold-kinds.r) κs)
    → unfold-sheet.Post κs a x e → unfold-sheet.Post κs a y f
    → (e.1.1.0.now ≡ f.1.1.0.now) × (e.1.1.1.0.now ≡ f.1.1.1.0.now) × (e.1.1.1.1.0.now ≡ f.1.1.1.1.0.now)
once_sxf_unfolded κs a x y e f p q = (p.1.0 ∙ sym q.1.0, p.1.1.0 ∙ sym q.1.1.0, p.1.1.1 ∙ sym q.1.1.1)

pub once_sxf_write : Once write-kinds.ps write-kinds.r write-sheet.Post
once_sxf_write κs a x y e f p q = p.0 ∙ sym q.0

pub once_sxf_written : (κs : Lfts 10) (a : Dens κs write-kinds.ps) (x y : (res_t write-kinds.r κs).Denot)
    (e f : AtExit (ended_of 10 write-kinds.ps write-kinds.r) κs)
    → write-sheet.Post κs a x e → write-sheet.Post κs a y f
    → e.1.1.1.1.1.1.1.1.1.1.1.0.now ≡ f.1.1.1.1.1.1.1.1.1.1.1.0.now
once_sxf_written κs a x y e f p q = p.1 ∙ sym q.1

pub once_sxf_record_at : Once record-at-kinds.ps record-at-kinds.r record-at.Post
once_sxf_record_at κs a x y e f p q = p ∙ sym q

pub once_sxf_head-of : Once head-of-kinds.ps head-of-kinds.r head-of.Post
once_sxf_head-of κs a x y e f p q = p ∙ sym q

pub once_sxf_unit-of : Once unit-of-kinds.ps unit-of-kinds.r unit-of.Post
once_sxf_unit-of κs a x y e f p q = p ∙ sym q

pub once_sxf_corners-of : Once corners-of-kinds.ps corners-of-kinds.r corners-of.Post
once_sxf_corners-of κs a x y e f p q = p ∙ sym q

pub once_sxf_visibility-of : Once visibility-of-kinds.ps visibility-of-kinds.r visibility-of.Post
once_sxf_visibility-of κs a x y e f p q = p ∙ sym q

pub once_sxf_value-of : Once value-of-kinds.ps value-of-kinds.r value-of.Post
once_sxf_value-of κs a x y e f p q = p ∙ sym q

pub once_sxf_coordinate_of : Once coordinate-of-kinds.ps coordinate-of-kinds.r coordinate-of.Post
once_sxf_coordinate_of κs a x y e f p q = p ∙ sym q

pub once_sxf_to_utf16 : (κs : Lfts 2) (a : Dens κs to-kinds.ps) (x y : (res_t to-kinds.r κs).Denot)
    (e f : AtExit (ended_of 2 to-kinds.ps to-kinds.r) κs)
    → to-utf16.Post κs a x e → to-utf16.Post κs a y f → (x ≡ y) × (e.1.1.0.now ≡ f.1.1.0.now)
once_sxf_to_utf16 κs a x y e f p q = (p.0 ∙ sym q.0, p.1 ∙ sym q.1)

pub once_sxf_from_utf16 : (κs : Lfts 2) (a : Dens κs from-kinds.ps) (x y : (res_t from-kinds.r κs).Denot)
    (e f : AtExit (ended_of 2 from-kinds.ps from-kinds.r) κs)
    → from-utf16.Post κs a x e → from-utf16.Post κs a y f → (x ≡ y) × (e.1.1.0.now ≡ f.1.1.0.now)
once_sxf_from_utf16 κs a x y e f p q = (p.0 ∙ sym q.0, p.1 ∙ sym q.1)

pub once_sxf_index_build : (κs : Lfts 2) (a : Dens κs index-build-kinds.ps) (x y : (res_t index-build-kinds.r κs).Denot)
    (e f : AtExit (ended_of 2 index-build-kinds.ps index-build-kinds.r) κs)
    → index-build.Post κs a x e → index-build.Post κs a y f → (x ≡ y) × (e.1.1.0.now ≡ f.1.1.0.now)
once_sxf_index_build κs a x y e f p q = (p.0 ∙ sym q.0, p.1 ∙ sym q.1)

pub once_sxf_index_check : Once index-check-kinds.ps index-check-kinds.r index-check.Post
once_sxf_index_check κs a x y e f p q = p ∙ sym q

pub once_sxf_index_read : (κs : Lfts 2) (a : Dens κs index-read-kinds.ps) (x y : (res_t index-read-kinds.r κs).Denot)
    (e f : AtExit (ended_of 2 index-read-kinds.ps index-read-kinds.r) κs)
    → index-read.Post κs a x e → index-read.Post κs a y f → (x ≡ y) × (e.1.0.now ≡ f.1.0.now)
once_sxf_index_read κs a x y e f p q = (p.0 ∙ sym q.0, p.1 ∙ sym q.1)

pub once_sxf_index_select : (κs : Lfts 2) (a : Dens κs index-select-kinds.ps) (x y : (res_t index-select-kinds.r κs).Denot)
    (e f : AtExit (ended_of 2 index-select-kinds.ps index-select-kinds.r) κs)
    → index-select.Post κs a x e → index-select.Post κs a y f → (x ≡ y) × (e.1.1.0.now ≡ f.1.1.0.now)
once_sxf_index_select κs a x y e f p q = (p.0 ∙ sym q.0, p.1 ∙ sym q.1)

pub once_sxf_select : (κs : Lfts 2) (a : Dens κs select-kinds.ps) (x y : (res_t select-kinds.r κs).Denot)
    (e f : AtExit (ended_of 2 select-kinds.ps select-kinds.r) κs)
    → select-sheet.Post κs a x e → select-sheet.Post κs a y f → (x ≡ y) × (e.1.1.1.0.now ≡ f.1.1.1.0.now)
once_sxf_select κs a x y e f p q = (p.0 ∙ sym q.0, p.1 ∙ sym q.1)

pub once_sxf_first-with : Once first-with-kinds.ps first-with-kinds.r first-with.Post
once_sxf_first-with κs a x y e f p q = p ∙ sym q

pub once_sxf_frame-of : Once frame-of-kinds.ps frame-of-kinds.r frame-of.Post
once_sxf_frame-of κs a x y e f p q = p ∙ sym q

pub once_sxf_version : Once version-kinds.ps version-kinds.r version.Post
once_sxf_version κs a x y e f p q = p ∙ sym q
