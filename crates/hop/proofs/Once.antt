-- Each call has one right answer for each input: two results that meet its contract are equal. The contracts are those of src/ as the check reads
-- them, so that a contract that says less is refused here.
use Rattle.hop.proofs.sheets.first_with.Kinds as first-with-kinds
use Rattle.hop.proofs.sheets.first_with.Reads as first-with
use Rattle.hop.proofs.sheets.frame_of.Kinds as frame-kinds
use Rattle.hop.proofs.sheets.frame_of.Reads as frame-of
use borrow.Fn.Kinds.{Dens, res_t, ended_of}
use contract.Lifetimes.{Lfts}
use denote.Triple.Clauses.{AtExit}
use mathlib.Core.Path.{◌≡◌, sym, ◌∙◌}

pub once_first-with : (κs : Lfts 1) (a : Dens κs first-with-kinds.ps) (x y : (res_t first-with-kinds.r κs).Denot)
    (e f : AtExit (ended_of 1 first-with-kinds.ps first-with-kinds.r) κs) → first-with.Post κs a x e → first-with.Post κs a y f → x ≡ y
once_first-with κs a x y e f p q = p ∙ sym q

pub once_frame-of : (κs : Lfts 1) (a : Dens κs frame-kinds.ps) (x y : (res_t frame-kinds.r κs).Denot)
    (e f : AtExit (ended_of 1 frame-kinds.ps frame-kinds.r) κs) → frame-of.Post κs a x e → frame-of.Post κs a y f → x ≡ y
once_frame-of κs a x y e f p q = p ∙ sym q
