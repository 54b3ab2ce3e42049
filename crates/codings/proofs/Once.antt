-- Each call has one right answer for each input: two results that meet its contract are equal, and so is what they leave in the lent slice.
-- The contracts are those of src/ as the check reads them, so that a contract that says less is refused here.
use Rattle.codings.proofs.utf16.from_utf16.Kinds as from-kinds
use Rattle.codings.proofs.utf16.from_utf16.Reads as from-utf16
use Rattle.codings.proofs.utf16.to_utf16.Kinds as to-kinds
use Rattle.codings.proofs.utf16.to_utf16.Reads as to-utf16
use borrow.Fn.Kinds.{Dens, res_t, ended_of}
use contract.Lifetimes.{Lfts}
use denote.Triple.Clauses.{AtExit}
use mathlib.Core.Path.{◌≡◌, sym, ◌∙◌}

pub once_to_utf16 : (κs : Lfts 2) (a : Dens κs to-kinds.ps) (x y : (res_t to-kinds.r κs).Denot) (e f : AtExit (ended_of 2 to-kinds.ps to-kinds.r) κs)
    → to-utf16.Post κs a x e → to-utf16.Post κs a y f → (x ≡ y) × (e.1.1.0.now ≡ f.1.1.0.now)
once_to_utf16 κs a x y e f p q = (p.0 ∙ sym q.0, p.1 ∙ sym q.1)

pub once_from_utf16 : (κs : Lfts 2) (a : Dens κs from-kinds.ps) (x y : (res_t from-kinds.r κs).Denot)
    (e f : AtExit (ended_of 2 from-kinds.ps from-kinds.r) κs)
    → from-utf16.Post κs a x e → from-utf16.Post κs a y f → (x ≡ y) × (e.1.1.0.now ≡ f.1.1.0.now)
once_from_utf16 κs a x y e f p q = (p.0 ∙ sym q.0, p.1 ∙ sym q.1)
