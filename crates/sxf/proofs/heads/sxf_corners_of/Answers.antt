-- The answer's doubles are numbers (`sheet_defined`), since the reader gives bits where one is a NaN.
use Rattle.std.proofs.Common.{sym, ◌∙◌}
use Rattle.sxf.proofs.Corners.{sheet_defined}
use Rattle.sxf.proofs.heads.sxf_corners_of.Goals as goal

pub row_of-requires : goal.row_of-requires
row_of-requires c = λ x e. sheet_defined _ x (sym c.corners_by_year.ensures ∙ e)
