-- A double that `meanings` answers is a number (`value_defined`).
use Rattle.std.proofs.Common.{sym, ◌∙◌}
use Rattle.sxf.proofs.Laws.Numbers.{value_defined}
use Rattle.sxf.proofs.values.sxf_value_of.Goals as goal

pub row_of-requires : goal.row_of-requires
row_of-requires c = λ x e. value_defined _ x (sym c.value_of.ensures ∙ e)
