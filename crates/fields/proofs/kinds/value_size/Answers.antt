-- The size of the value at a place: what stands before a long value, and for any other what type and scale say.
use mathlib.Core.Path.{sym, ◌∙◌}
use native.Mathlib.Omega.{arith}
use Rattle.fields.specs.Kinds.{kind_by}
use Rattle.fields.proofs.Laws.Kinds.{size-long, size-short}
use Rattle.fields.proofs.kinds.value_size.Goals as goal

pub returns-then-is_long : goal.returns-then-is_long
returns-then-is_long c = (
  size-long c.args.xs.now c.args.at (kind_by c.args.k) c.requires.0
      (sym c.is_long.ensures ∙ c.if-is_long.true) _ c.at.ensures,
  omega arith,
)

pub returns : goal.returns
returns c = (
  size-short c.args.xs.now c.args.at (kind_by c.args.k) c.requires.0
      (sym c.is_long.ensures ∙ c.if-is_long.false) _ _ c.at-2.ensures c.value_length.ensures.0,
  omega arith,
)
