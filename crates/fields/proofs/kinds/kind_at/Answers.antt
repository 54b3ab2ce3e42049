-- The kind of the item at a place: of the type that stands there.
use mathlib.Core.Path.{◌∙◌}
use Rattle.fields.proofs.Laws.Kinds.{kind-there}
use Rattle.fields.proofs.kinds.kind_at.Goals as goal

pub returns : goal.returns
returns c =
    c.from.ensures ∙ kind-there c.args.xs.now c.args.at _ c.at.ensures
