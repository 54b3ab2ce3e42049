-- Two cases, as in `good_first`: under the mark the word decides, and otherwise the count alone.
use borrow.Author.Tests.{ne_eqb}
use mathlib.Core.Path.{refl}
use Rattle.writing_check.proofs.parts.good_first.Goals as goal

pub returns-then-mark-eq1 : goal.returns-then-mark-eq1
returns-then-mark-eq1 c = rw c.if-mark-eq1.true refl

pub returns : goal.returns
returns c = rw (ne_eqb c.args.mark 1 c.if-mark-eq1.false) refl
