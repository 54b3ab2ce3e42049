-- Two cases by the bit for text: the contract of `text_of`, or no text, which takes and counts nothing (`text-none`).
use native.Mathlib.Omega.{arith}
use Rattle.reading_check.proofs.Laws.Texts.{text-none}
use Rattle.reading_check.proofs.parts.text_end.Goals as goal

pub returns-then-text : goal.returns-then-text
returns-then-text c =
    record { means = rw c.if-text.true c.text_of.ensures.means; within = c.text_of.ensures.within }

pub returns : goal.returns
returns c =
    rw c.none.ensures record { means = λ y. text-none y _ _ _ c.if-text.false; within = omega arith }
