-- Three answers: too few bytes for the length byte or for the text (`text-short`), a closing zero (`text-fine`), or another byte (`text_open`).
use mathlib.Core.Path.{refl}
use native.Mathlib.Omega.{arith}
use Rattle.reading_check.proofs.Laws.Texts.{text-short, text-fine, text_open}
use borrow.Author.Rules.{rules}
use Rattle.reading_check.proofs.parts.text_of.Goals as goal

pub returns-then-xs-lt1 : goal.returns-then-xs-lt1
returns-then-xs-lt1 c =
    rw c.refused.ensures (record { means = λ y. text-short y _ _ _ refl (omega arith); within = tt })

pub returns-then-xs-n : goal.returns-then-xs-n
returns-then-xs-n c =
    rw c.refused-then-xs-n.ensures (record { means = λ y. text-short y _ _ _ c.at-n.ensures (omega arith); within = tt })

pub returns-then-at-ne0 : goal.returns-then-at-ne0
returns-then-at-ne0 c =
    rw c.refused-then-at-ne0.ensures (record { means = λ y. text_open y _ _ _ c.at-n.ensures (omega arith) (search rules) _ (omega arith); within = tt })

pub returns : goal.returns
returns c =
    record { means = λ y. text-fine y _ _ _ c.at-n.ensures (omega arith) (search rules); within = omega arith }
