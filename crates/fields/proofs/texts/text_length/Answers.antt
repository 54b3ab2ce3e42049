-- The place of the first zero, or the length where there is none, is how long the text is (`text-found`).
use mathlib.Core.Path.{◌≡◌, ◌∙◌}
use borrow.Author.Rules.{rules}
use borrow.Author.Tests.{tests}
use Rattle.std.proofs.lemmas.Iterator.{IsFirst-from_position, YieldsList-from_slice}
use Rattle.fields.proofs.Laws.Lists.{text-found}
use Rattle.fields.proofs.texts.text_length.Goals as goal

pub returns : goal.returns
returns c =
    c.unwrap_or.ensures
    ∙ text-found c.args.s.now c.position.result
    (IsFirst-from_position _ _ _ (λ x. x ≡ 0) (λ x. x ≡ 0 → ⊥) c.position.ensures.ran (YieldsList-from_slice c.args.s.now c.iter.ensures.rest)
    (λ x q k. search (rules, tests)) (λ x q k. search (rules, tests)))
