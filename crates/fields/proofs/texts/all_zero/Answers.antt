-- `all` says of the bytes what `zeros` says (`zeros-told`).
use mathlib.Core.Path.{◌≡◌}
use borrow.Author.Rules.{rules}
use borrow.Author.Tests.{tests}
use Rattle.std.proofs.lemmas.Iterator.{cases_from_all, YieldsList-from_slice}
use Rattle.fields.proofs.Laws.Lists.{zeros-told}
use Rattle.fields.proofs.texts.all_zero.Goals as goal

pub returns : goal.returns
returns c =
    zeros-told c.args.s.now c.all.result
    (cases_from_all _ _ _ (λ x. x ≡ 0) (λ x. x ≡ 0 → ⊥) c.all.ensures.ran (YieldsList-from_slice c.args.s.now c.iter.ensures.rest)
    (λ x q k. search (rules, tests)) (λ x q k. search (rules, tests)))
