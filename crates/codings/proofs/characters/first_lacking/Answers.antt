use native.Mathlib.Omega.{arith}
use Rattle.codings.proofs.Laws.Every.{every-has}
use Rattle.codings.proofs.characters.first_lacking.Goals as goal

pub returns-then-not-contains : goal.returns-then-not-contains
returns-then-not-contains c = every-has 1 _ (λ k. omega (arith, c.type_inv.text k)) (λ k h. c.if-not-contains.ensures.cases k 0 (omega arith) h)
