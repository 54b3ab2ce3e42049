use native.Mathlib.Omega.{arith}
use mathlib.Core.Logic.{inl, inr}
use mathlib.Core.Path.{refl}
use Rattle.codings.proofs.Laws.Every.{every-has}
use Rattle.codings.proofs.characters.CharactersWay.first_without.Goals as goal

pub returns-in-Dos : goal.returns-in-Dos
returns-in-Dos c = elim c.in-Dos.is [
  | inl e ↦ rw e (every-has 0 _ (λ k. omega (arith, c.type_inv.text k)) (λ k h. refl))
  | inr e ↦ rw e (every-has 2 _ (λ k. omega (arith, c.type_inv.text k)) (λ k h. refl))
]
