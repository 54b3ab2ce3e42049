-- What the answer of a call that writes says of the definition's answer: a length, that a list of that length was given; a refusal, that refusal.
use mathlib.Core.List.{List}
use mathlib.Core.Path.{◌≡◌, refl}
use Prim.Native.Nat.{ℕ}
use lib.ListN.{length}
use native.Mathlib.Omega.{arith}
use Rattle.layout.specs.Answers.Enums.{written_of}
use Rattle.layout.specs.Walk.{Answer, given, refused}
use Rattle.layout.specs.declared.Refusal.{Refusal}
use Rattle.std.specs.Prelude.{Ok, Err}

pub by_length : (a : Answer (List ℕ)) (n : ℕ) → Ok n ≡ written_of a → (s : List ℕ) × (a ≡ given s) × (n ≡ length s)
unfolding written_of
by_length (given s) n e = (s, refl, cc)
by_length (refused m p z) n e = absurd (let x : ◌≡◌ {A = ℕ} 0 1 = cc in omega arith)

pub by_refusal : (a : Answer (List ℕ)) (q : Refusal) → Err q ≡ written_of a → a ≡ refused q.reason q.place q.year
unfolding written_of
by_refusal (given t) q e = absurd (let i : ◌≡◌ {A = ℕ} 0 1 = cc in omega arith)
by_refusal (refused n p y) q e = cc
