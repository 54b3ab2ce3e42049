-- The codings by their numbers.
use Rattle.std.specs.Prelude.{ℕ, ◌≡◌, ◌<◌, ◌≤◌, Result, MatchResult}
use Rattle.std.proofs.Common.{arith}
use Rattle.layout.specs.Answers.Enums.{refusal}
use Rattle.layout.specs.Refusals.{ASK}
use Rattle.layout.specs.declared.Refusal.{Refusal}
use Rattle.codings.specs.declared.coding.Coding.{Coding}
use Rattle.codings.specs.declared.coding.Coding.TheVariants.{Dos, Windows, Koi8}

-- the number at passport byte 97
abbrev pub number_of : Coding → ℕ
number_of Dos = 0
number_of Windows = 1
number_of Koi8 = 2

-- the coding of this number, or ASK at 0, where it is above the three
abbrev pub Names : ℕ → Result Coding Refusal → Type 0
Names number r = MatchResult r (λ coding. number_of coding ≡ number) (λ refused. (refused ≡ refusal ASK 0 0) × (2 < number))

pub number_le : (coding : Coding) → number_of coding ≤ 2
number_le Dos = omega arith
number_le Windows = omega arith
number_le Koi8 = omega arith
