-- A text in which each byte has a character: one of another coding than page 1251, or one without byte 0x98.
use Prim.Native.Nat.{ℕ, ◌<◌}
use mathlib.Core.Bool.{false, ◌&&◌}
use mathlib.Core.List.{List}
use mathlib.Core.Path.{◌≡◌, refl, ◌∙◌}
use borrow.Author.Tests.{le-ltb}
use lib.Dec.{eqb}
use lib.ListN.{length, get_or}
use native.Mathlib.Omega.{arith}
use Rattle.layout.specs.Codings.Tables.{no_character}
use Rattle.layout.specs.Codings.Turning.{character_of, lacks}
use Rattle.laws.proofs.Codings.{only_one}
use Rattle.std.proofs.lemmas.List.Sums.{position_or_len_is}
use Rattle.std.specs.List.{position}
use Rattle.std.specs.Prelude.{None}

module _ (c : ℕ) (xs : List ℕ) (bytes : (k : ℕ) → get_or xs k 0 < 256)
    (others : (k : ℕ) → k < length xs → (eqb c 1 && eqb (get_or xs k 0) 0x98) ≡ false) where
  pub every-has : None ≡ position (lacks (character_of c) no_character) xs
  every-has =
      let all =
      position_or_len_is (lacks (character_of c) no_character) xs (length xs) 0 (omega arith)
      (λ k h. only_one c (get_or xs k 0) (bytes k) ∙ others k h) (λ h. absurd (omega arith)) in
      rw (all, le-ltb (length xs) (length xs) (omega arith)) refl
