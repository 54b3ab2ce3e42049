-- The ways out of the text of a part, over plain variables.
use mathlib.Core.Bool.{Bool, true, false}
use mathlib.Core.List.{List}
use mathlib.Core.Path.{◌≡◌}
use Prim.Native.Nat.{ℕ, ◌+◌, ◌≤◌, ◌<◌}
use borrow.Author.Tests.{le-leb, lt-leb, eq-eqb, ne_eqb}
use lib.ListN.{length, take, drop, length-drop}
use lib.Seq.{length-take-le}
use native.Mathlib.Nat.{add-zero}
use native.Mathlib.Omega.{arith}
use Rattle.reading_check.specs.Tally.{tally, text_table, shown}
use Rattle.layout.specs.Answers.Enums.{refusal}
use Rattle.layout.specs.Bytes.{number}
use Rattle.layout.specs.Reading.Parts.{text_walk}
use Rattle.layout.specs.Refusals.{LENGTH, TEXT}
use Rattle.std.specs.Prelude.{Ok, Err}

pub text-none : (y p : ℕ) (xs : List ℕ) (text : Bool) → text ≡ false
    → Ok (record { used = 0; numbers = 0; elements = 0; bytes = 0 }) ≡ shown (tally text_table) y (text_walk text p xs)
unfolding text_walk
text-none y p xs text e = simp e

module _ (y p n : ℕ) (xs : List ℕ) (e : n ≡ number 1 xs) where
  pub text-short : length xs < n + 2 → Err (refusal LENGTH p 0) ≡ shown (tally text_table) y (text_walk true p xs)
  unfolding text_walk
  text-short h = simp (← e, lt-leb (n + 2) (length xs) h, add-zero)

  module _ (h : n + 2 ≤ length xs) where
    pub text-fine : number 1 (drop (n + 1) xs) ≡ 0
        → Ok (record { used = n + 2; numbers = 0; elements = 0; bytes = n }) ≡ shown (tally text_table) y (text_walk true p xs)
    unfolding text_walk
    text-fine z =
        let l : length (take n (drop 1 xs)) ≡ n = length-take-le n (drop 1 xs) (omega (arith, length-drop 1 xs)) in
        simp (← e, le-leb (n + 2) (length xs) h, eq-eqb _ _ z, l)

    pub text_open : (number 1 (drop (n + 1) xs) ≡ 0 → ⊥) → (place : ℕ) → place ≡ p + (n + 1)
        → Err (refusal TEXT place 0) ≡ shown (tally text_table) y (text_walk true p xs)
    unfolding text_walk
    text_open z place q = simp (← e, le-leb (n + 2) (length xs) h, ne_eqb _ _ z, q)
