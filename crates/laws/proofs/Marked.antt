-- The cases that document 01 marks with (*), shown of the definitions by one theorem over a list of them. (01, Sheets to try)
use Prim.Native.Nat.{ℕ}
use mathlib.Core.List.{List, [], ◌∷◌}
use mathlib.Core.Path.{◌≡◌, refl}
use lib.ListN.{length, take, replicate}
use Rattle.layout.specs.Answers.Calls.{unfolded, written}
use Rattle.layout.specs.Bytes.{All}
use Rattle.layout.specs.Computing.{computing}
use Rattle.layout.specs.Reading.Sheets.{sum_of}
use Rattle.layout.specs.Refusals.{SHORT, SUM, TEXT, TOO_NEW, ASK}
use Rattle.layout.specs.Shared.Visibility.{visibility, scales}
use Rattle.layout.specs.Sheet.{Head, Table}
use Rattle.layout.specs.Walk.{Answer, given, refused}
use Rattle.layout.specs.Writing.Tables.{table}
use Rattle.layout.specs.declared.Scales.{Scales}
use Rattle.std.specs.Prelude.{Option, Some, None}
use Rattle.laws.proofs.Samples.{with, sheet, sheet_e, sheet_p, sheet_q, sheet_m, head_of}

pub data Case : Type 0 where
  -- a sheet has a length and a sum
  measures : List ℕ → ℕ → ℕ → Case
  -- reading a sheet at a setting gives its table, or a refusal
  reads : ℕ → List ℕ → Answer Table → Case
  -- writing a head and a table at a setting gives bytes, or a refusal
  writes : ℕ → Head → Table → Answer (List ℕ) → Case
  -- a generalisation byte's visibility, in a sheet of sheet E's head
  shows : ℕ → Option Scales → Case

-- room enough for each of these sheets
abbrev plenty : ℕ
plenty = 65536

abbrev pub Holds : Case → Type 0
Holds (measures s size sum) = (length s ≡ size) × (sum_of s ≡ sum)
Holds (reads year s a) = unfolded year s (record { numbers = plenty; elements = plenty; bytes = plenty }) ≡ a
Holds (writes year h t a) = written year h t plenty ≡ a
Holds (shows b v) = visibility (head_of (0x41 ∷ [])) b ≡ v

abbrev pub cases : List Case
cases =
    -- E
    measures sheet_e 452 795
    ∷ reads 2017 sheet_e (given (table [] [] []))
    -- "With sum 796: SUM, 12. First 451 bytes: SHORT, 0."
    ∷ reads 2017 (sheet 796 0 []) (refused SUM 12 0)
    ∷ reads 2017 (take 451 sheet_e) (refused SHORT 0 0)
    -- P: "sum 1865. Table 0, 0, 0, 2, 255, 0, 1, 0, 1, 0; elements 3, 4.", with a mark of 0 after items (02, request 2)
    ∷ measures sheet_p 488 1865
    ∷ reads 2017 sheet_p (given (table (0 ∷ 0 ∷ 0 ∷ 2 ∷ 255 ∷ 0 ∷ 1 ∷ 0 ∷ 0 ∷ 1 ∷ 0 ∷ []) (3 ∷ 4 ∷ []) []))
    -- Q: "494 bytes, sum 2384"
    ∷ measures sheet_q 494 2384
    ∷ reads 2017 sheet_q (given (table (0 ∷ 0 ∷ 0 ∷ 514 ∷ 255 ∷ 0 ∷ 1 ∷ 1 ∷ 0 ∷ 1 ∷ 0 ∷ 1 ∷ 2 ∷ 255 ∷ 2 ∷ []) (3 ∷ 4 ∷ []) (0xF9 ∷ 0x04 ∷ [])))
    -- "P with byte 472 = 18, sum 1881: setting 2015 TOO NEW, 472, 2016; 2016 accepted. Setting 2005: ASK."
    ∷ measures sheet_m 488 1881
    ∷ reads 2015 sheet_m (refused TOO_NEW 472 2016)
    ∷ reads 2016 sheet_m (given (table (0 ∷ 0 ∷ 0 ∷ 18 ∷ 255 ∷ 0 ∷ 1 ∷ 0 ∷ 0 ∷ 1 ∷ 0 ∷ []) (3 ∷ 4 ∷ []) []))
    ∷ reads 2005 sheet_p (refused ASK 0 0)
    -- "Designation of 31 is written, of 32 TEXT, 28."
    ∷ writes 2017 (head_of (replicate 31 0x41)) (table [] [] []) (given (with 28 (replicate 31 0x41) (sheet 2745 0 [])))
    ∷ writes 2017 (head_of (replicate 32 0x41)) (table [] [] []) (refused TEXT 28 0)
    -- "Visibility 0x24: 10000 to 10000000 by table 4; 0xFF: unset."
    ∷ shows 0x24 (Some (scales 10000 10000000))
    ∷ shows 0xFF None
    ∷ []

pub marked : All Holds cases
unfolding computing
marked = (
  (refl, refl),
  (
    refl,
    (refl, (refl, ((refl, refl), (refl, ((refl, refl), (refl, ((refl, refl), (refl, (refl, (refl, (refl, (refl, (refl, (refl, tt)))))))))))))),
  ),
)
