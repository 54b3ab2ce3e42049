-- What pass 1 answers of the tables of document 01's sheets P and Q, and of tables near them.
use Prim.Native.Nat.{ℕ, ◌-◌, ◌^◌}
use mathlib.Core.List.{List, [], ◌∷◌, ◌++◌}
use mathlib.Core.Path.{◌≡◌, refl}
use Rattle.layout.specs.Answers.Enums.{refusal}
use Rattle.layout.specs.Computing.{computing}
use Rattle.layout.specs.Layout.Sizes.{record_bytes}
use Rattle.layout.specs.Refusals.{TABLE}
use Rattle.layout.specs.Walk.{answer, up_to}
use Rattle.layout.specs.Writing.Rows.{rows_walk}
use Rattle.layout.specs.Writing.Tables.{table}
use Rattle.writing_check.specs.Tables.{rows_of}
use Rattle.writing_check.specs.declared.tables.Totals.{Totals}
use Rattle.layout.specs.declared.Refusal.{Refusal}
use Rattle.layout.specs.declared.refusals.Reason.{Reason}
use Rattle.std.specs.Prelude.{Result, Ok, Err}

abbrev taken : ℕ → List ℕ → List ℕ → List ℕ → Result Totals Refusal
taken year ns es bs = rows_of (answer (up_to year) (rows_walk (table ns es bs)))

abbrev fine : ℕ → ℕ → Result Totals Refusal
fine length records = Ok (record { length = length; records = records })

abbrev stop : Reason → ℕ → ℕ → Result Totals Refusal
stop reason place year = Err (refusal reason place year)

-- the numbers of P and of Q
abbrev p : List ℕ
p = 0 ∷ 0 ∷ 0 ∷ 2 ∷ 255 ∷ 0 ∷ 1 ∷ 0 ∷ 0 ∷ 1 ∷ 0 ∷ []

abbrev q : List ℕ
q = 0 ∷ 0 ∷ 0 ∷ 514 ∷ 255 ∷ 0 ∷ 1 ∷ 1 ∷ 0 ∷ 1 ∷ 0 ∷ 1 ∷ 2 ∷ 255 ∷ 2 ∷ []

-- a row with so many parts and items, and no more numbers than P has
abbrev calls : ℕ → ℕ → List ℕ
calls parts items = 0 ∷ 0 ∷ 0 ∷ 2 ∷ 255 ∷ 0 ∷ parts ∷ items ∷ 0 ∷ 1 ∷ 0 ∷ []

cases : (taken 2017 [] [] [] ≡ fine 0 0) × (taken 2017 p (3 ∷ 4 ∷ []) [] ≡ fine 36 1) × (taken 2017 q (3 ∷ 4 ∷ []) (249 ∷ 4 ∷ []) ≡ fine 42 1)
    × (taken 2017 (p ++ q) (3 ∷ 4 ∷ 5 ∷ 6 ∷ []) (249 ∷ 4 ∷ []) ≡ fine 78 2)
    -- a pool left over, a pool that ends early, an element too wide, in the second row
    × (taken 2017 (p ++ p) (3 ∷ 4 ∷ 5 ∷ 6 ∷ 7 ∷ []) [] ≡ stop TABLE 22 0) × (taken 2017 (p ++ p) (3 ∷ 4 ∷ 5 ∷ 6 ∷ []) (7 ∷ []) ≡ stop TABLE 22 0)
    × (taken 2017 (p ++ p) (3 ∷ 4 ∷ 5 ∷ []) [] ≡ stop TABLE 20 0) × (taken 2017 (p ++ p) (3 ∷ 4 ∷ 5 ∷ 65536 ∷ []) [] ≡ stop TABLE 20 0)
    -- numbers that are not there, with counts near 2^64; a row cut short; no part
    × (taken 2017 (calls (2 ^ 63) 0) (3 ∷ 4 ∷ []) [] ≡ stop TABLE 0 0) × (taken 2017 (calls (2 ^ 64 - 1) (2 ^ 64 - 1)) (3 ∷ 4 ∷ []) [] ≡ stop TABLE 0 0)
    × (taken 2017 (calls 1 (2 ^ 62)) (3 ∷ 4 ∷ []) [] ≡ stop TABLE 0 0) × (taken 2017 (p ++ (0 ∷ [])) (3 ∷ 4 ∷ []) [] ≡ stop TABLE 11 0)
    × (taken 2017 (calls 0 0) (3 ∷ 4 ∷ []) [] ≡ stop TABLE 6 0)
unfolding computing record_bytes
cases = (refl, refl, refl, refl, refl, refl, refl, refl, refl, refl, refl, refl, refl)
