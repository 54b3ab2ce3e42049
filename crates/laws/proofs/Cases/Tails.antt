-- Old letters after the first zero of a text field (02, request 6): they are read past and told, field by field, and writing clears them.
use Prim.Native.Nat.{ℕ}
use mathlib.Core.Bool.{Bool, true, false}
use mathlib.Core.List.{List, [], ◌∷◌}
use mathlib.Core.Path.{◌≡◌, refl}
use lib.ListN.{replicate}
use Rattle.layout.specs.Answers.Calls.{and_then, reading, written}
use Rattle.layout.specs.Answers.Enums.{headed_of}
use Rattle.layout.specs.Computing.{computing}
use Rattle.layout.specs.Layout.Cleared.{cleared}
use Rattle.layout.specs.Refusals.{TEXT, SUM}
use Rattle.layout.specs.Walk.{given, refused}
use Rattle.layout.specs.Writing.Tables.{flatten}
use Rattle.laws.proofs.Cases.Reading.{sealed}
use Rattle.laws.proofs.Samples.{with, sheet_q}
use Rattle.layout.specs.declared.HeadAt.{HeadAt}
use Rattle.layout.specs.declared.Refusal.{Refusal}
use Rattle.std.specs.Prelude.{Result, Ok}

-- the head's answer for a sheet
abbrev head : List ℕ → Result HeadAt Refusal
head s = headed_of (reading 2017 s)

-- the lengths of date, designation, title and second designation, and which of the four are clean
abbrev answered : (date designation title designation2 : ℕ) → (cleanDate cleanDesignation cleanTitle cleanDesignation2 : Bool) → Result HeadAt Refusal
answered date designation title designation2 cleanDate cleanDesignation cleanTitle cleanDesignation2 =
    Ok (record {
      date = record { length = date; clean = cleanDate };
      designation = record { length = designation; clean = cleanDesignation };
      scale = 0;
      title = record { length = title; clean = cleanTitle };
      designation2 = record { length = designation2; clean = cleanDesignation2 };
    })

-- Q with letters put in, and the sum to match; Q has the designations "A", and no date and no title
abbrev Q : ℕ → List ℕ → List ℕ
Q place letters = sealed (with place letters sheet_q)

-- one letter in one of the fields: in its last byte, right after the zero that ends the text, and in between
dirty : (head sheet_q ≡ answered 0 1 0 1 true true true true)
    × (head (Q 27 (0x42 ∷ [])) ≡ answered 0 1 0 1 false true true true)
    × (head (Q 30 (0x42 ∷ [])) ≡ answered 0 1 0 1 true false true true)
    × (head (Q 66 (0x42 ∷ [])) ≡ answered 0 1 0 1 true true false true)
    × (head (Q 438 (0x42 ∷ [])) ≡ answered 0 1 0 1 true true true false)
unfolding computing
dirty = (refl, refl, refl, refl, refl)

-- texts that leave no tail, and texts without a zero
full : (head (Q 16 (replicate 11 0x31)) ≡ answered 11 1 0 1 true true true true)
    × (head (Q 64 (replicate 31 0x41)) ≡ answered 0 1 31 1 true true true true)
    × (reading 2017 (Q 16 (replicate 12 0x31)) ≡ refused TEXT 16 0)
    × (reading 2017 (Q 408 (replicate 32 0x41)) ≡ refused TEXT 408 0)
unfolding computing
full = (refl, refl, refl, refl)

-- letters in all four fields
abbrev old : List ℕ
old = sealed (with 17 (0x42 ∷ []) (with 30 (0x43 ∷ 0 ∷ 0x44 ∷ []) (with 95 (0x45 ∷ []) (with 410 (0x46 ∷ []) sheet_q))))

-- "writing the reading of an accepted sheet gives its bytes with those tails cleared and the sum to match"
clearing : (head old ≡ answered 0 1 0 1 false false false false)
    × (cleared old ≡ sheet_q)
    × (and_then (reading 2017 old) (λ t. written 2017 t.head (flatten t.records) 494) ≡ given sheet_q)
    -- cleared, and the sum left as it was: 2724
    × (reading 2017 (with 12 (0xA4 ∷ 0x0A ∷ []) (cleared old)) ≡ refused SUM 12 0)
    × (reading 2017 (with 12 (0xA4 ∷ 0x0A ∷ []) old) ≡ reading 2017 old)
unfolding computing
clearing = (refl, refl, refl, refl, refl)
