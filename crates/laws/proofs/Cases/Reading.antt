-- What the reader answers: each refusal at its place. Sheet E is 452 bytes; the record of P and Q stands at 452, its metric at 484, its
-- end and Q's item at 488.
use Prim.Native.Nat.{ℕ, ◌+◌}
use mathlib.Core.Bool.{false}
use mathlib.Core.List.{List, [], ◌∷◌, ◌++◌}
use mathlib.Core.Path.{◌≡◌, refl}
use lib.Dec.{leb}
use lib.ListN.{length, replicate}
use Rattle.layout.specs.Answers.Calls.{reading}
use Rattle.layout.specs.Bytes.{bytes}
use Rattle.layout.specs.Computing.{computing}
use Rattle.layout.specs.Fields.{limit}
use Rattle.layout.specs.Reading.Sheets.{sum_of, sheet_walk, size_checks}
use Rattle.layout.specs.Refusals.{TOO_LONG, SHORT, NOT_SXF, EDITION, TEXT, RESERVED, TOO_NEW, NOT_CARRIED, LENGTH, COUNT, SEMANTIC, LEFT_OVER, ASK}
use Rattle.layout.specs.Sheet.{Sheet}
use Rattle.layout.specs.Walk.{Answer, refused, stops}
use Rattle.laws.proofs.Samples.{with, sheet, point, sheet_e, sheet_p, sheet_q}

-- "sheet over the limit; place 0", whatever it holds
pub over-limit : (s : List ℕ) → leb (length s) limit ≡ false → sheet_walk s ≡ stops TOO_LONG 0
unfolding sheet_walk size_checks
over-limit s e = rw e

-- the sum put right
abbrev pub sealed : List ℕ → List ℕ
sealed s = with 12 (bytes 4 (sum_of s)) s

-- E, P and Q with bytes written over theirs, read at a setting
abbrev E : ℕ → ℕ → List ℕ → Answer Sheet
E year place bs = reading year (sealed (with place bs sheet_e))

abbrev P : ℕ → ℕ → List ℕ → Answer Sheet
P year place bs = reading year (sealed (with place bs sheet_p))

abbrev Q : ℕ → ℕ → List ℕ → Answer Sheet
Q year place bs = reading year (sealed (with place bs sheet_q))

-- one record with so many bytes of semantics after it
abbrev items : ℕ → List ℕ → Answer Sheet
items year semantics = reading year (sealed (sheet 0 1 (point 2 2 (36 + length semantics) semantics)))

passport : (E 2017 0 (0x54 ∷ []) ≡ refused NOT_SXF 0 0)
    × (E 2017 4 (0x00 ∷ []) ≡ refused EDITION 4 0)
    × (E 2017 10 (0x03 ∷ []) ≡ refused EDITION 8 0)
    -- no zero at all
    × (E 2017 16 (replicate 12 0x31) ≡ refused TEXT 16 0)
    × (E 2017 28 (replicate 32 0x41) ≡ refused TEXT 28 0)
    × (E 2017 64 (replicate 32 0x41) ≡ refused TEXT 64 0)
    × (E 2017 96 (0x07 ∷ []) ≡ refused RESERVED 96 0)
    × (E 2005 98 (0x01 ∷ []) ≡ refused ASK 0 0)
    × (E 2004 98 (0x01 ∷ []) ≡ refused TOO_NEW 98 2006)
    × (E 2016 103 (0x01 ∷ []) ≡ refused TOO_NEW 100 2017)
    -- by rising place: a text at 64 before the offset at 392, and that before the descriptor's identifier
    × (reading 1999 (sealed (with 64 (replicate 32 0x41) (with 399 (1 ∷ []) sheet_e))) ≡ refused TEXT 64 0)
    × (E 1999 399 (0x01 ∷ 0x00 ∷ []) ≡ refused TOO_NEW 392 2004)
    × (E 2004 399 (0x01 ∷ 0x00 ∷ []) ≡ refused NOT_SXF 400 0)
unfolding computing
passport = (refl, refl, refl, refl, refl, refl, refl, refl, refl, refl, refl, refl, refl)

descriptor : (E 2017 400 (0x00 ∷ []) ≡ refused NOT_SXF 400 0)
    × (E 2017 404 (53 ∷ []) ≡ refused EDITION 404 0)
    × (E 2017 408 (replicate 32 0x41) ≡ refused TEXT 408 0)
    × (E 2017 445 (3 ∷ []) ≡ refused RESERVED 445 0)
    × (E 2016 447 (1 ∷ []) ≡ refused TOO_NEW 447 2017)
    × (E 2017 451 (1 ∷ []) ≡ refused RESERVED 448 0)
unfolding computing
descriptor = (refl, refl, refl, refl, refl, refl)

records : (P 2017 440 (2 ∷ []) ≡ refused SHORT 488 0)
    × (E 2017 440 (0xFF ∷ 0xFF ∷ 0xFF ∷ 0xFF ∷ []) ≡ refused SHORT 452 0)
    × (P 2017 440 (0 ∷ []) ≡ refused LEFT_OVER 452 0)
    × (reading 2017 (sealed (sheet_p ++ (0 ∷ []))) ≡ refused LEFT_OVER 488 0)
    × (P 2017 452 (0 ∷ []) ≡ refused NOT_SXF 452 0)
    × (P 2017 456 (31 ∷ []) ≡ refused LENGTH 456 0)
    × (P 2017 456 (37 ∷ []) ≡ refused SHORT 456 0)
    × (P 2017 460 (5 ∷ []) ≡ refused LENGTH 460 0)
    -- bytes 20 to 22
    × (P 2017 472 (6 ∷ []) ≡ refused RESERVED 472 0)
    × (P 2017 473 (8 ∷ []) ≡ refused NOT_CARRIED 473 0)
    × (P 2006 473 (8 ∷ []) ≡ refused TOO_NEW 473 2008)
    × (P 2017 474 (8 ∷ []) ≡ refused RESERVED 474 0)
    × (P 1999 474 (64 ∷ []) ≡ refused TOO_NEW 474 2004)
    × (P 2017 474 (16 ∷ []) ≡ refused NOT_CARRIED 474 0)
    -- the mark: of 2004, at +30; "under the mark any count in the word is good" (02, 2), if the metric has so many points
    × (P 1999 482 (0xFF ∷ 0xFF ∷ []) ≡ refused TOO_NEW 482 2004)
    × (P 2017 482 (0xFF ∷ 0xFF ∷ []) ≡ refused LENGTH 484 0)
    × (P 2017 476 (0xFE ∷ 0xFF ∷ 0 ∷ 0 ∷ 0 ∷ 0 ∷ 0xFF ∷ 0xFF ∷ []) ≡ refused LENGTH 484 0)
    × (P 2017 476 (0xFF ∷ 0xFF ∷ 0xFF ∷ 0xFF ∷ 0 ∷ 0 ∷ 0xFF ∷ 0xFF ∷ []) ≡ refused LENGTH 484 0)
    -- the second record, where the first is P's
    × (reading 2017 (sealed (sheet 0 2 (point 2 0 36 [] ++ point 6 0 36 []))) ≡ refused RESERVED 508 0)
unfolding computing
records = (refl, refl, refl, refl, refl, refl, refl, refl, refl, refl, refl, refl, refl, refl, refl, refl, refl, refl, refl)

-- a label: byte 20 = 3, byte 22 = 8, one point, and the metric from the text's length byte on
abbrev label : List ℕ → Answer Sheet
label text =
    let size : ℕ = 4 + length text in
    reading 2017 (sealed (sheet 0 1 (with 8 (size ∷ []) (with 22 (8 ∷ []) (point 3 0 (32 + size) text)))))

-- P's record with one subobject, of which these are the bytes
abbrev island : List ℕ → Answer Sheet
island bs =
    let size : ℕ = 4 + length bs in
    reading 2017 (sealed (sheet 0 1 (with 8 (size ∷ []) (with 28 (1 ∷ []) (point 1 0 (32 + size) bs)))))

metric : (P 2017 482 (2 ∷ []) ≡ refused LENGTH 484 0)
    -- bytes left over; no point at all
    × (P 2017 482 (0 ∷ []) ≡ refused LENGTH 484 0)
    × (island (0 ∷ 0 ∷ 1 ∷ []) ≡ refused LENGTH 488 0)
    × (island (1 ∷ 0 ∷ 0 ∷ 0 ∷ []) ≡ refused COUNT 488 0)
    × (island (0 ∷ 0 ∷ 1 ∷ 0 ∷ 5 ∷ 0 ∷ 6 ∷ []) ≡ refused LENGTH 492 0)
    × (island (0 ∷ 0 ∷ 1 ∷ 0 ∷ 5 ∷ 0 ∷ 6 ∷ 0 ∷ 7 ∷ []) ≡ refused LENGTH 496 0)
    -- texts: no length byte; no closing byte; one that is not zero
    × (label [] ≡ refused LENGTH 488 0)
    × (label (2 ∷ 0x41 ∷ 0x42 ∷ []) ≡ refused LENGTH 488 0)
    × (label (2 ∷ 0x41 ∷ 0x42 ∷ 0x43 ∷ []) ≡ refused TEXT 491 0)
    × (label (0 ∷ 0x43 ∷ []) ≡ refused TEXT 489 0)
    × (label (1 ∷ 0x41 ∷ 0 ∷ 0 ∷ []) ≡ refused LENGTH 491 0)
unfolding computing
metric = (refl, refl, refl, refl, refl, refl, refl, refl, refl, refl, refl)

semantics : (P 2017 473 (2 ∷ []) ≡ refused LENGTH 488 0)
    × (Q 2017 473 (0 ∷ []) ≡ refused LENGTH 488 0)
    × (items 2017 (1 ∷ 0 ∷ 2 ∷ []) ≡ refused LENGTH 488 0)
    × (items 2017 (1 ∷ 0 ∷ 3 ∷ 0 ∷ 0 ∷ []) ≡ refused SEMANTIC 490 0)
    × (items 2008 (1 ∷ 0 ∷ 128 ∷ 0 ∷ []) ≡ refused TOO_NEW 490 2012)
    × (items 2012 (1 ∷ 0 ∷ 128 ∷ 0 ∷ []) ≡ refused SEMANTIC 491 0)
    × (items 2017 (1 ∷ 0 ∷ 4 ∷ 0x80 ∷ []) ≡ refused SEMANTIC 491 0)
    × (items 2017 (1 ∷ 0 ∷ 128 ∷ 255 ∷ 2 ∷ 0 ∷ 0 ∷ []) ≡ refused LENGTH 488 0)
    × (items 2017 (1 ∷ 0 ∷ 128 ∷ 255 ∷ 3 ∷ 0 ∷ 0 ∷ 0 ∷ []) ≡ refused SEMANTIC 492 0)
    × (items 2017 (1 ∷ 0 ∷ 128 ∷ 255 ∷ 0 ∷ 0 ∷ 0 ∷ 0 ∷ []) ≡ refused SEMANTIC 492 0)
    × (items 2017 (1 ∷ 0 ∷ 128 ∷ 255 ∷ 4 ∷ 0 ∷ 0 ∷ 0 ∷ 7 ∷ 0 ∷ 0 ∷ []) ≡ refused LENGTH 488 0)
    × (items 2017 (1 ∷ 0 ∷ 4 ∷ 0 ∷ 1 ∷ 2 ∷ []) ≡ refused LENGTH 488 0)
    -- closing zeros: the place is that of the first, whichever is not zero
    × (items 2017 (1 ∷ 0 ∷ 0 ∷ 1 ∷ 0x41 ∷ 0x42 ∷ []) ≡ refused TEXT 493 0)
    × (items 2017 (1 ∷ 0 ∷ 127 ∷ 1 ∷ 0x41 ∷ 0 ∷ 0 ∷ 7 ∷ []) ≡ refused TEXT 494 0)
    × (items 2017 (1 ∷ 0 ∷ 128 ∷ 255 ∷ 4 ∷ 0 ∷ 0 ∷ 0 ∷ 7 ∷ 0 ∷ 7 ∷ 0 ∷ []) ≡ refused TEXT 498 0)
    -- the second item
    × (items 2017 (1 ∷ 0 ∷ 1 ∷ 0 ∷ 9 ∷ 1 ∷ 0 ∷ 3 ∷ 0 ∷ 9 ∷ []) ≡ refused SEMANTIC 495 0)
unfolding computing
semantics = (refl, refl, refl, refl, refl, refl, refl, refl, refl, refl, refl, refl, refl, refl, refl, refl)
