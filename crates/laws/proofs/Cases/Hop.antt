-- Hopping, computed: hits, misses, each refusal at its place, and what is not looked at. The records stand at 452, 488 and 524. (02, request 5)
use Prim.Native.Nat.{ℕ}
use mathlib.Core.Bool.{false}
use mathlib.Core.List.{List, [], ◌∷◌, ◌++◌}
use mathlib.Core.Path.{◌≡◌, refl}
use lib.Dec.{leb}
use lib.ListN.{length, take}
use Rattle.layout.specs.Answers.Enums.{refusal, hopped_of}
use Rattle.layout.specs.Answers.Structs.{hop_row}
use Rattle.layout.specs.Bytes.{bytes}
use Rattle.layout.specs.Computing.{computing}
use Rattle.layout.specs.Fields.{limit}
use Rattle.layout.specs.Hop.{hit, no_hit, start_checks, hop_walk, hop, frame, passed}
use Rattle.layout.specs.Reading.Sheets.{size_checks}
use Rattle.layout.specs.Refusals.{TOO_LONG, SHORT, NOT_SXF, LENGTH, refusal_number}
use Rattle.layout.specs.Walk.{given, refused}
use Rattle.laws.proofs.Samples.{with, sheet, point, sheet_e, sheet_p}
use Rattle.std.specs.Prelude.{Ok, Err}

-- "1 [..] as for sheet size", whatever the bytes are
pub hop-over-limit : (wanted : ℕ) (s : List ℕ) → leb (length s) limit ≡ false → hop wanted s ≡ refused TOO_LONG 0 0
unfolding hop hop_walk start_checks size_checks
hop-over-limit wanted s e = rw e

-- P's record with a code
abbrev coded : ℕ → List ℕ
coded code = with 12 (bytes 4 code) (point 2 0 36 [])

-- three records with the codes 7, 8 and 8; the sum is wrong
abbrev three : List ℕ
three = sheet 0 3 (coded 7 ++ coded 8 ++ coded 8)

hits : (hop 7 three ≡ given (hit 0 452 36)) × (hop 8 three ≡ given (hit 1 488 36)) × (hop 9 three ≡ given (no_hit 3))
    × (hop 0 sheet_p ≡ given (hit 0 452 36)) × (hop 0 sheet_e ≡ given (no_hit 0))
    -- the code has four bytes
    × (hop 0x04030201 (sheet 0 1 (coded 0x04030201)) ≡ given (hit 0 452 36)) × (hop 1 (sheet 0 1 (coded 0x04030201)) ≡ given (no_hit 1))
unfolding computing
hits = (refl, refl, refl, refl, refl, refl, refl)

-- by the code at 348; 0 is a code like any other
frames : (frame three ≡ given (no_hit 3)) × (frame (with 348 (8 ∷ []) three) ≡ given (hit 1 488 36))
    × (frame (with 348 (bytes 4 0x04030201) (sheet 0 2 (coded 1 ++ coded 0x04030201))) ≡ given (hit 1 488 36))
    × (frame sheet_p ≡ given (hit 0 452 36))
    -- four bytes, and not those beside them
    × (frame (with 347 (9 ∷ 8 ∷ 0 ∷ 0 ∷ 0 ∷ 9 ∷ []) three) ≡ given (hit 1 488 36))
    -- a sheet that is too short for it
    × (frame (take 400 three) ≡ refused SHORT 0 0) × (frame (take 351 three) ≡ refused SHORT 0 0) × (frame [] ≡ refused SHORT 0 0)
unfolding computing
frames = (refl, refl, refl, refl, refl, refl, refl, refl)

refusals : (hop 9 (take 451 three) ≡ refused SHORT 0 0) × (hop 9 (with 0 (0x54 ∷ []) three) ≡ refused NOT_SXF 0 0)
    × (hop 9 (with 400 (0 ∷ []) three) ≡ refused NOT_SXF 400 0) × (hop 9 (with 0 (0 ∷ []) (with 400 (0 ∷ []) three)) ≡ refused NOT_SXF 0 0)
    × (hop 9 (with 0 (0 ∷ []) (take 451 three)) ≡ refused SHORT 0 0)
    -- a record more than there are; one byte too few for the third header
    × (hop 9 (with 440 (4 ∷ []) three) ≡ refused SHORT 560 0) × (hop 9 (take 555 three) ≡ refused SHORT 524 0)
    × (hop 9 (with 440 (0xFF ∷ 0xFF ∷ 0xFF ∷ 0xFF ∷ []) three) ≡ refused SHORT 560 0)
    -- the second header
    × (hop 9 (with 488 (0 ∷ []) three) ≡ refused NOT_SXF 488 0) × (hop 9 (with 492 (31 ∷ []) three) ≡ refused LENGTH 492 0)
    × (hop 9 (with 492 (0 ∷ []) three) ≡ refused LENGTH 492 0) × (hop 9 (with 492 (73 ∷ []) three) ≡ refused SHORT 492 0)
    × (hop 9 (with 492 (0xFF ∷ 0xFF ∷ 0xFF ∷ 0xFF ∷ []) three) ≡ refused SHORT 492 0)
    -- in one header: identifier, then lengths, and only then the code
    × (hop 8 (with 488 (0 ∷ 0 ∷ 0 ∷ 0 ∷ 0 ∷ []) three) ≡ refused NOT_SXF 488 0) × (hop 8 (with 492 (31 ∷ []) three) ≡ refused LENGTH 492 0)
    × (hop 8 (with 492 (73 ∷ []) three) ≡ refused SHORT 492 0) × (hop 8 (with 492 (72 ∷ []) three) ≡ given (hit 1 488 72))
    × (hop 8 (with 492 (32 ∷ []) three) ≡ given (hit 1 488 32))
unfolding computing
refusals = (refl, refl, refl, refl, refl, refl, refl, refl, refl, refl, refl, refl, refl, refl, refl, refl, refl, refl)

-- not looked at: what comes after the hit, lengths and edition of the sheet, metric lengths, contents, and bytes after the last record
unread : (hop 7 (with 488 (0 ∷ []) three) ≡ given (hit 0 452 36)) × (hop 7 (take 488 three) ≡ given (hit 0 452 36))
    × (hop 8 (with 4 (0 ∷ 0 ∷ 0 ∷ 0 ∷ 9 ∷ 9 ∷ 9 ∷ 9 ∷ []) (with 404 (9 ∷ []) three)) ≡ given (hit 1 488 36))
    × (hop 8 (with 460 (0xFF ∷ 0xFF ∷ []) (with 472 (0xFF ∷ 0xFF ∷ 0xFF ∷ []) three)) ≡ given (hit 1 488 36))
    × (hop 9 (with 440 (2 ∷ []) three) ≡ given (no_hit 2)) × (hop 7 (with 440 (0 ∷ []) three) ≡ given (no_hit 0))
unfolding computing
unread = (refl, refl, refl, refl, refl, refl)

passings : (passed 8 three ≡ 452 ∷ 488 ∷ []) × (passed 9 three ≡ 452 ∷ 488 ∷ 524 ∷ []) × (passed 9 (take 555 three) ≡ 452 ∷ 488 ∷ [])
    × (passed 9 (with 488 (0 ∷ []) three) ≡ 452 ∷ 488 ∷ []) × (passed 9 (with 400 (0 ∷ []) three) ≡ [])
    × (passed 9 (with 440 (0xFF ∷ 0xFF ∷ 0xFF ∷ 0xFF ∷ []) three) ≡ 452 ∷ 488 ∷ 524 ∷ [])
unfolding computing
passings = (refl, refl, refl, refl, refl, refl)

-- the answers as programs have them
rows : (hopped_of (hop 8 three) ≡ Ok (hit 1 488 36)) × (hopped_of (hop 9 (take 555 three)) ≡ Err (refusal SHORT 524 0))
    × (hop_row (hopped_of (hop 8 three)) ≡ record { number = 0; place = 0; year = 0; found = 1; «record» = 1; at = 488; total = 36; looked = 2 })
    × (hop_row (hopped_of (hop 9 three)) ≡ record { number = 0; place = 0; year = 0; found = 0; «record» = 0; at = 0; total = 0; looked = 3 })
    × (hop_row (hopped_of (hop 9 (with 492 (31 ∷ []) three)))
    ≡ record { number = 10; place = 492; year = 0; found = 0; «record» = 0; at = 0; total = 0; looked = 0 })
    × (refusal_number SHORT ≡ 2)
unfolding computing hop_row
rows = (refl, refl, refl, refl, refl, refl)
