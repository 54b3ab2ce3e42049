-- A code index of three records in blocks of either kind, an empty one, and blocks that are bad in each of the ways that document 02 lists. Blocks are
-- made byte by byte from its own words, without the layout's help. (02, requests 3 and 7)
use Prim.Native.Nat.{ℕ, ◌-◌}
use mathlib.Core.List.{List, [], ◌∷◌, ◌++◌}
use mathlib.Core.Path.{◌≡◌, refl}
use lib.ListN.{length, take, replicate}
use Rattle.layout.specs.Answers.Calls.{roomed}
use Rattle.layout.specs.Answers.Enums.{indexed_of}
use Rattle.layout.specs.Bytes.{bytes}
use Rattle.layout.specs.Computing.{computing}
use Rattle.layout.specs.Index.Reading.{file_kind, entries_in}
use Rattle.layout.specs.Index.Selecting.{index_by, index_of, selected, picked, entry_rows}
use Rattle.layout.specs.Refusals.{SUM, ROOM, ASK, BAD_BLOCK, refusal_number}
use Rattle.layout.specs.Walk.{given, refused}
use Rattle.layout.specs.declared.BlockKind.TheVariants.{Old}
use Rattle.laws.proofs.Cases.Reading.{sealed}
use Rattle.laws.proofs.Samples.{with, sheet, point, sheet_e}
use Rattle.layout.specs.declared.IndexSizes.{IndexSizes}
use Rattle.layout.specs.declared.Refusal.{Refusal}
use Rattle.std.specs.Prelude.{Result, Ok, Err}

-- number, count, entries and zeros, the two bytes, sum
abbrev block : ℕ → ℕ → List ℕ → ℕ → ℕ → List ℕ
block number count entries ending sum =
    bytes 2 number ++ bytes 2 count ++ entries ++ replicate (504 - length entries) 0 ++ bytes 2 ending ++ bytes 2 sum

-- a point of code 0, an object of code 7 and localisation 5, and the point again
abbrev three : List ℕ
three = sealed (sheet 0 3 (point 2 0 36 [] ++ with 12 (7 ∷ []) (point 5 0 36 []) ++ point 2 0 36 []))

-- their entries in an old block, and in a new one
abbrev old_entries : List ℕ
old_entries =
    0 ∷ 0 ∷ 0 ∷ 0 ∷ 0xC4 ∷ 0x01 ∷ 0 ∷ 2 ∷ 7 ∷ 0 ∷ 0 ∷ 0 ∷ 0xE8 ∷ 0x01 ∷ 0 ∷ 5 ∷ 0 ∷ 0 ∷ 0 ∷ 0 ∷ 0x0C ∷ 0x02 ∷ 0 ∷ 2 ∷ []

abbrev new_entries : List ℕ
new_entries =
    0 ∷ 0 ∷ 0 ∷ 0 ∷ 0xC4 ∷ 0x01 ∷ 0 ∷ 0 ∷ 2 ∷ 7 ∷ 0 ∷ 0 ∷ 0 ∷ 0xE8 ∷ 0x01 ∷ 0 ∷ 0 ∷ 5 ∷ 0 ∷ 0 ∷ 0 ∷ 0 ∷ 0x0C ∷ 0x02 ∷ 0 ∷ 0 ∷ 2 ∷ []

abbrev three_old : List ℕ
three_old = block 0 3 old_entries 0 463

abbrev three_new : List ℕ
three_new = block 0 3 new_entries 1 464

-- "new ones are always written in the new kind"
built : (index_of 2017 three ≡ given three_new) × (index_of 1999 three ≡ given three_new) × (index_of 2017 sheet_e ≡ given [])
    × (index_by Old 2017 three ≡ given three_old) × (index_by Old 2017 sheet_e ≡ given [])
    × (picked 2017 three 0 ≡ given (0 ∷ 452 ∷ 2 ∷ 2 ∷ 524 ∷ 2 ∷ [])) × (picked 2017 three 7 ≡ given (1 ∷ 488 ∷ 5 ∷ []))
    × (picked 2017 three 5 ≡ given []) × (picked 2017 sheet_e 0 ≡ given [])
unfolding computing
built = (refl, refl, refl, refl, refl, refl, refl, refl, refl)

-- "Old blocks stay readable"
abbrev Same : List ℕ → Type 0
Same xs = (entry_rows xs ≡ given (0 ∷ 452 ∷ 2 ∷ 7 ∷ 488 ∷ 5 ∷ 0 ∷ 524 ∷ 2 ∷ [])) × (selected 0 xs ≡ given (0 ∷ 452 ∷ 2 ∷ 2 ∷ 524 ∷ 2 ∷ []))
    × (selected 7 xs ≡ given (1 ∷ 488 ∷ 5 ∷ [])) × (selected 5 xs ≡ given [])

both : Same three_old × Same three_new × (entry_rows [] ≡ given [])
unfolding computing
both = ((refl, refl, refl, refl), (refl, refl, refl, refl), refl)

-- the setting and the sheet's own refusals first, ROOM last
order : (index_of 2000 three ≡ refused ASK 0 0) × (picked 2000 three 0 ≡ refused ASK 0 0)
    × (roomed 0 (index_of 2017 (sheet 796 0 [])) ≡ refused SUM 12 0) × (roomed 0 (picked 2017 (sheet 796 0 []) 0) ≡ refused SUM 12 0)
    × (roomed 511 (index_of 2017 three) ≡ refused ROOM 0 0) × (roomed 512 (index_of 2017 three) ≡ given three_new)
    × (roomed 8 (entry_rows three_new) ≡ refused ROOM 0 0) × (roomed 5 (selected 0 three_new) ≡ refused ROOM 0 0)
    × (roomed 0 (selected 5 three_new) ≡ given []) × (roomed 5 (picked 2017 three 0) ≡ refused ROOM 0 0)
    × (roomed 0 (selected 0 (block 0 3 new_entries 1 465)) ≡ refused BAD_BLOCK 0 0)
unfolding computing
order = (refl, refl, refl, refl, refl, refl, refl, refl, refl, refl, refl)

-- "a wrong length, number, count, filling or sum", the sum put right but in the last; and two bytes before the sum that are of no kind
bad : (entries_in (0 ∷ []) ≡ refused BAD_BLOCK 0 0) × (entries_in (take 511 three_old) ≡ refused BAD_BLOCK 0 0)
    × (entries_in (take 511 three_new) ≡ refused BAD_BLOCK 0 0) × (entries_in (block 1 3 old_entries 0 464) ≡ refused BAD_BLOCK 0 0)
    × (entries_in (block 1 3 new_entries 1 465) ≡ refused BAD_BLOCK 0 0) × (entries_in (block 0 0 [] 0 0) ≡ refused BAD_BLOCK 0 0)
    × (entries_in (block 0 0 [] 1 1) ≡ refused BAD_BLOCK 0 0) × (entries_in (block 0 2 old_entries 0 462) ≡ refused BAD_BLOCK 0 0)
    × (entries_in (block 0 2 new_entries 1 463) ≡ refused BAD_BLOCK 0 0) × (entries_in (block 0 64 old_entries 0 524) ≡ refused BAD_BLOCK 0 0)
    × (entries_in (block 0 57 new_entries 1 518) ≡ refused BAD_BLOCK 0 0) × (entries_in (block 0 3 old_entries 0 462) ≡ refused BAD_BLOCK 0 0)
    × (entries_in (block 0 3 new_entries 1 463) ≡ refused BAD_BLOCK 0 0) × (entries_in (block 0 3 old_entries 256 464) ≡ refused BAD_BLOCK 0 0)
    × (entries_in (block 0 3 old_entries 257 465) ≡ refused BAD_BLOCK 0 0) × (entries_in (block 0 3 old_entries 2 465) ≡ refused BAD_BLOCK 0 0)
unfolding computing
bad = (refl, refl, refl, refl, refl, refl, refl, refl, refl, refl, refl, refl, refl, refl, refl, refl)

-- of either kind a full block and one after it; what entries hold is not judged
abbrev first_old : List ℕ
first_old = block 0 63 (replicate 504 255) 0 63047

abbrev second_old : List ℕ
second_old = block 1 1 (replicate 8 2) 0 18

abbrev first_new : List ℕ
first_new = block 0 56 (replicate 504 255) 1 63041

abbrev second_new : List ℕ
second_new = block 1 1 (replicate 9 2) 1 21

abbrev checked : List ℕ → Result IndexSizes Refusal
checked xs = indexed_of (file_kind xs) (entries_in xs)

blocks : (checked (first_old ++ second_old) ≡ Ok (record { entries = 64; blocks = 2 }))
    × (checked (first_new ++ second_new) ≡ Ok (record { entries = 57; blocks = 2 }))
    × (checked first_old ≡ Ok (record { entries = 63; blocks = 1 })) × (checked first_new ≡ Ok (record { entries = 56; blocks = 1 }))
    × (checked (second_old ++ first_old) ≡ Err (record { reason = BAD_BLOCK; place = 0; year = 0 }))
    × (entries_in (first_new ++ first_new) ≡ refused BAD_BLOCK 512 0) × (entries_in second_new ≡ refused BAD_BLOCK 0 0)
    × (entries_in (first_old ++ take 511 second_old) ≡ refused BAD_BLOCK 512 0) × (entries_in (first_new ++ second_new ++ 0 ∷ []) ≡ refused BAD_BLOCK 512 0)
    × (entries_in (three_old ++ second_old) ≡ refused BAD_BLOCK 0 0) × (entries_in (three_new ++ second_new) ≡ refused BAD_BLOCK 0 0)
    × (entries_in (first_new ++ block 1 1 (replicate 9 2) 1 22) ≡ refused BAD_BLOCK 512 0)
    × (entries_in (first_old ++ 0 ∷ []) ≡ refused BAD_BLOCK 512 0) × (entries_in (first_new ++ block 1 0 [] 1 2) ≡ refused BAD_BLOCK 512 0)
    × (refusal_number BAD_BLOCK ≡ 18)
unfolding computing
blocks = (refl, refl, refl, refl, refl, refl, refl, refl, refl, refl, refl, refl, refl, refl, refl)

-- "18 also for mixed kinds", where all else is right; and 56 entries do not fill an old block
mixed : (entries_in (first_old ++ block 1 1 (replicate 8 2) 1 19) ≡ refused BAD_BLOCK 512 0) × (entries_in (first_new ++ second_old) ≡ refused BAD_BLOCK 512 0)
    × (entries_in (block 0 56 (replicate 448 255) 0 48760 ++ second_old) ≡ refused BAD_BLOCK 0 0)
unfolding computing
mixed = (refl, refl, refl)

-- the hit in the second block is entry 63 or 56, and of the third and fourth byte of a place nothing is lost
hits : (selected 0x02020202 (first_old ++ second_old) ≡ given (63 ∷ 0x020202 ∷ 2 ∷ []))
    × (selected 0x02020202 (first_new ++ second_new) ≡ given (56 ∷ 0x02020202 ∷ 2 ∷ []))
    × (entry_rows (block 0 1 (replicate 8 255) 0 2041) ≡ given (0xFFFFFFFF ∷ 0xFFFFFF ∷ 255 ∷ []))
    × (entry_rows (block 0 1 (replicate 9 255) 1 2297) ≡ given (0xFFFFFFFF ∷ 0xFFFFFFFF ∷ 255 ∷ []))
    × (selected 0xFFFFFFFF (block 0 1 (replicate 9 255) 1 2297) ≡ given (0 ∷ 0xFFFFFFFF ∷ 255 ∷ []))
unfolding computing
hits = (refl, refl, refl, refl, refl)
