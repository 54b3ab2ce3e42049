-- What the writer answers: each refusal at its place or index. A record with one part has its points at 9 and its items from 11 on.
use Prim.Native.Nat.{ℕ, ◌+◌, ◌*◌, ◌^◌}
use mathlib.Core.Bool.{false}
use mathlib.Core.List.{List, [], ◌∷◌, ◌++◌}
use mathlib.Core.Path.{◌≡◌, refl}
use lib.Dec.{leb}
use lib.ListN.{length, set, replicate}
use Rattle.layout.specs.Answers.Calls.{written}
use Rattle.layout.specs.Computing.{computing}
use Rattle.layout.specs.Fields.{limit}
use Rattle.layout.specs.Layout.Encode.{encode}
use Rattle.layout.specs.Refusals.{TOO_LONG, TEXT, RESERVED, TOO_NEW, NOT_CARRIED, COUNT, SEMANTIC, TABLE, ROOM, ASK}
use Rattle.layout.specs.Sheet.{Head, Sheet}
use Rattle.layout.specs.Walk.{Answer, given, refused, checks, stops}
use Rattle.layout.specs.Writing.Sheets.{limit_rules}
use Rattle.layout.specs.Writing.Tables.{table}
use Rattle.laws.proofs.Samples.{sheet_p, sheet_q, head_of}

-- "Last TOO LONG": at place 0, for whatever sheet would be over the limit
pub over-limit : (u : Sheet) → leb (length (encode u)) limit ≡ false → checks 0 (limit_rules u) ≡ stops TOO_LONG 0
unfolding limit_rules
over-limit u e = rw e

-- sheet E's head
abbrev head_e : Head
head_e = head_of (0x41 ∷ [])

-- an empty table with another head
abbrev H : ℕ → Head → Answer (List ℕ)
H year h = written year h (table [] [] []) 65536

-- numbers, elements and bytes under sheet E's head
abbrev W : ℕ → List ℕ → List ℕ → List ℕ → Answer (List ℕ)
W year ns es bs = written year head_e (table ns es bs) 65536

abbrev texts : List ℕ → List ℕ → List ℕ → Head
texts date title designation2 =
    record { date = date; designation = []; scale = 0; title = title; rest = head_e.rest; designation2 = designation2; carried = head_e.carried }

abbrev carrying : List ℕ → List ℕ → Head
carrying rest carried =
    record { date = []; designation = []; scale = 0; title = []; rest = rest; designation2 = replicate 32 0x41; carried = carried }

heads : (H 2018 head_e ≡ refused ASK 0 0)
    × (H 2017 (texts (replicate 12 0x31) [] []) ≡ refused TEXT 16 0)
    × (H 2017 (head_of (0x41 ∷ 0 ∷ 0x42 ∷ [])) ≡ refused TEXT 28 0)
    × (H 2017 (texts (replicate 11 0x31) (replicate 32 0x41) (replicate 32 0x41)) ≡ refused TEXT 64 0)
    × (H 2017 (texts [] [] (replicate 32 0x41)) ≡ refused TEXT 408 0)
    -- the rest of the passport before the second designation, and that before the bytes at 444
    × (H 2017 (carrying (7 ∷ replicate 303 0) (0 ∷ 0 ∷ 0 ∷ 0 ∷ [])) ≡ refused RESERVED 96 0)
    × (H 2004 (carrying (set head_e.rest 2 1) (0 ∷ 0 ∷ 0 ∷ 0 ∷ [])) ≡ refused TOO_NEW 98 2006)
    × (H 2006 (carrying (set head_e.rest 2 1) (0 ∷ 0 ∷ 0 ∷ 0 ∷ [])) ≡ refused TEXT 408 0)
unfolding computing
heads = (refl, refl, refl, refl, refl, refl, refl, refl)

-- the numbers and pools of P and of Q
abbrev p : List ℕ
p = 0 ∷ 0 ∷ 0 ∷ 2 ∷ 255 ∷ 0 ∷ 1 ∷ 0 ∷ 0 ∷ 1 ∷ 0 ∷ []

abbrev q : List ℕ
q = 0 ∷ 0 ∷ 0 ∷ 514 ∷ 255 ∷ 0 ∷ 1 ∷ 1 ∷ 0 ∷ 1 ∷ 0 ∷ 1 ∷ 2 ∷ 255 ∷ 2 ∷ []

abbrev xy : List ℕ
xy = 3 ∷ 4 ∷ []

-- p with a number in place of another
abbrev P : ℕ → ℕ → ℕ → Answer (List ℕ)
P year index n = W year (set p index n) xy []

sheets : (W 1999 p xy [] ≡ given sheet_p)
    × (W 1999 q xy (0xF9 ∷ 0x04 ∷ []) ≡ given sheet_q)
    × (written 2017 head_e (table p xy []) 488 ≡ given sheet_p)
    × (written 2017 head_e (table p xy []) 487 ≡ refused ROOM 0 0)
unfolding computing
sheets = (refl, refl, refl, refl)

rows : (W 2017 (0 ∷ 0 ∷ 0 ∷ 2 ∷ 255 ∷ 0 ∷ 1 ∷ 0 ∷ []) xy [] ≡ refused TABLE 0 0)
    -- too few numbers for parts and items, before the row's other checks; near 2^64 nothing wraps
    × (W 2017 (2 ^ 32 ∷ 0 ∷ 0 ∷ 2 ∷ 255 ∷ 0 ∷ 1 ∷ 0 ∷ 0 ∷ 1 ∷ []) xy [] ≡ refused TABLE 0 0)
    × (W 2017 (0 ∷ 65536 ∷ 0 ∷ 2 ∷ 255 ∷ 0 ∷ 2 ^ 63 ∷ 2 ^ 62 ∷ 0 ∷ 1 ∷ 0 ∷ []) xy [] ≡ refused TABLE 0 0)
    × (P 2017 0 (2 ^ 32) ≡ refused TABLE 0 0)
    × (P 2017 1 65536 ≡ refused TABLE 1 0)
    × (P 2017 2 65536 ≡ refused TABLE 2 0)
    × (P 2017 3 (2 ^ 24) ≡ refused TABLE 3 0)
    -- the reference number: byte by byte as in reading, all at one index
    × (P 2017 3 6 ≡ refused RESERVED 3 0)
    × (P 2015 3 18 ≡ refused TOO_NEW 3 2016)
    × (P 2017 3 (2 + 256 * 8) ≡ refused NOT_CARRIED 3 0)
    × (P 2017 3 (2 + 65536 * 8) ≡ refused RESERVED 3 0)
    × (P 2017 3 (2 + 65536 * 16) ≡ refused NOT_CARRIED 3 0)
    × (P 2017 4 256 ≡ refused TABLE 4 0)
    × (P 2017 5 (2 ^ 32) ≡ refused TABLE 5 0)
    × (W 2017 (set p 6 0) xy [] ≡ refused TABLE 6 0)
    × (P 2017 3 514 ≡ refused TABLE 7 0)
    × (W 2017 (set q 3 2) xy (0xF9 ∷ 0x04 ∷ []) ≡ refused TABLE 7 0)
    -- the mark: "14 for a mark over 1"; "the writer's TOO NEW now stands at the mark's number" (02, 2); after items and before points
    × (P 1999 8 2 ≡ refused TABLE 8 0)
    × (P 1999 8 1 ≡ refused TOO_NEW 8 2004)
    × (P 2004 8 1 ≡ refused COUNT 9 0)
    × (W 1999 (set (set p 3 514) 8 1) xy [] ≡ refused TABLE 7 0)
    × (W 2017 (set (set p 8 2) 9 (2 ^ 32)) xy [] ≡ refused TABLE 8 0)
unfolding computing
rows =
    (refl, refl, refl, refl, refl, refl, refl, refl, refl, refl, refl, refl, refl, refl, refl, refl, refl, refl, refl, refl, refl, refl)

-- a record of so many parts, which the numbers after the ninth describe; the word is w, the mark is m
abbrev parts : ℕ → ℕ → ℕ → ℕ → List ℕ → Answer (List ℕ)
parts year w n m more = W year ((0 ∷ 0 ∷ 0 ∷ 2 ∷ 255 ∷ w ∷ n ∷ 0 ∷ m ∷ []) ++ more) (3 ∷ 4 ∷ 5 ∷ 6 ∷ []) []

points : (P 2017 9 (2 ^ 32) ≡ refused TABLE 9 0)
    -- "11 now stands [..] for mark 0 with a first count of 65535 or more", then the pool; no year is met there
    × (parts 1999 0 1 0 (65535 ∷ 0 ∷ []) ≡ refused COUNT 9 0)
    × (parts 1999 65535 1 0 (65535 ∷ 0 ∷ []) ≡ refused COUNT 9 0)
    × (parts 1999 0 1 0 (65534 ∷ 0 ∷ []) ≡ refused TABLE 9 0)
    -- "and for mark 1 with a word that differs from the first count", then the pool
    × (parts 1999 65535 1 1 (65535 ∷ 0 ∷ []) ≡ refused TOO_NEW 8 2004)
    × (parts 2004 0 1 1 (65535 ∷ 0 ∷ []) ≡ refused COUNT 9 0)
    × (parts 2004 2 1 1 (1 ∷ 0 ∷ []) ≡ refused COUNT 9 0)
    × (parts 2004 0 1 1 (2 ^ 32 ∷ 0 ∷ []) ≡ refused TABLE 9 0)
    × (parts 2004 65535 1 1 (65535 ∷ 0 ∷ []) ≡ refused TABLE 9 0)
    × (parts 2004 3 1 1 (3 ∷ 0 ∷ []) ≡ refused TABLE 9 0)
    × (parts 2017 (2 ^ 32 + 0) 1 0 (1 ∷ 0 ∷ []) ≡ refused TABLE 5 0)
    -- "for mark 0 with [..] a later count over 65535"; with mark 1 it is good, and only the pool ends early
    × (parts 2017 0 2 0 (1 ∷ 0 ∷ 65536 ∷ 0 ∷ []) ≡ refused COUNT 11 0)
    × (parts 2017 0 2 0 (1 ∷ 0 ∷ 65535 ∷ 0 ∷ []) ≡ refused TABLE 11 0)
    × (parts 2017 0 2 0 (1 ∷ 0 ∷ 2 ^ 32 ∷ 0 ∷ []) ≡ refused TABLE 11 0)
    × (parts 2017 1 2 1 (1 ∷ 0 ∷ 70000 ∷ 0 ∷ []) ≡ refused TABLE 11 0)
    × (parts 2017 1 2 1 (1 ∷ 0 ∷ 2 ^ 32 ∷ 0 ∷ []) ≡ refused TABLE 11 0)
    × (W 2017 p (3 ∷ []) [] ≡ refused TABLE 9 0)
    × (W 2017 p (3 ∷ 65536 ∷ []) [] ≡ refused TABLE 9 0)
unfolding computing
points = (refl, refl, refl, refl, refl, refl, refl, refl, refl, refl, refl, refl, refl, refl, refl, refl, refl, refl)

-- a label with a text of so many bytes, and an item after it
abbrev label : ℕ → List ℕ → Answer (List ℕ)
label n bs = W 2017 (0 ∷ 0 ∷ 0 ∷ (3 + 256 * 2 + 65536 * 8) ∷ 255 ∷ 0 ∷ 1 ∷ 1 ∷ 0 ∷ 1 ∷ n ∷ 1 ∷ 0 ∷ 0 ∷ 1 ∷ []) xy bs

labels : (P 2017 10 1 ≡ refused TABLE 10 0)
    × (label 256 (replicate 257 0) ≡ refused TABLE 10 0)
    × (label 2 (0x41 ∷ []) ≡ refused TABLE 10 0)
    -- the text first, then the item's value
    × (label 2 (0x41 ∷ 0x42 ∷ []) ≡ refused TABLE 14 0)
    × (label 2 (0x41 ∷ 0 ∷ 7 ∷ []) ≡ refused TEXT 14 0)
unfolding computing
labels = (refl, refl, refl, refl, refl)

-- one part, and one item of these four numbers
abbrev item : ℕ → List ℕ → List ℕ → Answer (List ℕ)
item year ns bs = W year ((0 ∷ 0 ∷ 0 ∷ 514 ∷ 255 ∷ 0 ∷ 1 ∷ 1 ∷ 0 ∷ 1 ∷ 0 ∷ []) ++ ns) xy bs

items : (item 2017 (65536 ∷ 3 ∷ 0 ∷ 0 ∷ []) [] ≡ refused TABLE 11 0)
    × (item 2017 (1 ∷ 256 ∷ 0 ∷ 0 ∷ []) [] ≡ refused TABLE 12 0)
    × (item 2017 (1 ∷ 3 ∷ 256 ∷ 0 ∷ []) [] ≡ refused SEMANTIC 12 0)
    × (item 2008 (1 ∷ 128 ∷ 0 ∷ 0 ∷ []) [] ≡ refused TOO_NEW 12 2012)
    × (item 2012 (1 ∷ 128 ∷ 256 ∷ 0 ∷ []) [] ≡ refused TABLE 13 0)
    × (item 2012 (1 ∷ 128 ∷ 0 ∷ 0 ∷ []) [] ≡ refused SEMANTIC 13 0)
    × (item 1999 (1 ∷ 2 ∷ 128 ∷ 2 ∷ []) (7 ∷ 0 ∷ []) ≡ refused SEMANTIC 13 0)
    × (item 2012 (1 ∷ 128 ∷ 255 ∷ 2 ^ 32 ∷ []) [] ≡ refused TABLE 14 0)
    × (item 2012 (1 ∷ 128 ∷ 255 ∷ 3 ∷ []) [] ≡ refused SEMANTIC 14 0)
    × (item 2012 (1 ∷ 128 ∷ 255 ∷ 4 ∷ []) (1 ∷ []) ≡ refused TABLE 14 0)
    × (item 2012 (1 ∷ 128 ∷ 255 ∷ 4 ∷ []) (1 ∷ 0 ∷ 0 ∷ 1 ∷ []) ≡ refused TEXT 14 0)
    × (item 1999 (1 ∷ 0 ∷ 1 ∷ 1 ∷ []) (7 ∷ 0 ∷ []) ≡ refused TABLE 14 0)
unfolding computing
items = (refl, refl, refl, refl, refl, refl, refl, refl, refl, refl, refl, refl)

-- past the first row, part and item; and what is left over, at the table's length
later : (W 2017 (p ++ set p 1 65536) (xy ++ xy) [] ≡ refused TABLE 12 0)
    × (W 2017 (q ++ set p 1 65536) (xy ++ xy) (1 ∷ 2 ∷ []) ≡ refused TABLE 16 0)
    × (W 2017 (p ++ set p 8 2) (xy ++ xy) [] ≡ refused TABLE 19 0)
    × (W 2017 (p ++ p ++ p) (xy ++ xy) [] ≡ refused TABLE 31 0)
    × (parts 2017 0 3 0 (1 ∷ 0 ∷ 1 ∷ 1 ∷ 1 ∷ 0 ∷ []) ≡ refused TABLE 12 0)
    × (parts 2017 0 3 0 (1 ∷ 0 ∷ 1 ∷ 0 ∷ 65536 ∷ 0 ∷ []) ≡ refused COUNT 13 0)
    × (W 2017 (0 ∷ 0 ∷ 0 ∷ 514 ∷ 255 ∷ 0 ∷ 2 ∷ 2 ∷ 0 ∷ 1 ∷ 0 ∷ 1 ∷ 0 ∷ 1 ∷ 2 ∷ 255 ∷ 2 ∷ 1 ∷ 3 ∷ 0 ∷ 0 ∷ []) (xy ++ xy) (1 ∷ 2 ∷ []) ≡ refused SEMANTIC 18 0)
    × (W 2017 p (3 ∷ 4 ∷ 5 ∷ []) [] ≡ refused TABLE 11 0)
    × (W 2017 (p ++ p ++ p) (xy ++ xy ++ xy) (1 ∷ []) ≡ refused TABLE 33 0)
    × (W 2017 (p ++ (7 ∷ [])) (3 ∷ 4 ∷ 5 ∷ []) [] ≡ refused TABLE 11 0)
    × (W 2017 [] xy [] ≡ refused TABLE 0 0)
unfolding computing
later = (refl, refl, refl, refl, refl, refl, refl, refl, refl, refl, refl)
