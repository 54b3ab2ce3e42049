-- An index read back: its entries, or the first block that is bad. (02, request 3: "18 BAD BLOCK with the block's place, for a wrong length, number,
-- count, filling or sum, blocks in order"; request 7: "18 also for mixed kinds") The place is the block's first byte. What entries hold is not judged.
use Rattle.std.specs.Prelude.{ℕ, zero, suc, ◌*◌, Bool, cond, ◌&&◌, List, [], ◌∷◌, ◌++◌, leb, eqb, length, take, drop}
use Rattle.layout.specs.Answers.Calls.{and_then}
use Rattle.layout.specs.Bytes.{number_in, bytes_in, zeros}
use Rattle.layout.specs.Fields.Block
use Rattle.layout.specs.Fields.Entry as Field
use Rattle.layout.specs.Index.Blocks.{block_sum, begun}
use Rattle.layout.specs.Refusals.{BAD_BLOCK}
use Rattle.layout.specs.Walk.{Answer, given, refused}
use Rattle.layout.specs.declared.BlockKind.{BlockKind}
use Rattle.layout.specs.declared.BlockKind.TheVariants.{Old, New}
use Rattle.layout.specs.declared.Entry.{Entry}

-- xs are the bytes from the entry's start on
abbrev pub entry_in : BlockKind → List ℕ → Entry
entry_in kind xs =
    record { code = number_in Field.code xs; place = number_in (Field.place kind) xs; localisation = number_in (Field.localisation kind) xs }

-- so many entries, one after another
unfoldable pub entries_from : BlockKind → ℕ → List ℕ → List Entry
entries_from kind zero xs = []
entries_from kind (suc n) xs = entry_in kind xs ∷ entries_from kind n (drop (Field.size kind) xs)

-- Of a block, xs are the bytes from its start to the end of the index.
abbrev pub count_in : List ℕ → ℕ
count_in xs = number_in Block.count xs

unfoldable pub block_entries : BlockKind → List ℕ → List Entry
block_entries kind xs = entries_from kind (count_in xs) (bytes_in Block.entries xs)

-- the bytes of the 63 or 56 entries that are not used
abbrev pub unused : BlockKind → List ℕ → List ℕ
unused kind xs = drop (Field.size kind * count_in xs) (bytes_in Block.entries xs)

-- "blocks are full except the last", which has an entry at least: "an empty sheet has no blocks"
abbrev pub good_count : BlockKind → Bool → ℕ → Bool
good_count kind last count = cond last (leb 1 count && leb count (Block.full kind)) (eqb count (Block.full kind))

-- "a wrong length, number, count, filling or sum": "unused entries are zero", and the two bytes before the sum are those of the file's kind ("18 also
-- for mixed kinds"). A piece of fewer than 512 bytes at the end is a block of a wrong length, so the block before it is not the last.
unfoldable pub good_block : BlockKind → ℕ → List ℕ → Bool
good_block kind number xs =
    leb Block.size (length xs)
    && eqb (number_in Block.number xs) number
    && good_count kind (leb (length xs) Block.size) (count_in xs)
    && zeros (unused kind xs)
    && eqb (number_in Block.ending xs) (Block.ending_is kind)
    && eqb (number_in Block.sum xs) (block_sum (take (Block.sum).place xs))

unfoldable pub block_in : BlockKind → ℕ → List ℕ → Answer (List Entry)
block_in kind number xs = cond (good_block kind number xs) (given (block_entries kind xs)) (refused BAD_BLOCK (Block.size * number) 0)

-- n blocks, numbered from `number` on: "blocks in order"
unfoldable pub blocks_in : BlockKind → ℕ → ℕ → List ℕ → Answer (List Entry)
blocks_in kind zero number xs = given []
blocks_in kind (suc n) number xs =
    and_then (block_in kind number xs) (λ es. and_then (blocks_in kind n (suc number) (drop Block.size xs)) (λ more. given (es ++ more)))

-- "a file holds one kind only": its first block is new by the two bytes before its sum, or else old. Where these bytes hold neither 1 and 0 nor 0 and 0,
-- or fewer than 512 bytes are there, that block is bad in either kind, and no answer rests on which it is called.
abbrev pub file_kind : List ℕ → BlockKind
file_kind xs = cond (leb Block.size (length xs) && eqb (number_in Block.ending xs) (Block.ending_is New)) New Old

-- "Old blocks stay readable"
unfoldable pub entries_in : List ℕ → Answer (List Entry)
entries_in xs = blocks_in (file_kind xs) (begun Block.size (length xs)) 0 xs
