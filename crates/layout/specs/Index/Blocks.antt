-- The bytes of a code index, in blocks of either kind. (02, request 3: "Keep a file of 512-byte blocks"; "Entries follow record order, blocks are full
-- except the last, unused entries are zero, and an empty sheet has no blocks." Request 7: "a file holds one kind only")
use Rattle.std.specs.Prelude.{ℕ, zero, suc, ◌+◌, ◌-◌, ◌*◌, ◌/◌, ◌%◌, ◌^◌, ◌≤◌, List, [], ◌++◌, length, take, drop, replicate}
use Rattle.layout.specs.Bytes.{All, flat, stored, total}
use Rattle.layout.specs.Fields.Block
use Rattle.layout.specs.Fields.Entry as Field
use Rattle.layout.specs.Layout.Fine.{Fits}
use Rattle.layout.specs.declared.BlockKind.{BlockKind}
use Rattle.layout.specs.declared.Entry.{Entry}

unfoldable pub encode_entry : BlockKind → Entry → List ℕ
encode_entry kind e = stored Field.code e.code ++ stored (Field.place kind) e.place ++ stored (Field.localisation kind) e.localisation

-- the first 510 bytes of a block: its number, its count, its entries, zeros for those that are not used, and the two bytes before the sum
unfoldable pub encode_unsummed : BlockKind → ℕ → List Entry → List ℕ
encode_unsummed kind number es =
    stored Block.number number
    ++ stored Block.count (length es)
    ++ flat (encode_entry kind) es
    ++ replicate ((Block.entries).width - Field.size kind * length es) 0
    ++ stored Block.ending (Block.ending_is kind)

-- "the sum of the first 510 bytes modulo 65536"
abbrev pub block_sum : List ℕ → ℕ
block_sum xs = total xs % 65536

unfoldable pub encode_block : BlockKind → ℕ → List Entry → List ℕ
encode_block kind number es = encode_unsummed kind number es ++ stored Block.sum (block_sum (encode_unsummed kind number es))

-- n blocks, numbered from `number` on
unfoldable pub encode_blocks : BlockKind → ℕ → ℕ → List Entry → List ℕ
encode_blocks kind zero number es = []
encode_blocks kind (suc n) number es =
    encode_block kind number (take (Block.full kind) es) ++ encode_blocks kind n (suc number) (drop (Block.full kind) es)

-- how many pieces of a size are begun by n
abbrev pub begun : ℕ → ℕ → ℕ
begun size n = (n + (size - 1)) / size

unfoldable pub encode_index : BlockKind → List Entry → List ℕ
encode_index kind es = encode_blocks kind (begun (Block.full kind) (length es)) 0 es

-- Entries that have an index of a kind: each number fits its field, and the block numbers fit theirs.
pub record FineEntry (kind : BlockKind) (e : Entry) : Type 0 where
  pub code : Fits Field.code e.code
  pub place : Fits (Field.place kind) e.place
  pub localisation : Fits (Field.localisation kind) e.localisation

pub record FineEntries (kind : BlockKind) (es : List Entry) : Type 0 where
  pub entries : All (FineEntry kind) es
  pub blocks : begun (Block.full kind) (length es) ≤ 256 ^ (Block.number).width
