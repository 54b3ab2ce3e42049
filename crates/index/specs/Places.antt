-- The entries of an index, each at its own place.
use Rattle.std.specs.Prelude.{ℕ, zero, suc, ◌+◌, ◌*◌, ◌/◌, ◌%◌, ◌^◌, ◌≤◌, ◌<◌, List, [], ◌∷◌, length, drop}
use Rattle.layout.specs.Fields.Block
use Rattle.layout.specs.Fields.Entry as Field
use Rattle.layout.specs.Index.Blocks.{begun}
use Rattle.layout.specs.Index.Reading.{entry_in}
use Rattle.layout.specs.declared.BlockKind.{BlockKind}
use Rattle.layout.specs.declared.Entry.{Entry}

-- where entry i stands in blocks of a kind
abbrev pub place_of : BlockKind → ℕ → ℕ
place_of kind i = Block.size * (i / Block.full kind) + ((Block.entries).place + Field.size kind * (i % Block.full kind))

abbrev pub entry_at : BlockKind → List ℕ → ℕ → Entry
entry_at kind xs i = entry_in kind (drop (place_of kind i) xs)

-- n entries from entry i on
unfoldable pub entries_at : BlockKind → List ℕ → ℕ → ℕ → List Entry
entries_at kind xs i zero = []
entries_at kind xs i (suc n) = entry_at kind xs i ∷ entries_at kind xs (suc i) n

-- the blocks of n entries are within the bytes, and n is small
abbrev pub Holds : BlockKind → ℕ → List ℕ → Type 0
Holds kind n xs = (Block.size * begun (Block.full kind) n ≤ length xs) × (n < 2 ^ 32)
