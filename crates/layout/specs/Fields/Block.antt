-- A block of an index, counted from the block's start. (02, request 3: "Keep a file of 512-byte blocks: block number from 0 (2 bytes), entry
-- count (2), 63 entries of 8 bytes [..], two zero bytes, and the sum of the first 510 bytes modulo 65536." Request 7: "new blocks carry 56 entries
-- of 9 bytes [..], and their two bytes before the sum hold 1 and 0 in place of zeros.")
use Rattle.std.specs.Prelude.{ℕ, ◌*◌, ◌≡◌, refl}
use Rattle.layout.specs.Bytes.{Field, field, after}
use Rattle.layout.specs.Fields.Entry
use Rattle.layout.specs.declared.BlockKind.{BlockKind}
use Rattle.layout.specs.declared.BlockKind.TheVariants.{Old, New}

-- "block number from 0 (2 bytes)"
abbrev pub number : Field
number = field 0 2

-- "entry count (2)"
abbrev pub count : Field
count = field 2 2

-- "63 entries"; "56 entries": how many a full block has
abbrev pub full : BlockKind → ℕ
full Old = 63
full New = 56

-- where they stand: 56 times 9 bytes, which are 63 times 8
abbrev pub entries : Field
entries = field (after count) (Entry.size New * full New)

-- "two zero bytes"; "their two bytes before the sum hold 1 and 0"
abbrev pub ending : Field
ending = field (after entries) 2

abbrev pub ending_is : BlockKind → ℕ
ending_is Old = 0
ending_is New = 1

-- where the sum stands
abbrev pub sum : Field
sum = field (after ending) 2

-- "512-byte blocks"
abbrev pub size : ℕ
size = after sum

cases : (Entry.size Old * full Old ≡ entries.width) × (sum.place ≡ 510) × (size ≡ 512)
cases = (refl, refl, refl)
