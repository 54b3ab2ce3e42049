-- An entry of an index, counted from the entry's start: "63 entries of 8 bytes (class code 4, record place 3, localisation 1)" (02, request 3) in an old
-- block; "new blocks carry 56 entries of 9 bytes with a 4-byte place" (02, request 7).
use Rattle.std.specs.Prelude.{ℕ}
use Rattle.layout.specs.Bytes.{Field, field, after}
use Rattle.layout.specs.declared.BlockKind.{BlockKind}
use Rattle.layout.specs.declared.BlockKind.TheVariants.{Old, New}

-- "class code 4"
abbrev pub code : Field
code = field 0 4

-- "record place 3"; "a 4-byte place"
abbrev pub place_width : BlockKind → ℕ
place_width Old = 3
place_width New = 4

abbrev pub place : BlockKind → Field
place kind = field (after code) (place_width kind)

-- "localisation 1"
abbrev pub localisation : BlockKind → Field
localisation kind = field (after (place kind)) 1

-- "8 bytes"; "9 bytes"
abbrev pub size : BlockKind → ℕ
size kind = after (localisation kind)
