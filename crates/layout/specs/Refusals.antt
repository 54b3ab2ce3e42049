-- The refusals by the documents' numbers and names: sixteen of document 01 (The refusals), and those of the requests of 02.
use Rattle.std.specs.Prelude.{ℕ, ◌≡◌, refl}
use Rattle.layout.specs.declared.refusals.Reason.{Reason}
use Rattle.layout.specs.declared.refusals.Reason.TheVariants as For

-- the sheet is over the limit
abbrev pub TOO_LONG : Reason
TOO_LONG = For.TooLong

-- under 452 bytes; under 32 left for a record; a total length past the end
abbrev pub SHORT : Reason
SHORT = For.Short

-- an identifier differs
abbrev pub NOT_SXF : Reason
NOT_SXF = For.NotSxf

-- a fixed length or the edition differs
abbrev pub EDITION : Reason
EDITION = For.Edition

-- the sum differs
abbrev pub SUM : Reason
SUM = For.Sum

-- a text field without a zero; a text that is too long for its field, or has a zero; a closing zero is missing
abbrev pub TEXT : Reason
TEXT = For.Text

-- a value that is not allowed at a flag, code or reserved field
abbrev pub RESERVED : Reason
RESERVED = For.Reserved

-- a feature later than the setting
abbrev pub TOO_NEW : Reason
TOO_NEW = For.TooNew

-- binding vector or graphics bit
abbrev pub NOT_CARRIED : Reason
NOT_CARRIED = For.NotCarried

-- a length that is too small, does not fit or leaves bytes over
abbrev pub LENGTH : Reason
LENGTH = For.Length

-- "11 now stands only for N1 not zero without the mark and, in the writer, for mark 0 with a first count of 65535 or more or a later count
-- over 65535, and for mark 1 with a word that differs from the first count" (02, request 2)
abbrev pub COUNT : Reason
COUNT = For.Count

-- an item's unknown type, bad scale, or bad length of type 128
abbrev pub SEMANTIC : Reason
SEMANTIC = For.Semantic

-- bytes after the last record
abbrev pub LEFT_OVER : Reason
LEFT_OVER = For.LeftOver

-- the numbers given are not a record table
abbrev pub TABLE : Reason
TABLE = For.Table

-- a lent output is too small
abbrev pub ROOM : Reason
ROOM = For.Room

-- the setting is not one of nine, or the record number is not below the count; "16 for any other coding" (02, request 1)
abbrev pub ASK : Reason
ASK = For.Ask

-- a byte has no character, or a 16-bit unit no byte (02, request 1)
abbrev pub NO_CHARACTER : Reason
NO_CHARACTER = For.NoCharacter

-- "18 BAD BLOCK with the block's place, for a wrong length, number, count, filling or sum, blocks in order" (02, request 3);
-- "18 also for mixed kinds" (request 7)
abbrev pub BAD_BLOCK : Reason
BAD_BLOCK = For.BadBlock

-- the documents' number of a refusal
abbrev pub refusal_number : Reason → ℕ
refusal_number For.TooLong = 1
refusal_number For.Short = 2
refusal_number For.NotSxf = 3
refusal_number For.Edition = 4
refusal_number For.Sum = 5
refusal_number For.Text = 6
refusal_number For.Reserved = 7
refusal_number For.TooNew = 8
refusal_number For.NotCarried = 9
refusal_number For.Length = 10
refusal_number For.Count = 11
refusal_number For.Semantic = 12
refusal_number For.LeftOver = 13
refusal_number For.Table = 14
refusal_number For.Room = 15
refusal_number For.Ask = 16
refusal_number For.NoCharacter = 17
refusal_number For.BadBlock = 18

-- each name and the number that the documents give it; that of BAD BLOCK is a case of laws (`blocks`, Cases/Index)
numbers : (refusal_number TOO_LONG ≡ 1) × (refusal_number SHORT ≡ 2) × (refusal_number NOT_SXF ≡ 3)
    × (refusal_number EDITION ≡ 4) × (refusal_number SUM ≡ 5) × (refusal_number TEXT ≡ 6)
    × (refusal_number RESERVED ≡ 7) × (refusal_number TOO_NEW ≡ 8) × (refusal_number NOT_CARRIED ≡ 9)
    × (refusal_number LENGTH ≡ 10) × (refusal_number COUNT ≡ 11) × (refusal_number SEMANTIC ≡ 12)
    × (refusal_number LEFT_OVER ≡ 13) × (refusal_number TABLE ≡ 14) × (refusal_number ROOM ≡ 15)
    × (refusal_number ASK ≡ 16) × (refusal_number NO_CHARACTER ≡ 17)
numbers = (refl, refl, refl, refl, refl, refl, refl, refl, refl, refl, refl, refl, refl, refl, refl, refl, refl)
