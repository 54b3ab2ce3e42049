-- Text of three codings turned into UTF-16, and back. (02, request 1: "Editors type Cyrillic and get one-byte text in three codings (passport
-- byte 97: DOS, Windows, KOI-8). We want text of any of these turned into UTF-16 and back, over the published Unicode mapping tables for code
-- pages 866 and 1251 and for KOI8-R. The caller names the coding.") A text is a list of bytes, UTF-16 a list of 16-bit units; each byte is one unit.
use Rattle.std.specs.Prelude.{ℕ, suc, Bool, cond, List, [], ◌∷◌, map, ◌≡◌, refl, eqb, ltb, length, get_or}
use Rattle.layout.specs.Answers.Calls.{in_room}
use Rattle.layout.specs.Codings.Tables.{no_character, page866, page1251, koi8r}
use Rattle.layout.specs.Refusals.{ASK, NO_CHARACTER, ROOM, refusal_number}
use Rattle.layout.specs.Shared.Carried.{label_coding}
use Rattle.layout.specs.Walk.{Answer, given, refused}

-- the index of the first of which the test holds; the length of the list, where there is none
unfoldable pub first_of : (ℕ → Bool) → List ℕ → ℕ
first_of test [] = 0
first_of test (x ∷ xs) = cond (test x) 0 (suc (first_of test xs))

-- the characters of a coding by byte; a coding is the number at passport byte 97: 0 is DOS, 1 Windows, 2 KOI-8
unfoldable pub table_of : ℕ → List ℕ
table_of coding = cond (eqb coding 0) page866 (cond (eqb coding 1) page1251 koi8r)

-- the character of a byte, or none
unfoldable pub character_of : ℕ → ℕ → ℕ
character_of coding byte = get_or (table_of coding) byte no_character

-- The byte of a character is the index at which the table has it; where it has it nowhere, 256, which is no byte. 0xFFFF is no character, so it
-- has no byte, though page 1251's list has it at 0x98.
abbrev pub no_byte : ℕ
no_byte = 256

unfoldable pub byte_of : ℕ → ℕ → ℕ
byte_of coding character = cond (eqb character no_character) no_byte (first_of (λ other. eqb other character) (table_of coding))

-- whether x is turned into nothing
abbrev pub lacks : (ℕ → ℕ) → ℕ → ℕ → Bool
lacks turn none x = eqb (turn x) none

-- "Refusals: 16 for any other coding; 17 NO CHARACTER with the index of the byte or 16-bit unit, left to right, then 15."
unfoldable pub turned : (ℕ → ℕ) → ℕ → ℕ → List ℕ → ℕ → Answer (List ℕ)
turned turn none coding xs room =
    let first : ℕ = first_of (lacks turn none) xs in
    cond (label_coding coding)
    (cond (ltb first (length xs)) (refused NO_CHARACTER first 0) (in_room room (map turn xs)))
    (refused ASK 0 0)

abbrev pub to_utf16 : ℕ → List ℕ → ℕ → Answer (List ℕ)
to_utf16 coding text room = turned (character_of coding) no_character coding text room

abbrev pub from_utf16 : ℕ → List ℕ → ℕ → Answer (List ℕ)
from_utf16 coding units room = turned (byte_of coding) no_byte coding units room

-- "Яё" in the three codings, and a text of no byte
words : (to_utf16 0 (0x9F ∷ 0xF1 ∷ []) 2 ≡ given (0x042F ∷ 0x0451 ∷ [])) × (to_utf16 1 (0xDF ∷ 0xB8 ∷ []) 2 ≡ given (0x042F ∷ 0x0451 ∷ []))
    × (to_utf16 2 (0xF1 ∷ 0xA3 ∷ []) 9 ≡ given (0x042F ∷ 0x0451 ∷ [])) × (from_utf16 0 (0x042F ∷ 0x0451 ∷ []) 2 ≡ given (0x9F ∷ 0xF1 ∷ []))
    × (from_utf16 1 (0x042F ∷ 0x0451 ∷ []) 9 ≡ given (0xDF ∷ 0xB8 ∷ [])) × (from_utf16 2 (0x042F ∷ 0x0451 ∷ []) 2 ≡ given (0xF1 ∷ 0xA3 ∷ []))
    × (to_utf16 0 [] 0 ≡ given []) × (to_utf16 1 (0 ∷ 0x1B ∷ 0x7F ∷ []) 3 ≡ given (0 ∷ 0x1B ∷ 0x7F ∷ []))
unfolding turned first_of table_of character_of byte_of page866 page1251 koi8r
words = (refl, refl, refl, refl, refl, refl, refl, refl)

-- ASK comes first, then the first that has none, however short the output is, then ROOM; a surrogate has no byte, nor has 0xFFFF
refusals : (to_utf16 3 (0x41 ∷ []) 0 ≡ refused ASK 0 0) × (to_utf16 1 (0x41 ∷ 0x98 ∷ 0x98 ∷ []) 0 ≡ refused NO_CHARACTER 1 0)
    × (to_utf16 0 (0x41 ∷ 0x98 ∷ []) 1 ≡ refused ROOM 0 0) × (from_utf16 4294967295 (0xFFFF ∷ []) 0 ≡ refused ASK 0 0)
    × (from_utf16 1 (0xFFFF ∷ []) 1 ≡ refused NO_CHARACTER 0 0) × (from_utf16 0 (0x41 ∷ 0x00A0 ∷ 0x2026 ∷ []) 0 ≡ refused NO_CHARACTER 2 0)
    × (from_utf16 2 (0x41 ∷ 0xD83D ∷ []) 0 ≡ refused NO_CHARACTER 1 0) × (from_utf16 2 (0x41 ∷ 0x00A9 ∷ []) 1 ≡ refused ROOM 0 0)
    × (refusal_number ASK ≡ 16) × (refusal_number NO_CHARACTER ≡ 17) × (refusal_number ROOM ≡ 15)
unfolding turned first_of table_of character_of byte_of page866 page1251 koi8r
refusals = (refl, refl, refl, refl, refl, refl, refl, refl, refl, refl, refl)
