-- How the code reads its tables. On the way back the only byte that can have a character stands in the character's slot, and the table says
-- whether it has it.
use Rattle.std.specs.Prelude.{ℕ, ◌*◌, ◌/◌, ◌%◌, Bool, ◌&&◌, not, ◌||◌, List, eqb, ltb, length, get_or}
use Rattle.layout.specs.Codings.Tables.{no_character}
use Rattle.laws.proofs.Base.Every.{every}

abbrev pub read_in : List ℕ → ℕ → ℕ
read_in table k = get_or table k 0

-- no two characters of one coding have the same of the 1024 slots
abbrev pub slot_of : ℕ → ℕ
slot_of character = character * 227 / 16 % 1024

abbrev pub guess_in : List ℕ → ℕ → ℕ
guess_in slots character = read_in slots (slot_of character)

-- the guess is wrong: the character has no byte
unfoldable pub misses : List ℕ → List ℕ → ℕ → Bool
misses slots table character = not (eqb (read_in table (guess_in slots character)) character)

-- The slots fit the table: each of the 1024 is a byte, a byte that has a character is its guess, and what is no character is not found.
unfoldable pub fit : List ℕ → List ℕ → Bool
fit table slots =
    eqb (length slots) 1024
    && every (λ k slot. ltb slot 256) 0 slots
    && every (λ byte character. eqb character no_character || eqb (guess_in slots character) byte) 0 table
    && misses slots table no_character
