-- What is promised of the three codings. (02, request 1: "Shown once over the three tables: no two bytes of one coding share a character, and
-- turning there and back gives the same bytes. Byte 0x98 of page 1251 has no character.")
use Prim.Native.Nat.{ℕ, ◌≤◌, ◌<◌}
use mathlib.Core.Bool.{true, false, ◌&&◌}
use mathlib.Core.List.{List, map}
use mathlib.Core.Logic.{◌≢◌, ◌↔◌}
use mathlib.Core.Path.{◌≡◌, sym, ap, ◌∙◌}
use borrow.Author.Tests.{leb-true, leb-false}
use lib.Dec.{eqb}
use lib.ListN.{length, get_or, length-map}
use native.Mathlib.Omega.{arith}
use Rattle.layout.specs.Bytes.{agree}
use Rattle.layout.specs.Codings.Tables.{no_character}
use Rattle.layout.specs.Codings.Turning.{table_of, character_of, no_byte, byte_of, turned, to_utf16, from_utf16}
use Rattle.layout.specs.Refusals.{ROOM, ASK, NO_CHARACTER}
use Rattle.layout.specs.Shared.Carried.{label_coding}
use Rattle.layout.specs.Walk.{given, refused}
use Rattle.laws.proofs.Base.Every.{entry}
use Rattle.laws.proofs.Codings.Tables.{place_in, table-length, place_back, is_byte, byte_back, character_back, agree-is, without}
use Rattle.laws.proofs.Codings.Turned.{was_turned, turned-ask, AllTurned, FirstWithout, given_exactly, refused-room, refused-first, turned_back}
pub mod Tables
pub mod Turned

-- No two bytes of one coding share a character.
pub distinct : (coding a b : ℕ) → character_of coding a ≢ no_character → character_of coding a ≡ character_of coding b → a ≡ b
distinct coding a b h e =
    let hb : character_of coding b ≢ no_character = λ q. h (e ∙ q) in
    sym (place_back coding a (is_byte coding a h)) ∙ ap (place_in (table_of coding)) e ∙ place_back coding b (is_byte coding b hb)

-- The only byte without a character is 0x98 of page 1251.
pub only_one : (coding byte : ℕ) → byte < 256 → eqb (character_of coding byte) no_character ≡ (eqb coding 1 && eqb byte 0x98)
unfolding character_of
only_one coding byte h =
    agree-is (eqb (get_or (table_of coding) byte no_character) no_character) (eqb coding 1 && eqb byte 0x98)
    (entry (λ k x. agree (eqb x no_character) (eqb coding 1 && eqb k 0x98)) (table_of coding) no_character (without coding) byte (rw table-length h))

-- A text is given exactly where its coding is one of the three, each byte of it has a character, and it fits; and then it is these characters.
pub given-there : (coding : ℕ) (text : List ℕ) (room : ℕ) (units : List ℕ) → (to_utf16 coding text room ≡ given units)
    ↔ ((label_coding coding ≡ true) × AllTurned (character_of coding) no_character text × (length text ≤ room) × (map (character_of coding) text ≡ units))
given-there coding text room units = given_exactly (character_of coding) no_character coding text room units

pub given_back : (coding : ℕ) (units : List ℕ) (room : ℕ) (text : List ℕ) → (from_utf16 coding units room ≡ given text)
    ↔ ((label_coding coding ≡ true) × AllTurned (byte_of coding) no_byte units × (length units ≤ room) × (map (byte_of coding) units ≡ text))
given_back coding units room text = given_exactly (byte_of coding) no_byte coding units room text

-- Turning there and back gives the same bytes,
pub there_and_back : (coding : ℕ) (text units : List ℕ) (room more : ℕ)
    → to_utf16 coding text room ≡ given units → length units ≤ more → from_utf16 coding units more ≡ given text
there_and_back coding text units room more =
    turned_back (character_of coding) (byte_of coding) no_character no_byte
    (λ x h. (byte_back coding x h, λ e. omega (arith, is_byte coding x h, e))) coding text units room more

-- and back and there the same units.
pub back_and_there : (coding : ℕ) (units text : List ℕ) (room more : ℕ)
    → from_utf16 coding units room ≡ given text → length text ≤ more → to_utf16 coding text more ≡ given units
back_and_there coding units text room more =
    turned_back (byte_of coding) (character_of coding) no_byte no_character (character_back coding) coding units text room more

-- One unit a byte, and one byte a unit.
same-length-of : (f : ℕ → ℕ) (none coding : ℕ) (xs ys : List ℕ) (room : ℕ) → turned f none coding xs room ≡ given ys → length ys ≡ length xs
same-length-of f none coding xs ys room e = ap length (sym (was_turned f none coding xs room ys e).is) ∙ length-map xs f

pub same_length : (coding : ℕ) (text units : List ℕ) (room : ℕ) → to_utf16 coding text room ≡ given units → length units ≡ length text
same_length coding text units room = same-length-of (character_of coding) no_character coding text units room

pub same-length_back : (coding : ℕ) (units text : List ℕ) (room : ℕ) → from_utf16 coding units room ≡ given text → length text ≡ length units
same-length_back coding units text room = same-length-of (byte_of coding) no_byte coding units text room

-- The refusals in their order. A coding that is none of the three is ASK, whatever else;
pub ask-there : (coding : ℕ) (text : List ℕ) (room : ℕ) → label_coding coding ≡ false → to_utf16 coding text room ≡ refused ASK 0 0
ask-there coding text room bad = turned-ask (character_of coding) no_character coding text room (leb-false coding 2 bad)

pub ask_back : (coding : ℕ) (units : List ℕ) (room : ℕ) → label_coding coding ≡ false → from_utf16 coding units room ≡ refused ASK 0 0
ask_back coding units room bad = turned-ask (byte_of coding) no_byte coding units room (leb-false coding 2 bad)

-- with a good one NO CHARACTER is given exactly where the text has a byte without a character, at the first one, however little is lent,
pub first_byte : (coding : ℕ) (text : List ℕ) (room index : ℕ) → label_coding coding ≡ true
    → (to_utf16 coding text room ≡ refused NO_CHARACTER index 0) ↔ FirstWithout (character_of coding) no_character text index
first_byte coding text room index good = refused-first (character_of coding) no_character coding (leb-true coding 2 good) text room index

-- and back where there is a unit without a byte;
pub first-unit : (coding : ℕ) (units : List ℕ) (room index : ℕ) → label_coding coding ≡ true
    → (from_utf16 coding units room ≡ refused NO_CHARACTER index 0) ↔ FirstWithout (byte_of coding) no_byte units index
first-unit coding units room index good = refused-first (byte_of coding) no_byte coding (leb-true coding 2 good) units room index

-- and where each of it is turned but does not fit, ROOM.
pub room-there : (coding : ℕ) (text : List ℕ) (room : ℕ) → label_coding coding ≡ true → AllTurned (character_of coding) no_character text
    → room < length text → to_utf16 coding text room ≡ refused ROOM 0 0
room-there coding text room good = refused-room (character_of coding) no_character coding (leb-true coding 2 good) text room

pub room_back : (coding : ℕ) (units : List ℕ) (room : ℕ) → label_coding coding ≡ true → AllTurned (byte_of coding) no_byte units
    → room < length units → from_utf16 coding units room ≡ refused ROOM 0 0
room_back coding units room good = refused-room (byte_of coding) no_byte coding (leb-true coding 2 good) units room
