-- What the contracts of `to_utf16` and `from_utf16` promise. (02, request 1: "turning there and back gives the same bytes"; "16 for any other coding; 17
-- NO CHARACTER with the index of the byte or 16-bit unit, left to right, then 15".) Of what is lent nothing is asked but its length.
use mathlib.Core.Bool.{true, false}
use mathlib.Core.List.{List, map}
use mathlib.Core.Logic.{◌↔◌}
use mathlib.Core.Path.{◌≡◌, refl, sym, ap, ◌∙◌}
use Prim.Native.Nat.{ℕ, ◌<◌, ◌≤◌}
use lib.ListN.{length, length-map, take}
use native.Mathlib.Omega.{arith}
use Rattle.layout.specs.Answers.Calls.{over, lent}
use Rattle.layout.specs.Answers.Enums.{refusal, written_of}
use Rattle.layout.specs.Answers.Lent.{the_turned}
use Rattle.layout.specs.Codings.Tables.{no_character}
use Rattle.layout.specs.Codings.Turning.{character_of, no_byte, byte_of, to_utf16, from_utf16}
use Rattle.layout.specs.Refusals.{ROOM, ASK, NO_CHARACTER}
use Rattle.layout.specs.Shared.Carried.{label_coding}
use Rattle.layout.specs.Walk.{Answer, given, refused}
use Rattle.layout.specs.declared.Refusal.{Refusal}
use Rattle.laws.proofs.Codings as Law
use Rattle.laws.proofs.Codings.Turned.{AllTurned, FirstWithout}
use Rattle.laws.proofs.Written.{by_length, by_refusal}
use Rattle.promises.proofs.Contracts.{Turns}
use Rattle.promises.proofs.Rooms.{part_again}
use Rattle.std.specs.Prelude.{Result, Ok, Err}
use Rattle.layout.specs.declared.refusals.Reason.{Reason}

-- `back` turns what `turn` gave, and gives a list of the same length
module _ (turn back : ℕ → List ℕ → ℕ → Answer (List ℕ))
    (again : (coding : ℕ) (xs ys : List ℕ) (room more : ℕ) → turn coding xs room ≡ given ys → length ys ≤ more → back coding ys more ≡ given xs)
    (same : (coding : ℕ) (xs ys : List ℕ) (room : ℕ) → turn coding xs room ≡ given ys → length ys ≡ length xs) where
  round : (coding : ℕ) (xs o out : List ℕ) (n : ℕ) → Turns turn coding xs o out (Ok n)
      → (o' out' : List ℕ) (r : Result ℕ Refusal) → Turns back coding (take n out) o' out' r → length xs ≤ length o'
      → (n ≡ length xs) × (r ≡ Ok n) × (out' ≡ over xs o')
  unfolding written_of
  round coding xs o out n w o' out' r v room =
      let (ys, is, long) = by_length (turn coding xs (length o)) n w.0 in
      let l : length ys ≡ length xs = same coding xs ys (length o) is in
      let part : take n out ≡ ys = part_again the_turned _ ys is o out w.1 n long in
      let all : back coding (take n out) (length o') ≡ given xs =
      ap (λ s. back coding s (length o')) part ∙ again coding xs ys (length o) (length o') is (omega (arith, l, room)) in
      (long ∙ l, v.0 ∙ ap written_of all ∙ ap Ok (sym (long ∙ l)), v.1 ∙ ap (λ a. lent the_turned a o') all)

-- A text that `to_utf16` has turned is given back by `from_utf16`, byte for byte, where there is room, and as many units as bytes stand between.
pub there_and_back : (coding : ℕ) (text o out : List ℕ) (n : ℕ) → Turns to_utf16 coding text o out (Ok n)
    → (o' out' : List ℕ) (r : Result ℕ Refusal) → Turns from_utf16 coding (take n out) o' out' r → length text ≤ length o'
    → (n ≡ length text) × (r ≡ Ok n) × (out' ≡ over text o')
there_and_back = round to_utf16 from_utf16 Law.there_and_back Law.same_length

-- The other way round.
pub back_and_there : (coding : ℕ) (units o out : List ℕ) (n : ℕ) → Turns from_utf16 coding units o out (Ok n)
    → (o' out' : List ℕ) (r : Result ℕ Refusal) → Turns to_utf16 coding (take n out) o' out' r → length units ≤ length o'
    → (n ≡ length units) × (r ≡ Ok n) × (out' ≡ over units o')
back_and_there = round from_utf16 to_utf16 Law.back_and_there Law.same-length_back

-- one call, whose definition is `turn`
module _ (turn : ℕ → List ℕ → ℕ → Answer (List ℕ)) (coding : ℕ) (xs o out : List ℕ) (r : Result ℕ Refusal) (w : Turns turn coding xs o out r) where
  -- A refusal leaves the slice as it was.
  pub refused_kept : (q : Refusal) → r ≡ Err q → out ≡ o
  refused_kept q e = w.1 ∙ ap (λ a. lent the_turned a o) (by_refusal (turn coding xs (length o)) q (sym e ∙ w.0))

  -- what the definition refuses, the call refuses
  refuses : (reason : Reason) (place : ℕ) → turn coding xs (length o) ≡ refused reason place 0 → (r ≡ Err (refusal reason place 0)) × (out ≡ o)
  unfolding written_of
  refuses reason place e = (w.0 ∙ ap written_of e, w.1 ∙ ap (λ a. lent the_turned a o) e)

  -- what the definition gives, one by one, the call writes
  gives : (f : ℕ → ℕ) → turn coding xs (length o) ≡ given (map f xs) → (r ≡ Ok (length xs)) × (out ≡ over (map f xs) o)
  unfolding written_of
  gives f e = (w.0 ∙ ap written_of e ∙ ap Ok (length-map xs f), w.1 ∙ ap (λ a. lent the_turned a o) e)

  -- NO CHARACTER is answered where the definition refuses so
  exactly : (P : ℕ → Type 0) → ((i : ℕ) → (turn coding xs (length o) ≡ refused NO_CHARACTER i 0) ↔ P i)
      → (i : ℕ) → (r ≡ Err (refusal NO_CHARACTER i 0)) ↔ P i
  exactly P law i = (
    λ e. (law i).0 (by_refusal (turn coding xs (length o)) (refusal NO_CHARACTER i 0) (sym e ∙ w.0)),
    λ p. (refuses NO_CHARACTER i ((law i).1 p)).0,
  )

-- `to_utf16`
module _ (coding : ℕ) (text o out : List ℕ) (r : Result ℕ Refusal) (w : Turns to_utf16 coding text o out r) where
  -- With a good coding a text of which each byte has a character is turned, where there is room: its characters stand at the start of the slice.
  pub turned-there : label_coding coding ≡ true → AllTurned (character_of coding) no_character text → length text ≤ length o
      → (r ≡ Ok (length text)) × (out ≡ over (map (character_of coding) text) o)
  turned-there good all room =
      gives to_utf16 coding text o out r w (character_of coding) ((Law.given-there coding text (length o) _).1 (good, all, room, refl))

  -- Any other coding is ASK;
  pub ask-there : label_coding coding ≡ false → (r ≡ Err (refusal ASK 0 0)) × (out ≡ o)
  ask-there bad = refuses to_utf16 coding text o out r w ASK 0 (Law.ask-there coding text (length o) bad)

  -- with a good one NO CHARACTER is answered exactly where there is a byte without a character, at the first one, however little is lent;
  pub first_byte : label_coding coding ≡ true
      → (i : ℕ) → (r ≡ Err (refusal NO_CHARACTER i 0)) ↔ FirstWithout (character_of coding) no_character text i
  first_byte good = exactly to_utf16 coding text o out r w _ (λ i. Law.first_byte coding text (length o) i good)

  -- and ROOM where each has one, and they do not fit.
  pub room-there : label_coding coding ≡ true → AllTurned (character_of coding) no_character text → length o < length text
      → (r ≡ Err (refusal ROOM 0 0)) × (out ≡ o)
  room-there good all short = refuses to_utf16 coding text o out r w ROOM 0 (Law.room-there coding text (length o) good all short)

-- `from_utf16`, in the same words
module _ (coding : ℕ) (units o out : List ℕ) (r : Result ℕ Refusal) (w : Turns from_utf16 coding units o out r) where
  pub turned_back : label_coding coding ≡ true → AllTurned (byte_of coding) no_byte units → length units ≤ length o
      → (r ≡ Ok (length units)) × (out ≡ over (map (byte_of coding) units) o)
  turned_back good all room =
      gives from_utf16 coding units o out r w (byte_of coding) ((Law.given_back coding units (length o) _).1 (good, all, room, refl))

  pub ask_back : label_coding coding ≡ false → (r ≡ Err (refusal ASK 0 0)) × (out ≡ o)
  ask_back bad = refuses from_utf16 coding units o out r w ASK 0 (Law.ask_back coding units (length o) bad)

  pub first-unit : label_coding coding ≡ true
      → (i : ℕ) → (r ≡ Err (refusal NO_CHARACTER i 0)) ↔ FirstWithout (byte_of coding) no_byte units i
  first-unit good = exactly from_utf16 coding units o out r w _ (λ i. Law.first-unit coding units (length o) i good)

  pub room_back : label_coding coding ≡ true → AllTurned (byte_of coding) no_byte units → length o < length units
      → (r ≡ Err (refusal ROOM 0 0)) × (out ≡ o)
  room_back good all short = refuses from_utf16 coding units o out r w ROOM 0 (Law.room_back coding units (length o) good all short)
