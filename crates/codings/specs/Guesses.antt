-- What the code reads out of a coding's table and slots is what the definitions turn to: the guess of a character's slot is sound by the look
-- into the table, and complete since the slots fit it (`fit`).
use Prim.Native.Nat.{ℕ, zero, suc, ◌<◌}
use mathlib.Core.Bool.{Bool, true, false, not, ◌||◌}
use mathlib.Core.List.{List, [], ◌∷◌}
use mathlib.Core.Logic.{◌≢◌}
use mathlib.Core.Path.{◌≡◌, refl, sym, subst, ◌∙◌}
use borrow.Author.Tests.{eqb-true, eqb-false, ltb-true, ne_eqb, not-true}
use lib.Dec.{eqb, ltb}
use lib.ListN.{length, get_or}
use native.Mathlib.Omega.{arith}
use Rattle.layout.specs.Codings.Tables.{no_character}
use Rattle.layout.specs.Codings.Turning.{table_of, character_of, no_byte, byte_of, lacks}
use Rattle.laws.proofs.Base.Every.{every, entry}
use Rattle.laws.proofs.Base.Lists.{both_true}
use Rattle.laws.proofs.Codings.Tables.{table-length, is_byte, byte_back, character_back}
use Rattle.codings.specs.Slots.{read_in, slot_of, guess_in, misses, fit}

-- an entry as the code reads it has 0 past the end, where the definition has no character
read_is : (t : List ℕ) (k d e : ℕ) → k < length t → get_or t k d ≡ get_or t k e
read_is [] k d e h = absurd (omega arith)
read_is (x ∷ t) zero d e h = refl
read_is (x ∷ t) (suc k) d e h = read_is t k d e (omega arith)

read_byte : (c b : ℕ) → b < 256 → read_in (table_of c) b ≡ character_of c b
unfolding character_of
read_byte c b h = read_is (table_of c) b 0 no_character (rw table-length h)

-- what is read in the table is the character, where a byte has one
pub characters_same : (c : ℕ) (t : List ℕ) → t ≡ table_of c → (b : ℕ) → character_of c b ≢ no_character → read_in t b ≡ character_of c b
characters_same c t e b has = rw e (read_byte c b (is_byte c b has))

-- slots that fit the table of a coding
module _ (c : ℕ) (slots : List ℕ) (fits : fit (table_of c) slots ≡ true) where
  record Parts : Type 0 where
    long : length slots ≡ 1024
    bytes : every (λ k slot. ltb slot 256) 0 slots ≡ true
    guessed : every (λ byte character. eqb character no_character || eqb (guess_in slots character) byte) 0 (table_of c) ≡ true
    none_found : misses slots (table_of c) no_character ≡ true

  parts : Parts
  unfolding fit
  parts =
      let (three, n) = both_true _ (misses slots (table_of c) no_character) fits in
      let (two, g) = both_true _ (every (λ byte character. eqb character no_character || eqb (guess_in slots character) byte) 0 (table_of c)) three in
      let (l, b) = both_true _ (every (λ k slot. ltb slot 256) 0 slots) two in
      record { long = eqb-true _ _ l; bytes = b; guessed = g; none_found = n }

  guess_lt : (u : ℕ) → guess_in slots u < 256
  guess_lt u =
      ltb-true (guess_in slots u) 256
      (entry (λ k slot. ltb slot 256) slots 0 parts.bytes (slot_of u) (rw parts.long (omega arith)))

  guess_back : (b : ℕ) → character_of c b ≢ no_character → guess_in slots (character_of c b) ≡ b
  unfolding character_of
  guess_back b h =
      eqb-true (guess_in slots (get_or (table_of c) b no_character)) b
      (rw (ne_eqb _ _ h) at (entry (λ byte character. eqb character no_character || eqb (guess_in slots character) byte) (table_of c) no_character
      parts.guessed b (rw table-length (is_byte c b h))))

  -- the guess is the byte, where a unit has one
  pub bytes_same : (u : ℕ) → byte_of c u ≢ no_byte → guess_in slots u ≡ byte_of c u
  bytes_same u h =
      let (is, un) = character_back c u h in
      rw is at (guess_back (byte_of c u) (rw is un))

  -- what is read at the guess is its character
  read_guess : (u : ℕ) → read_in (table_of c) (guess_in slots u) ≡ character_of c (guess_in slots u)
  read_guess u = read_byte c (guess_in slots u) (guess_lt u)

  found : (u : ℕ) → character_of c (guess_in slots u) ≡ u → byte_of c u ≢ no_byte
  unfolding misses
  found u e =
      let none-missed = eqb-false _ _ (not-true _ parts.none_found) in
      let not_none : u ≢ no_character =
      λ q. none-missed (read_guess no_character ∙ subst (λ v. character_of c (guess_in slots v) ≡ v) q e) in
      let has : character_of c (guess_in slots u) ≢ no_character = λ q. not_none (sym e ∙ q) in
      let is : byte_of c u ≡ guess_in slots u = rw e at (byte_back c (guess_in slots u) has) in
      λ q. omega (arith, is, q, guess_lt u)

  -- a unit's guess is wrong exactly where it has no byte
  pub missed : (u : ℕ) → misses slots (table_of c) u ≡ lacks (byte_of c) no_byte u
  unfolding misses
  missed u = rw (read_guess u) (go (eqb (character_of c (guess_in slots u)) u) refl (eqb (byte_of c u) no_byte) refl)
    where
      go : (a : Bool) → eqb (character_of c (guess_in slots u)) u ≡ a → (b : Bool) → eqb (byte_of c u) no_byte ≡ b → not a ≡ b
      go true d true e = absurd (found u (eqb-true _ _ d) (eqb-true _ _ e))
      go true d false e = refl
      go false d true e = refl
      go false d false e =
          let has = eqb-false _ _ e in
          absurd (eqb-false (character_of c (guess_in slots u)) u d (rw (bytes_same u has) (character_back c u has).0))
