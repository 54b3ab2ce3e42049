-- What holds of the three tables of characters, each computed once over the whole table and carried to its entries.
use Prim.Native.Nat.{ℕ, zero, suc, ◌<◌, ◌≤◌}
use mathlib.Core.Bool.{Bool, true, false, cond, ◌&&◌}
use mathlib.Core.List.{List, [], ◌∷◌}
use mathlib.Core.Logic.{◌≢◌}
use mathlib.Core.Path.{◌≡◌, refl, sym, ap, ◌∙◌}
use borrow.Author.Tests.{eqb-true, eqb-false, ltb-true, ltb-false, ne_eqb}
use lib.Dec.{eqb, ltb}
use lib.ListN.{length, get_or, get_or-eq_default}
use native.Mathlib.Omega.{arith}
use Rattle.layout.specs.Bytes.{agree}
use Rattle.layout.specs.Codings.Tables.{no_character, page866, page1251, koi8r}
use Rattle.layout.specs.Codings.Turning.{first_of, table_of, character_of, no_byte, byte_of}
use Rattle.laws.proofs.Base.Every.{every, entry}

-- what holds of the three tables holds of each coding's
pub by_coding : (P : List ℕ → Type 0) → P page866 → P page1251 → P koi8r → (c : ℕ) → P (table_of c)
unfolding table_of
by_coding P a b k c = go (eqb c 0) (eqb c 1)
  where
    go : (x y : Bool) → P (cond x page866 (cond y page1251 koi8r))
    go true y = a
    go false true = b
    go false false = k

pub table-length : (c : ℕ) → length (table_of c) ≡ 256
unfolding page866 page1251 koi8r
table-length = by_coding (λ t. length t ≡ 256) refl refl refl

-- the index of a character in a table
abbrev pub place_in : List ℕ → ℕ → ℕ
place_in t x = first_of (λ y. eqb y x) t

-- No entry comes twice: the first place of each is its own.
OnceEach : List ℕ → Type 0
OnceEach t = every (λ k x. eqb (place_in t x) k) 0 t ≡ true

once_each : (c : ℕ) → OnceEach (table_of c)
unfolding page866 page1251 koi8r first_of OnceEach
once_each = by_coding OnceEach refl refl refl

pub place_back : (c b : ℕ) → b < 256 → place_in (table_of c) (character_of c b) ≡ b
unfolding character_of OnceEach
place_back c b h =
    eqb-true (place_in (table_of c) (get_or (table_of c) b no_character)) b
    (entry (λ k x. eqb (place_in (table_of c) x) k) (table_of c) no_character (once_each c) b (rw table-length h))

-- the entry at the first place of x is x
place-there : (x d : ℕ) (t : List ℕ) → place_in t x < length t → get_or t (place_in t x) d ≡ x
unfolding first_of
place-there x d [] h = absurd (omega arith)
place-there x d (y ∷ ys) h = go (eqb y x) refl h (place-there x d ys)
  where
    go : (b : Bool) → eqb y x ≡ b → cond b 0 (suc (place_in ys x)) < suc (length ys) → (place_in ys x < length ys → get_or ys (place_in ys x) d ≡ x)
        → get_or (y ∷ ys) (cond b 0 (suc (place_in ys x))) d ≡ x
    go true e h more = eqb-true y x e
    go false e h more = more (omega arith)

pub first-le : (test : ℕ → Bool) (xs : List ℕ) → first_of test xs ≤ length xs
unfolding first_of
first-le test [] = omega arith
first-le test (x ∷ xs) = go (test x) (first-le test xs)
  where
    go : (b : Bool) → first_of test xs ≤ length xs → cond b 0 (suc (first_of test xs)) ≤ suc (length xs)
    go true h = omega arith
    go false h = omega arith

-- only a byte has a character
pub is_byte : (c b : ℕ) → character_of c b ≢ no_character → b < 256
unfolding character_of
is_byte c b h = go (ltb b 256) refl
  where
    go : (t : Bool) → ltb b 256 ≡ t → b < 256
    go true e = ltb-true b 256 e
    go false e = absurd (h (get_or-eq_default (table_of c) no_character (omega (arith, table-length c, ltb-false b 256 e))))

-- a byte's character has that byte, and a character's byte has that character
pub byte_back : (c b : ℕ) → character_of c b ≢ no_character → byte_of c (character_of c b) ≡ b
unfolding byte_of
byte_back c b h = rw (ne_eqb _ _ h) (place_back c b (is_byte c b h))

pub character_back : (c u : ℕ) → byte_of c u ≢ no_byte → (character_of c (byte_of c u) ≡ u) × (u ≢ no_character)
unfolding byte_of character_of
character_back c u h = go (eqb u no_character) refl h
  where
    go : (b : Bool) → eqb u no_character ≡ b → cond b no_byte (place_in (table_of c) u) ≢ no_byte
        → (get_or (table_of c) (cond b no_byte (place_in (table_of c) u)) no_character ≡ u) × (u ≢ no_character)
    go true e h = absurd (h refl)
    go false e h =
        let n : place_in (table_of c) u < length (table_of c) =
        rw table-length (omega (arith, first-le (λ y. eqb y u) (table_of c), table-length c, h)) in
        (place-there u no_character (table_of c) n, eqb-false u no_character e)

pub agree-is : (a b : Bool) → agree a b ≡ true → a ≡ b
agree-is true b e = sym e
agree-is false true e = e
agree-is false false e = refl

-- A byte without a character is 0x98 of page 1251, and no other.
pub without : (c : ℕ) → every (λ k x. agree (eqb x no_character) (eqb c 1 && eqb k 0x98)) 0 (table_of c) ≡ true
unfolding table_of page866 page1251 koi8r
without c = go (eqb c 0) (eqb c 1) refl refl
  where
    go : (p q : Bool) → eqb c 0 ≡ p → eqb c 1 ≡ q
        → every (λ k x. agree (eqb x no_character) (q && eqb k 0x98)) 0 (cond p page866 (cond q page1251 koi8r)) ≡ true
    go true true d e = absurd (omega (arith, eqb-true c 0 d, eqb-true c 1 e))
    go true false d e = refl
    go false true d e = refl
    go false false d e = refl
