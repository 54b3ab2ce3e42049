-- What is read of an index is what stands at the places of its entries, one after another.
use mathlib.Core.List.{List, [], ◌∷◌, ◌++◌, append-nil}
use mathlib.Core.Path.{◌≡◌, refl, ap, sym, ◌∙◌}
use Prim.Native.Nat.{ℕ, zero, suc, ◌+◌, ◌-◌, ◌*◌, ◌^◌, ◌≤◌, ◌<◌}
use borrow.Author.Tests.{lt-leb}
use lib.ListN.{length, take, drop, length-append, length-drop}
use lib.Seq.{drop-drop}
use native.Mathlib.Nat.{zero-add, add-zero, suc-add}
use native.Mathlib.Numerals.{add-one}
use native.Mathlib.Omega.{arith}
use Rattle.fields.proofs.Laws.Lists.{number-join}
use Rattle.index.specs.Places.{place_of, entry_at, entries_at, Holds}
use Rattle.layout.specs.Bytes.{Bytes, number}
use Rattle.layout.specs.Fields.Block
use Rattle.layout.specs.Fields.Entry as Field
use Rattle.layout.specs.Index.Blocks.{begun}
use Rattle.layout.specs.Index.Reading.{entry_in, entries_from, count_in, block_entries, block_in, blocks_in, file_kind, entries_in}
use Rattle.layout.specs.Walk.{given}
use Rattle.layout.specs.declared.BlockKind.{BlockKind}
use Rattle.layout.specs.declared.BlockKind.TheVariants.{Old, New}
use Rattle.layout.specs.declared.Entry.{Entry}
use Rattle.laws.proofs.Base.Lists.{drop-take}
use Rattle.laws.proofs.Base.Walks.{given_inj, then_back}
use Rattle.laws.proofs.Index.Blocks.{room}
use Rattle.laws.proofs.Index.Entries.{entries-count}
use Rattle.laws.proofs.Index.Files.{Begins, begins-block, block_back, index_sound, index_length}

-- a field of the first n bytes
number-part : (w n : ℕ) (xs : List ℕ) → w ≤ n → number w (take n xs) ≡ number w xs
number-part zero n xs h = refl
number-part (suc w) zero xs h = absurd (omega arith)
number-part (suc w) (suc n) [] h = refl
number-part (suc w) (suc n) (x ∷ xs) h = ap (λ v. x + 256 * v) (number-part w n xs (omega arith))

drop-part : (p n : ℕ) (xs : List ℕ) → p ≤ n → drop p (take n xs) ≡ take (n - p) (drop p xs)
drop-part p n xs h = let z : n ≡ p + (n - p) = omega arith in ap (λ m. drop p (take m xs)) z ∙ drop-take p (n - p) xs

field-part : (p w n : ℕ) (xs : List ℕ) → p + w ≤ n → number w (drop p (take n xs)) ≡ number w (drop p xs)
field-part p w n xs h = ap (number w) (drop-part p n xs (omega arith)) ∙ number-part w (n - p) (drop p xs) (omega arith)

-- an entry of a kind has so many bytes
pub old_size : (kind : BlockKind) → kind ≡ Old → Field.size kind ≡ 8
old_size kind e = ap Field.size e

pub new_size : (kind : BlockKind) → kind ≡ New → Field.size kind ≡ 9
new_size kind e = ap Field.size e

-- places
place_in : (kind : BlockKind) (i : ℕ) → i < Block.full kind → place_of kind i ≡ 4 + Field.size kind * i
place_in Old i h = omega arith
place_in New i h = omega arith

place_on : (kind : BlockKind) (i : ℕ) → place_of kind (Block.full kind + i) ≡ 512 + place_of kind i
place_on Old i = omega arith
place_on New i = omega arith

place-within : (kind : BlockKind) (i n : ℕ) (xs : List ℕ) → i < n → Holds kind n xs → (p : ℕ) → p ≡ place_of kind i → p + Field.size kind ≤ length xs
place-within Old i n xs h o p e = omega (arith, e, o.0)
place-within New i n xs h o p e = omega (arith, e, o.0)

few-entries : (kind : BlockKind) (n : ℕ) → begun (Block.full kind) n ≤ 65536 → n < 2 ^ 32
few-entries Old n h = omega arith
few-entries New n h = omega arith

module _ (kind : BlockKind) where
  -- entries within the first n bytes
  entries-part : (c n : ℕ) (xs : List ℕ) → Field.size kind * c ≤ n → entries_from kind c (take n xs) ≡ entries_from kind c xs
  unfolding entries_from
  entries-part zero n xs h = refl
  entries-part (suc c) n xs h =
      let w = Field.place_width kind in
      let size = Field.size kind in
      let one : entry_in kind (take n xs) ≡ entry_in kind xs =
      rw (field-part 0 4 n xs (omega arith), field-part 4 w n xs (omega arith), field-part (4 + w) 1 n xs (omega arith)) refl in
      rw (one, drop-part size n xs (omega arith), entries-part c (n - size) (drop size xs) (omega arith)) refl

  entries_in_lem : (n i : ℕ) (xs : List ℕ) → i + n ≤ Block.full kind → entries_from kind n (drop (4 + Field.size kind * i) xs) ≡ entries_at kind xs i n
  unfolding entries_from entries_at
  entries_in_lem zero i xs h = refl
  entries_in_lem (suc n) i xs h =
      let p = place_in kind i (omega arith) in
      let size = Field.size kind in
      let q : 4 + size * i + size ≡ 4 + size * suc i = omega arith in
      let d : drop size (drop (4 + size * i) xs) ≡ drop (4 + size * suc i) xs = drop-drop size (4 + size * i) xs ∙ ap (λ z. drop z xs) q in
      rw (p, d, entries_in_lem n (suc i) xs (omega arith))

  entries_on : (n i : ℕ) (xs : List ℕ) → entries_at kind xs (Block.full kind + i) n ≡ entries_at kind (drop 512 xs) i n
  unfolding entries_at
  entries_on zero i xs = refl
  entries_on (suc n) i xs =
      let s : suc (Block.full kind + i) ≡ Block.full kind + suc i = omega arith in
      rw (place_on kind i, drop-drop (place_of kind i) 512 xs, s, entries_on n (suc i) xs)

  entries_split : (m n i : ℕ) (xs : List ℕ) → entries_at kind xs i (m + n) ≡ entries_at kind xs i m ++ entries_at kind xs (i + m) n
  unfolding entries_at
  entries_split zero n i xs = simp (zero-add, add-zero)
  entries_split (suc m) n i xs =
      let s : suc i + m ≡ i + suc m = omega arith in
      rw (suc-add m n) (ap (λ l. entry_at kind xs i ∷ l) (entries_split m n (suc i) xs ∙ rw s))

  -- a block's entries, and more after a full one
  joined : (xs : List ℕ) (a more : List Entry) → a ≡ entries_at kind xs 0 (length a) → more ≡ entries_at kind (drop 512 xs) 0 (length more)
      → (0 < length more → length a ≡ Block.full kind) → a ++ more ≡ entries_at kind xs 0 (length (a ++ more))
  joined xs a [] e f g = rw append-nil e
  joined xs a (x ∷ more) e f g =
      let n = length (x ∷ more) in
      let l : length a ≡ Block.full kind = g (omega arith) in
      let m : entries_at kind xs (0 + length a) n ≡ entries_at kind (drop 512 xs) 0 n = ap (λ z. entries_at kind xs z n) (omega arith) ∙ entries_on n 0 xs in
      rw (length-append, entries_split (length a) n 0 xs, m, ← e, ← f)

  some-blocks : (n k : ℕ) (ys : List ℕ) (more : List Entry) → blocks_in kind n k ys ≡ given more → 0 < length more → 0 < n
  unfolding blocks_in
  some-blocks zero k ys more e h = let z : [] ≡ more = given_inj e in absurd (omega (arith, ap length z))
  some-blocks (suc n) k ys more e h = omega arith

  blocks-placed : (n k : ℕ) (xs : List ℕ) → Begins 512 (length xs) n → (es : List Entry) → blocks_in kind n k xs ≡ given es
      → es ≡ entries_at kind xs 0 (length es)
  unfolding blocks_in entries_at block_entries
  blocks-placed zero k xs h es e = rw (← (given_inj e))
  blocks-placed (suc n) k xs h es e =
      let (a, i, j) = then_back (block_in kind k xs) _ es e in
      let (more, p, q) = then_back (blocks_in kind n (suc k) (drop 512 xs)) _ es j in
      let (g, ea) = block_back kind k xs a i in
      let c = count_in xs in
      let counted = g.counted in
      let l : length a ≡ c = sym (ap length ea) ∙ entries-count kind c (take 504 (drop 4 xs)) in
      let none : 4 ≡ 4 + Field.size kind * 0 = omega arith in
      let first : a ≡ entries_at kind xs 0 (length a) =
      rw l (sym ea ∙ entries-part c 504 (drop 4 xs) (room kind c counted.most) ∙ ap (λ p. entries_from kind c (drop p xs)) none
      ∙ entries_in_lem c 0 xs (omega (arith, counted.most))) in
      let second = blocks-placed n (suc k) (drop 512 xs) (rw length-drop (omega (arith, g.enough))) more p in
      let whole : 0 < length more → length a ≡ Block.full kind = λ s.
      let t = some-blocks n (suc k) (drop 512 xs) more p s in
      l ∙ counted.whole (lt-leb (length xs) 512 (omega arith)) in
      rw (← (given_inj q)) (joined xs a more first second whole)

pub index_placed : (xs : List ℕ) → Bytes xs → (es : List Entry) → entries_in xs ≡ given es
    → (es ≡ entries_at (file_kind xs) xs 0 (length es)) × Holds (file_kind xs) (length es) xs
unfolding entries_in
index_placed xs bs es e =
    let kind = file_kind xs in
    let (fine, made) = index_sound xs bs es e in
    let long : length xs ≡ 512 * begun (Block.full kind) (length es) = ap length (sym made) ∙ index_length kind es fine in
    (blocks-placed kind (begun 512 (length xs)) 0 xs (begins-block (length xs)) es e, (omega (arith, long), few-entries kind (length es) fine.blocks))

-- the first of so many entries, from entry i on
module _ (kind : BlockKind) (xs : List ℕ) (i count : ℕ) (h : 0 < count) where
  pub entry_first : (p : ℕ) → p ≡ place_of kind i → (e : Entry) → e ≡ entry_in kind (drop p xs)
      → entries_at kind xs i count ≡ e ∷ entries_at kind xs (i + 1) (count - 1)
  unfolding entries_at
  entry_first p place e is =
      let z : count ≡ suc (count - 1) = omega arith in
      ap (entries_at kind xs i) z ∙ rw (add-one i, is, place) refl

  pub entry_within : Holds kind (i + count) xs → (p : ℕ) → p ≡ place_of kind i → p + Field.size kind ≤ length xs
  entry_within o p e = place-within kind i (i + count) xs (omega arith) o p e

  pub entry_past : Holds kind (i + count) xs → Holds kind (i + 1 + (count - 1)) xs
  entry_past o = let z : i + 1 + (count - 1) ≡ i + count = omega arith in rw z o

pub at_length : (kind : BlockKind) (xs : List ℕ) (i n : ℕ) → length (entries_at kind xs i n) ≡ n
unfolding entries_at
at_length kind xs i zero = refl
at_length kind xs i (suc n) = ap suc (at_length kind xs (suc i) n)

-- what the code reads at a place: the three bytes of an old entry's place, and an entry of either kind
pub old-place-read : (xs : List ℕ) (p low high : ℕ) → low ≡ number 2 (drop (p + 4) xs) → high ≡ number 1 (drop (p + 6) xs)
    → low + 65536 * high ≡ number 3 (drop 4 (drop p xs))
old-place-read xs p low high el eh =
    let s : p + 4 + 2 ≡ p + 6 = omega arith in
    let t : number 1 (drop (p + 4 + 2) xs) ≡ high = ap (λ z. number 1 (drop z xs)) s ∙ sym eh in
    rw (drop-drop 4 p xs) (omega (arith, el, t, number-join 2 1 xs (p + 4)))

module _ (xs : List ℕ) (p c place l : ℕ) (code : c ≡ number 4 (drop (p + 0) xs)) where
  pub old-read : place ≡ number 3 (drop 4 (drop p xs)) → l ≡ number 1 (drop (p + 7) xs)
      → record { code = c; place = place; localisation = l } ≡ entry_in Old (drop p xs)
  old-read e f = rw (code, add-zero p, e, f, drop-drop 7 p xs) refl

  pub new_read : place ≡ number 4 (drop (p + 4) xs) → l ≡ number 1 (drop (p + 8) xs)
      → record { code = c; place = place; localisation = l } ≡ entry_in New (drop p xs)
  new_read e f = rw (code, add-zero p, e, f, drop-drop 4 p xs, drop-drop 8 p xs) refl
