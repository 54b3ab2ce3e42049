-- An index block by block: it is read exactly when it is the blocks of fine entries.
use mathlib.Core.Bool.{Bool, true, false, cond, ◌&&◌}
use mathlib.Core.List.{List, [], ◌∷◌, ◌++◌, append-nil}
use mathlib.Core.Path.{◌≡◌, refl, ap, sym, ◌∙◌, subst}
use Prim.Native.Nat.{ℕ, zero, suc, ◌+◌, ◌*◌, ◌^◌, ◌≤◌, ◌<◌}
use borrow.Author.Tests.{le-leb, lt-leb, leb-false}
use lib.Dec.{leb, eqb}
use lib.ListN.{length, take, drop, length-append, length-drop, length-take, take-append-drop, drop_of_length-le}
use lib.Seq.{drop_at, drop-drop, take_at, take_all}
use native.Mathlib.Omega.{arith}
use Rattle.layout.specs.Answers.Calls.{and_then}
use Rattle.layout.specs.Bytes.{All, Bytes, number_in}
use Rattle.layout.specs.Fields.Block
use Rattle.layout.specs.Index.Blocks.{encode_block, encode_blocks, begun, encode_index, FineEntry, FineEntries}
use Rattle.layout.specs.Index.Reading.{count_in, block_entries, good_block, block_in, blocks_in, file_kind, entries_in}
use Rattle.layout.specs.Refusals.{BAD_BLOCK}
use Rattle.layout.specs.Walk.{Answer, given, refused}
use Rattle.layout.specs.declared.BlockKind.{BlockKind}
use Rattle.layout.specs.declared.BlockKind.TheVariants.{Old, New}
use Rattle.layout.specs.declared.Entry.{Entry}
use Rattle.laws.proofs.Base.Lists.{all_append, all_drop, all_take}
use Rattle.laws.proofs.Base.Numbers.{number_lt}
use Rattle.laws.proofs.Base.Walks.{given_inj, cond_back, then_back}
use Rattle.laws.proofs.Index.Blocks.{full-some, Count, Good, good_back, good_on, block-length}
use Rattle.laws.proofs.Index.Blocks.{block-count, block-fine, block_took, block-ending, block-entries_back, block-good}
use Rattle.layout.specs.declared.refusals.Reason.{Reason}

-- a list cut at a full block
seam : {A : Type 0} (m : ℕ) (a more : List A) → length a ≤ m → (0 < length more → length a ≡ m) → (take m (a ++ more) ≡ a) × (drop m (a ++ more) ≡ more)
seam m a [] h i = rw (append-nil a) (take_all m a h, drop_of_length-le a h)
seam m a (x ∷ more) h i = let l = i (omega arith) in (take_at a (x ∷ more) m l, drop_at a (x ∷ more) m l)

none : {A : Type 0} (l : List A) → length l ≤ 0 → [] ≡ l
none [] h = refl
none (x ∷ l) h = absurd (omega arith)

-- n pieces of a size are begun by l
abbrev pub Begins : ℕ → ℕ → ℕ → Type 0
Begins size l n = (l ≤ size * n) × (size * n < l + size)

pub begins-block : (l : ℕ) → Begins Block.size l (begun Block.size l)
begins-block l = (omega arith, omega arith)

begins-full : (kind : BlockKind) (l : ℕ) → Begins (Block.full kind) l (begun (Block.full kind) l)
begins-full Old l = (omega arith, omega arith)
begins-full New l = (omega arith, omega arith)

begun-block : (l n : ℕ) → Begins Block.size l n → begun Block.size l ≡ n
begun-block l n h = omega arith

begun-full : (kind : BlockKind) (l n : ℕ) → Begins (Block.full kind) l n → begun (Block.full kind) l ≡ n
begun-full Old l n h = omega arith
begun-full New l n h = omega arith

-- pieces of a size: some where they hold something, and at least one size then
times-some : (size n : ℕ) → 0 < size * n → 0 < n
times-some size zero h = absurd (omega arith)
times-some size (suc n) h = omega arith

times-one : (size n : ℕ) → 0 < n → size ≤ size * n
times-one size zero h = absurd (omega arith)
times-one size (suc n) h = omega arith

-- what n blocks from block k on give
pub record Took (kind : BlockKind) (n k : ℕ) (xs : List ℕ) (es : List Entry) : Type 0 where
  pub fine : All (FineEntry kind) es
  pub begins : Begins (Block.full kind) (length es) n
  pub numbers : k + n ≤ 256 ^ (Block.number).width
  pub is : encode_blocks kind n k es ≡ xs

-- one more block before n
more-begins : (full n a more : ℕ) → 0 < a → a ≤ full → (0 < n → a ≡ full) → Begins full more n → Begins full (a + more) (suc n)
more-begins full zero a more h i j b = (omega arith, omega arith)
more-begins full (suc n) a more h i j b = let e = j (omega arith) in (omega arith, omega arith)

module _ (kind : BlockKind) where
  pub block_back : (k : ℕ) (xs : List ℕ) (es : List Entry) → block_in kind k xs ≡ given es → Good kind k xs × (block_entries kind xs ≡ es)
  unfolding block_in
  block_back k xs es e = let c = cond_back (good_block kind k xs) _ _ _ _ es e in (good_back kind k xs c.0, given_inj c.1)

  block_on : (k : ℕ) (xs : List ℕ) → Good kind k xs → block_in kind k xs ≡ given (block_entries kind xs)
  unfolding block_in
  block_on k xs g = rw (good_on kind k xs g)

  blocks-sound : (n k : ℕ) (xs : List ℕ) → Bytes xs → Begins Block.size (length xs) n → k ≤ 256 ^ (Block.number).width
      → (es : List Entry) → blocks_in kind n k xs ≡ given es → Took kind n k xs es
  unfolding blocks_in encode_blocks
  blocks-sound zero k xs bs h f es e =
      rw (← (given_inj e)) (record { fine = tt; begins = (omega arith, omega (arith, full-some kind)); numbers = omega arith; is = none xs (omega arith) })
  blocks-sound (suc n) k xs bs h f es e =
      let (a, i, j) = then_back (block_in kind k xs) _ es e in
      let (more, p, q) = then_back (blocks_in kind n (suc k) (drop Block.size xs)) _ es j in
      let (g, ea) = block_back k xs a i in
      let enough = g.enough in
      let small : k < 256 ^ (Block.number).width = subst (λ z. z < 256 ^ (Block.number).width) g.numbered (number_lt 2 xs bs) in
      let rest = blocks-sound n (suc k) (drop Block.size xs) (all_drop _ Block.size xs bs) (rw length-drop (omega arith)) (omega arith) more p in
      let counted = g.counted in
      let l : length a ≡ count_in xs = sym (ap length ea) ∙ block-count kind k xs bs g in
      let whole : 0 < n → length a ≡ Block.full kind = λ s. l ∙ counted.whole (lt-leb (length xs) Block.size (omega arith)) in
      let (first, after) = seam (Block.full kind) a more (omega (arith, counted.most))
      (λ o. whole (times-some (Block.full kind) n (omega (arith, rest.begins.0)))) in
      let fine : All (FineEntry kind) (a ++ more) = (all_append _ a more).1 (subst (All (FineEntry kind)) ea (block-fine kind k xs bs g), rest.fine) in
      let begins : Begins (Block.full kind) (length (a ++ more)) (suc n) =
      rw length-append
      (more-begins (Block.full kind) n (length a) (length more) (omega (arith, counted.some)) (omega (arith, counted.most)) whole rest.begins) in
      let is : encode_block kind k a ++ drop Block.size xs ≡ xs = subst (λ u. encode_block kind k u ++ drop Block.size xs ≡ xs) ea (block_took kind k xs bs g) in
      rw (← (given_inj q)) (record { fine = fine; begins = begins; numbers = omega (arith, rest.numbers); is = rw (first, after, rest.is) is })

  blocks-complete : (n k : ℕ) (es : List Entry) → All (FineEntry kind) es → Begins (Block.full kind) (length es) n → k + n ≤ 256 ^ (Block.number).width
      → (length (encode_blocks kind n k es) ≡ Block.size * n) × (blocks_in kind n k (encode_blocks kind n k es) ≡ given es)
  unfolding blocks_in encode_blocks
  blocks-complete zero k es f h s = (omega arith, ap given (none es (omega arith)))
  blocks-complete (suc n) k es f h s =
      let a = take (Block.full kind) es in
      let rest = encode_blocks kind n (suc k) (drop (Block.full kind) es) in
      let (long, read) =
      blocks-complete n (suc k) (drop (Block.full kind) es) (all_drop _ (Block.full kind) es f) (rw length-drop (omega arith)) (omega arith) in
      let l = length-take (Block.full kind) es in
      let most : length a ≤ Block.full kind = omega arith in
      let b = block-length kind k a most in
      let both : length (encode_block kind k a ++ rest) ≡ Block.size + Block.size * n = length-append (encode_block kind k a) rest ∙ omega (arith, long) in
      let count : Count kind (leb (length (encode_block kind k a ++ rest)) Block.size) (length a) = record {
        some = omega (arith, full-some kind);
        most = most;
        whole = λ u. let v = leb-false (length (encode_block kind k a ++ rest)) Block.size u in
            omega (arith, times-one (Block.full kind) n (times-some Block.size n (omega arith)));
      } in
      let fine = all_take _ (Block.full kind) es f in
      let g = block-good kind k a rest most (omega arith) fine count in
      let e : block_entries kind (encode_block kind k a ++ rest) ≡ a = block-entries_back kind k a rest most (omega arith) fine in
      let cut : drop Block.size (encode_block kind k a ++ rest) ≡ rest = drop_at (encode_block kind k a) rest Block.size b in
      (both ∙ omega arith, rw (block_on k (encode_block kind k a ++ rest) g, e, cut, read) (ap given (take-append-drop (Block.full kind) es)))

  -- by the kind that the blocks are read as
  kind-sound : (xs : List ℕ) → Bytes xs → (es : List Entry) → blocks_in kind (begun Block.size (length xs)) 0 xs ≡ given es
      → FineEntries kind es × (encode_index kind es ≡ xs)
  unfolding encode_index
  kind-sound xs bs es e =
      let n = begun Block.size (length xs) in
      let t = blocks-sound n 0 xs bs (begins-block (length xs)) (omega arith) es e in
      let b = begun-full kind (length es) n t.begins in
      (record { entries = t.fine; blocks = omega (arith, b, t.numbers) }, rw b t.is)

  pub index_length : (es : List Entry) → FineEntries kind es → length (encode_index kind es) ≡ Block.size * begun (Block.full kind) (length es)
  unfolding encode_index
  index_length es f =
      (blocks-complete (begun (Block.full kind) (length es)) 0 es f.entries (begins-full kind (length es)) (omega (arith, f.blocks))).0

  kind-complete : (es : List Entry) → FineEntries kind es
      → blocks_in kind (begun Block.size (length (encode_index kind es))) 0 (encode_index kind es) ≡ given es
  unfolding encode_index
  kind-complete es f =
      let n = begun (Block.full kind) (length es) in
      let c = blocks-complete n 0 es f.entries (begins-full kind (length es)) (omega (arith, f.blocks)) in
      rw (begun-block (length (encode_blocks kind n 0 es)) n (omega (arith, c.0))) c.1

  -- the first block has the kind's bytes before its sum
  blocks-ending : (n : ℕ) (es : List Entry) → All (FineEntry kind) es → Begins (Block.full kind) (length es) n → 0 < length es
      → number_in Block.ending (encode_blocks kind n 0 es) ≡ Block.ending_is kind
  unfolding encode_blocks
  blocks-ending zero es f h s = absurd (omega arith)
  blocks-ending (suc n) es f h s =
      block-ending kind 0 (take (Block.full kind) es) _ (omega (arith, length-take (Block.full kind) es)) (omega arith) (all_take _ (Block.full kind) es f)

ending : (kind : BlockKind) (es : List Entry) → FineEntries kind es → 0 < length es → number_in Block.ending (encode_index kind es) ≡ Block.ending_is kind
unfolding encode_index
ending kind es f s = blocks-ending kind (begun (Block.full kind) (length es)) es f.entries (begins-full kind (length es)) s

kind-of-ending : (kind : BlockKind) → cond (true && eqb (Block.ending_is kind) (Block.ending_is New)) New Old ≡ kind
kind-of-ending Old = refl
kind-of-ending New = refl

-- The kind of a file that holds some entry is in its bytes, and a file without entries is empty.
pub file_kind_lem : (kind : BlockKind) (es : List Entry) → FineEntries kind es → 0 < length es → file_kind (encode_index kind es) ≡ kind
file_kind_lem kind es f s =
    let begins = begins-full kind (length es) in
    let some = times-some (Block.full kind) (begun (Block.full kind) (length es)) (omega (arith, begins.0)) in
    rw (le-leb Block.size (length (encode_index kind es)) (omega (arith, index_length kind es f, some)), ending kind es f s) (kind-of-ending kind)

no_blocks : (kind : BlockKind) → encode_index kind [] ≡ []
unfolding encode_index encode_blocks
no_blocks Old = refl
no_blocks New = refl

-- An index that is read is the blocks of what is read, of the kind that its bytes say,
pub index_sound : (xs : List ℕ) → Bytes xs → (es : List Entry) → entries_in xs ≡ given es
    → FineEntries (file_kind xs) es × (encode_index (file_kind xs) es ≡ xs)
unfolding entries_in
index_sound xs bs es e = kind-sound (file_kind xs) xs bs es e

-- and the blocks of fine entries, of either kind, are read as these.
pub index_complete : (kind : BlockKind) (es : List Entry) → FineEntries kind es → entries_in (encode_index kind es) ≡ given es
unfolding entries_in blocks_in
index_complete kind [] f = rw (no_blocks kind)
index_complete kind (e ∷ es) f = rw (file_kind_lem kind (e ∷ es) f (omega arith)) (kind-complete kind (e ∷ es) f)

-- Of n blocks from block k on, the first that is not good stands at a place.
pub record FirstBad (kind : BlockKind) (n k : ℕ) (xs : List ℕ) (place : ℕ) : Type 0 where
  pub before : ℕ
  pub within : before < n
  pub at : place ≡ Block.size * (k + before)
  pub bad : good_block kind (k + before) (drop (Block.size * before) xs) ≡ false
  pub good : (j : ℕ) → j < before → good_block kind (k + j) (drop (Block.size * j) xs) ≡ true

-- block j after the first is block suc j
after_first_lem : (kind : BlockKind) (k j : ℕ) (xs : List ℕ)
    → good_block kind (k + suc j) (drop (Block.size * suc j) xs) ≡ good_block kind (suc k + j) (drop (Block.size * j) (drop Block.size xs))
after_first_lem kind k j xs =
    let number : k + suc j ≡ suc k + j = omega arith in
    let place : Block.size * suc j ≡ Block.size + Block.size * j = omega arith in
    rw (number, place, drop-drop (Block.size * j) Block.size xs)

bad-later : (kind : BlockKind) (n k : ℕ) (xs : List ℕ) (place : ℕ) → good_block kind k xs ≡ true → FirstBad kind n (suc k) (drop Block.size xs) place
    → FirstBad kind (suc n) k xs place
bad-later kind n k xs place g first =
    record {
      before = suc first.before;
      within = omega (arith, first.within);
      at = omega (arith, first.at);
      bad = after_first_lem kind k first.before xs ∙ first.bad;
      good = fine;
    }
  where
    fine : (j : ℕ) → j < suc first.before → good_block kind (k + j) (drop (Block.size * j) xs) ≡ true
    fine zero h = let here : k + 0 ≡ k = omega arith in rw here g
    fine (suc j) h = after_first_lem kind k j xs ∙ first.good j (omega arith)

bad-here : (kind : BlockKind) (n k : ℕ) (xs : List ℕ) → good_block kind k xs ≡ false → FirstBad kind (suc n) k xs (Block.size * k)
bad-here kind n k xs g =
    let here : k + 0 ≡ k = omega arith in
    record { before = 0; within = omega arith; at = rw here refl; bad = rw here g; good = λ j h. absurd (omega arith) }

then-refused : {A B : Type 0} (w : Answer A) (f : A → B) (reason : Reason) (place year : ℕ) → and_then w (λ a. given (f a)) ≡ refused reason place year
    → w ≡ refused reason place year
then-refused (given a) f reason place year e = absurd (let z : ◌≡◌ {A = ℕ} 0 1 = cc in omega arith)
then-refused (refused n p y) f reason place year e = cc

-- the refusal stands here, or in the blocks after this one
blocks-refused : (kind : BlockKind) (n k : ℕ) (xs : List ℕ) (reason : Reason) (place year : ℕ) → blocks_in kind n k xs ≡ refused reason place year
    → (reason ≡ BAD_BLOCK) × (year ≡ 0) × FirstBad kind n k xs place
unfolding blocks_in block_in
blocks-refused kind zero k xs reason place year e = absurd (let z : ◌≡◌ {A = ℕ} 0 1 = cc in omega arith)
blocks-refused kind (suc n) k xs reason place year e =
    by (good_block kind k xs) refl (blocks-refused kind n (suc k) (drop Block.size xs) reason place year)
  where
    by : (b : Bool) → good_block kind k xs ≡ b
        → (blocks_in kind n (suc k) (drop Block.size xs) ≡ refused reason place year
        → (reason ≡ BAD_BLOCK) × (year ≡ 0) × FirstBad kind n (suc k) (drop Block.size xs) place)
        → (reason ≡ BAD_BLOCK) × (year ≡ 0) × FirstBad kind (suc n) k xs place
    by false g later =
        let r : ◌≡◌ {A = Answer (List Entry)} (refused BAD_BLOCK (Block.size * k) 0) (refused reason place year) = rw g at e in
        let is : Block.size * k ≡ place = cc in
        (cc, cc, subst (FirstBad kind (suc n) k xs) is (bad-here kind n k xs g))
    by true g later =
        let stopped = then-refused (blocks_in kind n (suc k) (drop Block.size xs)) (λ more. block_entries kind xs ++ more) reason place year (rw g at e) in
        let (reason_is, year-is, first) = later stopped in
        (reason_is, year-is, bad-later kind n k xs place g first)

-- Every refusal of an index is BAD BLOCK at its first block that is not good.
pub index_refused : (xs : List ℕ) (reason : Reason) (place year : ℕ) → entries_in xs ≡ refused reason place year
    → (reason ≡ BAD_BLOCK) × (year ≡ 0) × FirstBad (file_kind xs) (begun Block.size (length xs)) 0 xs place
unfolding entries_in
index_refused xs reason place year e = blocks-refused (file_kind xs) (begun Block.size (length xs)) 0 xs reason place year e
