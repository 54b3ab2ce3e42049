-- The blocks that are written, piece by piece.
use mathlib.Core.List.{List, [], ◌∷◌, ◌++◌, append_assoc}
use mathlib.Core.Path.{◌≡◌, refl, ap, sym, ◌∙◌}
use Prim.Native.Nat.{ℕ, zero, suc, ◌+◌, ◌-◌, ◌*◌, ◌%◌, ◌^◌, ◌≤◌, ◌<◌}
use lib.ListN.{length, take, drop, replicate, length-append, length-replicate, length-take}
use lib.Seq.{drop_at, take_at, take_all, length-take-le, sets, sets-eq, length-sets}
use native.Mathlib.Nat.{add-zero}
use native.Mathlib.Numerals.{add-one}
use native.Mathlib.Omega.{arith}
use Rattle.fields.proofs.Laws.Low.{bytes_low}
use Rattle.index.proofs.Laws.Hopped.{hopped-length, hopped_split}
use Rattle.index.proofs.Laws.Writing.{Writing, start, fits, turn, done, two}
use Rattle.index.specs.Hopped.{hopped, place_after}
use Rattle.layout.specs.Bytes.{bytes, flat, total}
use Rattle.layout.specs.Index.Blocks.{encode_entry, encode_unsummed, encode_block, encode_blocks, encode_index, begun}
use Rattle.layout.specs.declared.BlockKind.TheVariants.{New}
use Rattle.layout.specs.declared.Entry.{Entry}
use Rattle.laws.proofs.Index.Blocks.{unsummed_length, block-length}
use Rattle.laws.proofs.Index.Entries.{entry_length, entries-length}
use Rattle.reading.specs.Found.{Hops}

-- an entry, number by number
pub entry_put : (e : Entry) (p : List ℕ) (w : ℕ) (p₁ p₂ p₃ : List ℕ) → p₁ ≡ sets p (w + 0) (bytes 4 e.code)
    → p₂ ≡ sets p₁ (w + 4) (bytes 4 (e.place % 2 ^ 32)) → p₃ ≡ sets p₂ (w + 8) (bytes 1 e.localisation) → p₃ ≡ sets p w (encode_entry New e)
unfolding encode_entry
entry_put e p w p₁ p₂ p₃ f g h =
    let c = bytes 4 e.code in
    let q = bytes 4 e.place in
    let a = two p w c p₁ (rw (add-zero w) at f) (w + 4) q p₂ (g ∙ ap (λ l. sets p₁ (w + 4) l) (bytes_low 4 e.place)) refl in
    two p w (c ++ q) p₂ a (w + 8) (bytes 1 e.localisation) p₃ h refl

-- a block but for its sum, piece by piece; its entries use z bytes
module _ (k : ℕ) (es : List Entry) (n : ℕ) (count : length es ≡ n) (p : List ℕ) (w : ℕ) where
  pub unsummed_put : (p₁ p₂ p₃ p₄ p₅ : List ℕ) → n ≤ 56 → p₁ ≡ sets p (w + 0) (bytes 2 k) → p₂ ≡ sets p₁ (w + 2) (bytes 2 n)
      → p₃ ≡ sets p₂ (w + 4) (flat (encode_entry New) es) → p₄ ≡ sets p₃ (w + (4 + 9 * n)) (replicate (504 - 9 * n) 0)
      → p₅ ≡ sets p₄ (w + 508) (bytes 2 1) → p₅ ≡ sets p w (encode_unsummed New k es)
  unfolding encode_unsummed
  unsummed_put p₁ p₂ p₃ p₄ p₅ most e f g h j =
      let fs = flat (encode_entry New) es in
      let zs : List ℕ = replicate (504 - 9 * n) 0 in
      let long : length fs ≡ 9 * n = entries-length New es ∙ ap (λ m. 9 * m) count in
      let a = two p w (bytes 2 k) p₁ (rw (add-zero w) at e) (w + 2) (bytes 2 n) p₂ f refl in
      let b = two p w (bytes 2 k ++ bytes 2 n) p₂ a (w + 4) fs p₃ g refl in
      let c = two p w (bytes 2 k ++ bytes 2 n ++ fs) p₃ b (w + (4 + 9 * n)) zs p₄ h (omega (arith, long, length-append (bytes 2 k ++ bytes 2 n) fs)) in
      let d = two p w (bytes 2 k ++ bytes 2 n ++ fs ++ zs) p₄ c (w + 508) (bytes 2 1) p₅ j (omega (
        arith,
        long,
        length-append (bytes 2 k ++ bytes 2 n ++ fs) zs,
        length-append (bytes 2 k ++ bytes 2 n) fs,
        length-replicate {A = ℕ} (504 - 9 * n) 0,
      )) in
      rw count d

-- what was written is read
sets-read : (p : List ℕ) (w n : ℕ) (b : List ℕ) → length b ≡ n → w + n ≤ length p → take n (drop w (sets p w b)) ≡ b
sets-read p w n b l h =
    let t = length-take-le w p (omega arith) in
    let q = drop (w + length b) p in
    let e : sets p w b ≡ take w p ++ (b ++ q) = sets-eq b p w (omega arith) ∙ append_assoc (take w p) b q in
    rw (e, drop_at (take w p) (b ++ q) w t) (take_at b q n l)

pub block_put : (k : ℕ) (es : List Entry) (p : List ℕ) (w : ℕ) → length es ≤ 56 → w + 512 ≤ length p → (p₁ p₂ : List ℕ) (sum : ℕ)
    → p₁ ≡ sets p w (encode_unsummed New k es) → sum ≡ total (take (w + 510 - w) (drop w p₁)) → p₂ ≡ sets p₁ (w + 510) (bytes 2 (sum % 65536))
    → p₂ ≡ sets p w (encode_block New k es)
unfolding encode_block
block_put k es p w most h p₁ p₂ sum e s f =
    let b = encode_unsummed New k es in
    let l = unsummed_length New k es most in
    let z : w + 510 - w ≡ 510 = omega arith in
    let t : sum ≡ total b = s ∙ ap (λ j. total (take j (drop w p₁))) z ∙ ap (λ q. total (take 510 (drop w q))) e
    ∙ ap total (sets-read p w 510 b l (omega arith)) in
    let u : bytes 2 (sum % 65536) ≡ bytes 2 (total b % 65536) = ap (λ v. bytes 2 (v % 65536)) t in
    two p w b p₁ e (w + 510) (bytes 2 (total b % 65536)) p₂ (f ∙ ap (λ v. sets p₁ (w + 510) v) u) (omega (arith, l))

-- the loop that puts entries, at its start: m of the n records are left
pub entries_start : (s : List ℕ) (n m at : ℕ) (p : List ℕ) (w : ℕ) → m ≡ n → Hops n at s → w + 9 * n ≤ length p
    → Hops m at s × (place_after m at s ≡ place_after n at s)
    × Writing p w (flat (encode_entry New) (hopped n at s)) p w (flat (encode_entry New) (hopped m at s))
entries_start s n m at p w e h f =
    let long = entries-length New (hopped n at s) in
    rw e (h, refl, start p w _ w _ refl refl (omega (arith, long, hopped-length n at s, f)))

-- one turn of the loop that puts entries: `rest` are those that are left, and e is the first of them
module _ (p₀ : List ℕ) (w₀ : ℕ) (all p : List ℕ) (w : ℕ) (rest : List Entry) (g : Writing p₀ w₀ all p w (flat (encode_entry New) rest))
    (e : Entry) (more : List Entry) (is : rest ≡ e ∷ more) where
  first : flat (encode_entry New) rest ≡ encode_entry New e ++ flat (encode_entry New) more
  first = ap (flat (encode_entry New)) is

  pub entry_fits : w + 9 ≤ length p
  entry_fits = omega (arith, entry_length New e, fits p₀ w₀ all p w (flat (encode_entry New) rest) g (encode_entry New e) (flat (encode_entry New) more) first)

  pub entry_on : (p' : List ℕ) → p' ≡ sets p w (encode_entry New e) → Writing p₀ w₀ all p' (w + 9) (flat (encode_entry New) more)
  entry_on p' d =
      turn p₀ w₀ all p w (flat (encode_entry New) rest) g (encode_entry New e) (flat (encode_entry New) more) first p' (w + 9) d
      (ap (λ k. w + k) (sym (entry_length New e)))

next_place : (n k : ℕ) → k ≡ 512 → 512 * (n + 1) ≡ 512 * n + k
next_place n k e = omega arith

-- so few records that the numbers of their blocks fit
pub few-records : (n : ℕ) → begun 56 n ≤ 65536 → n ≤ 3670016
few-records n h = omega arith

-- the blocks that are left: of `left` records, of which the first starts at a place
abbrev pub blocks_left : ℕ → ℕ → ℕ → List ℕ → List ℕ
blocks_left number left at s = encode_blocks New (begun 56 left) number (hopped left at s)

pub blocks-length : (n k : ℕ) (es : List Entry) → length (encode_blocks New n k es) ≡ 512 * n
unfolding encode_blocks
blocks-length zero k es = refl
blocks-length (suc n) k es =
    let first = take 56 es in
    let rest = encode_blocks New n (suc k) (drop 56 es) in
    length-append (encode_block New k first) rest
    ∙ omega (arith, block-length New k first (omega (arith, length-take 56 es)), blocks-length n (suc k) (drop 56 es))

module _ (number left at : ℕ) (s : List ℕ) where
  blocks-turn : 56 < left
      → blocks_left number left at s ≡ encode_block New number (hopped 56 at s) ++ blocks_left (number + 1) (left - 56) (place_after 56 at s) s
  unfolding encode_blocks
  blocks-turn h =
      let z : begun 56 left ≡ suc (begun 56 (left - 56)) = omega arith in
      let y : left ≡ 56 + (left - 56) = omega arith in
      let split : hopped left at s ≡ hopped 56 at s ++ hopped (left - 56) (place_after 56 at s) s =
      ap (λ k. hopped k at s) y ∙ hopped_split 56 (left - 56) at s in
      let l = hopped-length 56 at s in
      rw (
        z,
        split,
        add-one number,
        take_at (hopped 56 at s) (hopped (left - 56) (place_after 56 at s) s) 56 l,
        drop_at (hopped 56 at s) (hopped (left - 56) (place_after 56 at s) s) 56 l,
      ) refl

  blocks_last : 0 < left → left ≤ 56 → blocks_left number left at s ≡ encode_block New number (hopped left at s) ++ []
  unfolding encode_blocks
  blocks_last h i =
      let z : begun 56 left ≡ 1 = omega arith in
      rw (z, take_all 56 (hopped left at s) (omega (arith, hopped-length left at s))) refl

  blocks-none : left ≤ 0 → blocks_left number left at s ≡ []
  unfolding encode_blocks
  blocks-none h = let z : begun 56 left ≡ 0 = omega arith in rw z refl

  -- the loop: a full block a turn, and then the last
  module _ (p₀ all p : List ℕ) (g : Writing p₀ 0 all p (512 * number) (blocks_left number left at s)) where
    long : (n : ℕ) → n ≤ 56 → length (encode_block New number (hopped n at s)) ≡ 512
    long n h = block-length New number (hopped n at s) (omega (arith, hopped-length n at s))

    pub full-fits : 56 < left → 512 * number + 512 ≤ length p
    full-fits h = omega (arith, long 56 (omega arith), fits p₀ 0 all p (512 * number) _ g (encode_block New number (hopped 56 at s)) _ (blocks-turn h))

    pub full_on : 56 < left → (p' : List ℕ) → p' ≡ sets p (512 * number) (encode_block New number (hopped 56 at s)) → (at' : ℕ) → at' ≡ place_after 56 at s
        → Writing p₀ 0 all p' (512 * (number + 1)) (blocks_left (number + 1) (left - 56) at' s)
    full_on h p' d at' e =
        rw e
        (turn p₀ 0 all p (512 * number) (blocks_left number left at s) g (encode_block New number (hopped 56 at s))
        (blocks_left (number + 1) (left - 56) (place_after 56 at s) s) (blocks-turn h) p' (512 * (number + 1)) d (next_place number _ (long 56 (omega arith))))

    pub last_fits : 0 < left → left ≤ 56 → 512 * number + 512 ≤ length p
    last_fits h i = omega (arith, long left i, fits p₀ 0 all p (512 * number) _ g (encode_block New number (hopped left at s)) [] (blocks_last h i))

    pub last_done : 0 < left → left ≤ 56 → (p' : List ℕ) → p' ≡ sets p (512 * number) (encode_block New number (hopped left at s)) → p' ≡ sets p₀ 0 all
    last_done h i p' d =
        done p₀ 0 all p' _ []
        (turn p₀ 0 all p (512 * number) (blocks_left number left at s) g (encode_block New number (hopped left at s)) [] (blocks_last h i) p' _ d refl) refl

    pub last_same : (p' : List ℕ) → p' ≡ sets p (512 * number) (encode_block New number (hopped left at s)) → length p' ≡ length p₀
    last_same p' d = ap length d ∙ length-sets p (512 * number) (encode_block New number (hopped left at s)) ∙ g.same

    pub none_done : left ≤ 0 → p ≡ sets p₀ 0 all
    none_done h = done p₀ 0 all p (512 * number) (blocks_left number left at s) g (blocks-none h)

-- the blocks of n entries are their index
pub index_is : (es : List Entry) (n : ℕ) → length es ≡ n → encode_blocks New (begun 56 n) 0 es ≡ encode_index New es
unfolding encode_index
index_is es n e = ap (λ k. encode_blocks New (begun 56 k) 0 es) (sym e)

pub index_long : (es : List Entry) (n : ℕ) → length es ≡ n → 512 * begun 56 n ≡ length (encode_index New es)
index_long es n e = sym (blocks-length (begun 56 n) 0 es) ∙ ap length (index_is es n e)
