-- The loop over the blocks of an index: the entries so far, and what is left.
use mathlib.Core.Bool.{Bool, true, false}
use mathlib.Core.List.{List, [], ◌++◌, append_assoc, append-nil}
use mathlib.Core.Path.{◌≡◌, refl, ap, sym, ◌∙◌}
use Prim.Native.Nat.{ℕ, suc, ◌+◌, ◌-◌, ◌*◌, ◌≤◌, ◌<◌}
use lib.ListN.{length, drop, length-append, length-drop}
use lib.Seq.{drop-drop}
use native.Mathlib.Numerals.{add-one}
use native.Mathlib.Omega.{arith}
use Rattle.layout.specs.Answers.Calls.{and_then}
use Rattle.layout.specs.Answers.Enums.{refusal, indexed_of}
use Rattle.layout.specs.Bytes.{Bytes, number}
use Rattle.layout.specs.Fields.Block
use Rattle.layout.specs.Index.Blocks.{begun}
use Rattle.layout.specs.Index.Reading.{count_in, block_entries, good_block, block_in, blocks_in, file_kind, entries_in}
use Rattle.layout.specs.Refusals.{BAD_BLOCK}
use Rattle.layout.specs.Walk.{Answer, given, refused}
use Rattle.layout.specs.declared.BlockKind.{BlockKind}
use Rattle.layout.specs.declared.Entry.{Entry}
use Rattle.laws.proofs.Index.Blocks.{full-some, good_back}
use Rattle.laws.proofs.Index.Entries.{entries-count}
use Rattle.laws.proofs.Index.Files.{index_sound, index_length}
use Rattle.std.specs.Prelude.{Ok, Err}

pub good_facts : (kind : BlockKind) (k : ℕ) (ys : List ℕ) → true ≡ good_block kind k ys → (512 ≤ length ys) × (count_in ys ≤ 63)
good_facts kind k ys b = let g = good_back kind k ys (sym b) in (g.enough, omega (arith, g.counted.most, full-some kind))

-- of a block at a place that was found good
module _ (kind : BlockKind) (k at : ℕ) (xs : List ℕ) (b : Bool) (judged : b ≡ good_block kind k (drop at xs)) (good : b ≡ true) where
  pub good_within : at + 512 ≤ length xs
  good_within = let f = good_facts kind k (drop at xs) (sym good ∙ judged) in omega (arith, f.0, length-drop at xs)

  pub good_few : (count : ℕ) → count ≡ number 2 (drop (at + 2) xs) → count ≤ 63
  good_few count e =
      let f = good_facts kind k (drop at xs) (sym good ∙ judged) in
      let is : count ≡ count_in (drop at xs) = e ∙ sym (ap (number 2) (drop-drop 2 at xs)) in
      omega (arith, f.1, is)

-- entries put before others
then-more : (a b : List Entry) (w : Answer (List Entry))
    → and_then (and_then w (λ more. given (b ++ more))) (λ more. given (a ++ more)) ≡ and_then w (λ more. given (a ++ b ++ more))
then-more a b (given more) = rw append_assoc refl
then-more a b (refused n p y) = refl

module _ (xs : List ℕ) where
  abbrev left : ℕ → ℕ
  left k = begun 512 (length xs) - k

  abbrev kind : BlockKind
  kind = file_kind xs

  abbrev rest : ℕ → Answer (List Entry)
  rest k = blocks_in kind (left k) k (drop (512 * k) xs)

  -- k blocks are good, and have so many entries
  pub record Going (k count : ℕ) : Type 0 where
    pub so_far : List Entry
    pub counted : length so_far ≡ count
    pub is : entries_in xs ≡ and_then (rest k) (λ more. given (so_far ++ more))

  then-all : (w : Answer (List Entry)) → w ≡ and_then w (λ more. given ([] ++ more))
  then-all (given more) = refl
  then-all (refused n p y) = refl

  pub going_start : Going 0 0
  unfolding entries_in
  going_start = record { so_far = []; counted = refl; is = let z : left 0 ≡ begun 512 (length xs) = omega arith in rw z (then-all _) }

  -- block k stands at a place
  module _ (k count at : ℕ) (g : Going k count) (place : at ≡ 512 * k) where
    module _ (h : at < length xs) where
      step : left k ≡ suc (left (suc k))
      step = omega arith

      pub going_stop : false ≡ good_block kind k (drop at xs) → Err (refusal BAD_BLOCK at 0) ≡ indexed_of kind (entries_in xs)
      unfolding blocks_in block_in indexed_of
      going_stop b =
          let here : good_block kind k (drop (512 * k) xs) ≡ false = ap (λ p. good_block kind k (drop p xs)) (sym place) ∙ sym b in
          let stops : rest k ≡ refused BAD_BLOCK at 0 = rw (step, here, place) refl in
          sym (ap (indexed_of kind) (g.is ∙ ap (λ w. and_then w (λ more. given (g.so_far ++ more))) stops))

      pub going_turn : true ≡ good_block kind k (drop at xs) → (c : ℕ) → c ≡ count_in (drop at xs) → Going (k + 1) (count + c)
      unfolding blocks_in block_in block_entries
      going_turn b c e =
          let ys = drop at xs in
          let after : at + 512 ≡ 512 * suc k = omega arith in
          let next : drop 512 ys ≡ drop (512 * suc k) xs = drop-drop 512 at xs ∙ ap (λ p. drop p xs) after in
          let one : rest k ≡ and_then (rest (suc k)) (λ more. given (block_entries kind ys ++ more)) = rw (← place, step, ← b, next) refl in
          let long : length (block_entries kind ys) ≡ c = entries-count kind (count_in ys) _ ∙ sym e in
          rw (add-one k)
          (record {
            so_far = g.so_far ++ block_entries kind ys;
            counted = length-append g.so_far (block_entries kind ys) ∙ rw (g.counted, long) refl;
            is = g.is ∙ ap (λ w. and_then w (λ more. given (g.so_far ++ more))) one ∙ then-more g.so_far (block_entries kind ys) (rest (suc k));
          })

    pub going_done : Bytes xs → at ≡ length xs → Ok (record { entries = count; blocks = k }) ≡ indexed_of kind (entries_in xs)
    unfolding blocks_in indexed_of
    going_done bs h =
        let z : left k ≡ 0 = omega arith in
        let all : entries_in xs ≡ given g.so_far = g.is ∙ rw (z, append-nil) refl in
        let (fine, made) = index_sound xs bs g.so_far all in
        let blocks : begun (Block.full kind) (length g.so_far) ≡ k =
        omega (arith, h, place, ap length (sym made) ∙ index_length kind g.so_far fine) in
        sym (ap (indexed_of kind) all ∙ rw (blocks, g.counted) refl)
