-- One block's ways out, as the code says them: the block stands at a place of xs, and n is its count.
use mathlib.Core.Bool.{Bool, true, false, ◌&&◌}
use mathlib.Core.List.{List}
use mathlib.Core.Path.{◌≡◌, refl, ap, sym, ◌∙◌}
use Prim.Native.Nat.{ℕ, ◌+◌, ◌-◌, ◌*◌, ◌%◌, ◌≤◌, ◌<◌}
use borrow.Author.Tests.{le-leb, lt-leb}
use lib.Dec.{leb, eqb}
use lib.ListN.{length, take, drop, length-drop}
use lib.Seq.{drop-drop}
use native.Mathlib.Nat.{add-zero}
use native.Mathlib.Omega.{arith}
use Rattle.layout.specs.Bytes.{number, number_in, bytes_in, total, zeros}
use Rattle.layout.specs.Fields.Block
use Rattle.layout.specs.Fields.Entry as Field
use Rattle.layout.specs.Index.Reading.{count_in, good_count, unused, good_block}
use Rattle.layout.specs.declared.BlockKind.{BlockKind}
use Rattle.laws.proofs.Base.Lists.{drop-take}
use Rattle.laws.proofs.Index.Blocks.{room, count_back}

and_true : (a b : Bool) → b ≡ true → (a && b) ≡ a
and_true true b e = e
and_true false b e = refl

and_false : (a b : Bool) → b ≡ false → (a && b) ≡ false
and_false true b e = e
and_false false b e = refl

-- ys are the bytes from the block on
module _ (kind : BlockKind) (k : ℕ) (ys : List ℕ) where
  pub good-short : length ys < 512 → false ≡ good_block kind k ys
  unfolding good_block
  good-short h = rw (lt-leb 512 (length ys) h)

  good-count : good_count kind (leb (length ys) 512) (count_in ys) ≡ false → false ≡ good_block kind k ys
  unfolding good_block
  good-count h = sym (rw (and_false (leb 512 (length ys) && eqb (number 2 ys) k) _ h))

  good-is : (a b c d : Bool) → 512 ≤ length ys → good_count kind (leb (length ys) 512) (count_in ys) ≡ true
      → a ≡ eqb (number_in Block.number ys) k
      → b ≡ zeros (unused kind ys)
      → c ≡ eqb (number_in Block.ending ys) (Block.ending_is kind)
      → d ≡ eqb (number_in Block.sum ys) (total (take 510 ys) % 65536)
      → (((a && b) && c) && d) ≡ good_block kind k ys
  unfolding good_block
  good-is a b c d h g ea eb ec ed = rw (le-leb 512 (length ys) h, and_true (eqb (number 2 ys) k) _ g, ← ea, ← eb, ← ec, ← ed)

-- what n entries use, by the size that the code has at hand
pub room_at : (kind : BlockKind) (n size : ℕ) → size ≡ Field.size kind → n ≤ Block.full kind → size * n ≤ 504
room_at kind n size e h = rw e (room kind n h)

-- the bytes that n entries leave, by their place
unused-at : (kind : BlockKind) (ys : List ℕ) (n : ℕ) → n ≤ Block.full kind
    → drop (Field.size kind * n) (bytes_in Block.entries ys) ≡ take (504 - Field.size kind * n) (drop (4 + Field.size kind * n) ys)
unused-at kind ys n h =
    let used = Field.size kind * n in
    let whole : 504 ≡ used + (504 - used) = omega (arith, room kind n h) in
    ap (λ m. drop used (take m (drop 4 ys))) whole ∙ drop-take used (504 - used) (drop 4 ys) ∙ ap (λ l. take (504 - used) l) (drop-drop used 4 ys)

module _ (kind : BlockKind) (k : ℕ) (xs : List ℕ) (at n : ℕ) (count : n ≡ number 2 (drop (at + 2) xs)) where
  pub at_count : (t : Bool) → t ≡ good_count kind (leb (length xs - at) 512) n → t ≡ false → false ≡ good_block kind k (drop at xs)
  at_count t e f = good-count kind k (drop at xs) (rw (length-drop, drop-drop, ← count) (sym e ∙ f))

  module _ (t : Bool) (good : t ≡ good_count kind (leb (length xs - at) 512) n) (is : t ≡ true) where
    pub at_most : n ≤ Block.full kind
    at_most = (count_back kind (leb (length xs - at) 512) n (sym good ∙ is)).most

    pub at-is : at + 512 ≤ length xs
        → (x : ℕ) → x ≡ number 2 (drop (at + 0) xs)
        → (b : Bool) → b ≡ zeros (take (504 - Field.size kind * n) (drop (at + (4 + Field.size kind * n)) xs))
        → (y m : ℕ) → y ≡ number 2 (drop (at + 508) xs) → m ≡ Block.ending_is kind
        → (u s : ℕ) (p : List ℕ) → u ≡ number 2 (drop (at + 510) xs) → s ≡ total p → p ≡ take 510 (drop at xs)
        → (((eqb x k && b) && eqb y m) && eqb u (s % 65536)) ≡ good_block kind k (drop at xs)
    at-is h x ex b eb y m ey em u s p eu es ep =
        let used = Field.size kind * n in
        let there : count_in (drop at xs) ≡ n = rw (drop-drop 2 at xs) (sym count) in
        let left : b ≡ zeros (unused kind (drop at xs)) =
        eb ∙ ap zeros (ap (λ l. take (504 - used) l) (sym (drop-drop (4 + used) at xs)) ∙ sym (unused-at kind (drop at xs) n at_most))
        ∙ ap (λ c. zeros (drop (Field.size kind * c) (bytes_in Block.entries (drop at xs)))) (sym there) in
        good-is kind k (drop at xs) (eqb x k) b (eqb y m) (eqb u (s % 65536))
        (rw length-drop (omega arith))
        (rw (length-drop, drop-drop, ← count) (sym good ∙ is))
        (rw (ex, add-zero at))
        left
        (rw (ey, em, drop-drop 508 at xs))
        (rw (eu, es, ep, drop-drop 510 at xs))
