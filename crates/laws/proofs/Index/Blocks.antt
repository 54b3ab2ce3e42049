-- One block of a kind: what is read at the head of the bytes is what is stored there, both ways. A block is a row of five fields (Base/Rows).
use mathlib.Core.Bool.{Bool, true, false}
use mathlib.Core.List.{List, [], ◌∷◌, ◌++◌, append_assoc}
use mathlib.Core.Path.{◌≡◌, refl, ap, sym, ◌∙◌}
use Prim.Native.Nat.{ℕ, ◌-◌, ◌*◌, ◌^◌, ◌≤◌, ◌<◌}
use borrow.Author.Tests.{leb-true, le-leb, eqb-true, eq-eqb}
use lib.Dec.{leb}
use lib.ListN.{length, take, drop, replicate, length-append, length-drop, length-replicate}
use lib.Seq.{take_at, drop_at}
use native.Mathlib.Omega.{arith}
use Rattle.layout.specs.Bytes.{All, flat, Bytes, number_in, bytes_in, stored, zeros}
use Rattle.layout.specs.Fields.Block
use Rattle.layout.specs.Fields.Entry as Field
use Rattle.layout.specs.Index.Blocks.{encode_entry, encode_unsummed, block_sum, encode_block, FineEntry}
use Rattle.layout.specs.Index.Reading.{count_in, block_entries, good_count, unused, good_block}
use Rattle.layout.specs.Layout.Fine.{Fits}
use Rattle.layout.specs.declared.BlockKind.{BlockKind}
use Rattle.layout.specs.declared.BlockKind.TheVariants.{Old, New}
use Rattle.layout.specs.declared.Entry.{Entry}
use Rattle.laws.proofs.Base.Lists.{◌&◌, both_true}
use Rattle.laws.proofs.Base.Rows.{Column, num, raw, Vals, row_in, put_row, FitRow, InLine, row_back, row_on}
use Rattle.laws.proofs.Base.Texts.{zeros_back, zeros_on}
use Rattle.laws.proofs.Encoding.Plain.{Plain, ◌⊹◌, flat-plain, stored-plain, zeros-plain}
use Rattle.laws.proofs.Index.Entries.{entries-count, entries_took, entries_back, entries-length}

-- the numbers of a kind: a full block has entries, at most 63, and the field of entries has room for them
pub full-some : (kind : BlockKind) → (0 < Block.full kind) × (Block.full kind ≤ 63)
full-some Old = (omega arith, omega arith)
full-some New = (omega arith, omega arith)

pub room : (kind : BlockKind) (n : ℕ) → n ≤ Block.full kind → Field.size kind * n ≤ (Block.entries).width
room Old n h = omega arith
room New n h = omega arith

ending-fits : (kind : BlockKind) → Fits Block.ending (Block.ending_is kind)
ending-fits Old = omega arith
ending-fits New = omega arith

-- what the test of a count says
pub record Count (kind : BlockKind) (last : Bool) (c : ℕ) : Type 0 where
  pub some : 0 < c
  pub most : c ≤ Block.full kind
  pub whole : last ≡ false → c ≡ Block.full kind

pub count_back : (kind : BlockKind) (last : Bool) (c : ℕ) → good_count kind last c ≡ true → Count kind last c
count_back kind true c e =
    let b = both_true (leb 1 c) (leb c (Block.full kind)) e in
    record { some = leb-true 1 c b.0; most = leb-true c (Block.full kind) b.1; whole = λ f. absurd (let z : ◌≡◌ {A = ℕ} 0 1 = cc in omega arith) }
count_back kind false c e =
    let q = eqb-true c (Block.full kind) e in
    record { some = omega (arith, full-some kind); most = omega arith; whole = λ f. q }

pub count_on : (kind : BlockKind) (last : Bool) (c : ℕ) → Count kind last c → good_count kind last c ≡ true
count_on kind true c h = rw (le-leb 1 c h.some, le-leb c (Block.full kind) h.most)
count_on kind false c h = eq-eqb c (Block.full kind) (h.whole refl)

-- what the test of a block says
pub record Good (kind : BlockKind) (k : ℕ) (xs : List ℕ) : Type 0 where
  pub enough : Block.size ≤ length xs
  pub numbered : number_in Block.number xs ≡ k
  pub counted : Count kind (leb (length xs) Block.size) (count_in xs)
  pub filled : zeros (unused kind xs) ≡ true
  pub ended : number_in Block.ending xs ≡ Block.ending_is kind
  pub summed : number_in Block.sum xs ≡ block_sum (take (Block.sum).place xs)

module _ (kind : BlockKind) (k : ℕ) (xs : List ℕ) where
  pub good_back : good_block kind k xs ≡ true → Good kind k xs
  unfolding good_block
  good_back e =
      let a = both_true _ _ e in
      let b = both_true _ _ a.0 in
      let c = both_true _ _ b.0 in
      let d = both_true _ _ c.0 in
      let f = both_true _ _ d.0 in
      record {
        enough = leb-true Block.size (length xs) f.0;
        numbered = eqb-true _ _ f.1;
        counted = count_back kind _ _ d.1;
        filled = c.1;
        ended = eqb-true _ _ b.1;
        summed = eqb-true _ _ a.1;
      }

  pub good_on : Good kind k xs → good_block kind k xs ≡ true
  unfolding good_block
  good_on g =
      rw (
        le-leb Block.size (length xs) g.enough,
        eq-eqb _ _ g.numbered,
        count_on kind _ _ g.counted,
        g.filled,
        eq-eqb _ _ g.ended,
        eq-eqb _ _ g.summed,
      )

-- the fields of a block
abbrev columns : List Column
columns = num Block.number ∷ num Block.count ∷ raw Block.entries ∷ num Block.ending ∷ num Block.sum ∷ []

in_line : InLine 0 columns
in_line = refl & refl & refl & refl & refl & tt

-- entries, and zeros for those that are not used
abbrev padding : BlockKind → List Entry → List ℕ
padding kind es = replicate ((Block.entries).width - Field.size kind * length es) 0

abbrev filling : BlockKind → List Entry → List ℕ
filling kind es = flat (encode_entry kind) es ++ padding kind es

-- block k of entries, with a number in the field of its sum
abbrev row_of : BlockKind → ℕ → List Entry → ℕ → Vals columns
row_of kind k es sum = k & length es & filling kind es & Block.ending_is kind & sum & tt

with-sum : (kind : BlockKind) (k : ℕ) (es : List Entry) (sum : ℕ) → encode_unsummed kind k es ++ stored Block.sum sum ≡ put_row columns (row_of kind k es sum)
unfolding encode_unsummed
with-sum kind k es sum =
    ap (λ z. stored Block.number k ++ stored Block.count (length es) ++ z)
    (append_assoc (filling kind es) (stored Block.ending (Block.ending_is kind)) (stored Block.sum sum))

pub unsummed_length : (kind : BlockKind) (k : ℕ) (es : List Entry) → length es ≤ Block.full kind → length (encode_unsummed kind k es) ≡ (Block.sum).place
unfolding encode_unsummed
unsummed_length kind k es most =
    rw (length-append, length-append, length-append, length-replicate, entries-length kind es) (omega (arith, room kind (length es) most))

pub block-length : (kind : BlockKind) (k : ℕ) (es : List Entry) → length es ≤ Block.full kind → length (encode_block kind k es) ≡ Block.size
unfolding encode_block
block-length kind k es most = rw (length-append, unsummed_length kind k es most)

-- what is before the sum of a block
before-sum : (kind : BlockKind) (k : ℕ) (es : List Entry) (s r : List ℕ) → length es ≤ Block.full kind
    → take (Block.sum).place (encode_unsummed kind k es ++ s ++ r) ≡ encode_unsummed kind k es
before-sum kind k es s r most =
    rw (append_assoc (encode_unsummed kind k es) s r) (take_at (encode_unsummed kind k es) (s ++ r) (Block.sum).place (unsummed_length kind k es most))

-- sound: the bytes at the head are the block of the entries that are read there
module _ (kind : BlockKind) (k : ℕ) (xs : List ℕ) (bs : Bytes xs) (g : Good kind k xs) where
  pub block-count : length (block_entries kind xs) ≡ count_in xs
  unfolding block_entries
  block-count = entries-count kind (count_in xs) (bytes_in Block.entries xs)

  stands : FitRow columns (row_in columns xs) × (put_row columns (row_in columns xs) ++ drop Block.size xs ≡ xs)
  stands = row_back columns in_line xs bs g.enough (refl & refl & refl & refl & refl & tt)

  taken : All (FineEntry kind) (block_entries kind xs) × (flat (encode_entry kind) (block_entries kind xs) ++ unused kind xs ≡ bytes_in Block.entries xs)
  unfolding block_entries
  taken =
      let area = stands.0.1.1.0 in
      entries_took kind (count_in xs) (bytes_in Block.entries xs) area.1
      (omega (arith, room kind (count_in xs) g.counted.most, area.0))

  pub block-fine : All (FineEntry kind) (block_entries kind xs)
  block-fine = taken.0

  filled_is : filling kind (block_entries kind xs) ≡ bytes_in Block.entries xs
  filled_is =
      let area = stands.0.1.1.0 in
      let long : length (unused kind xs) ≡ (Block.entries).width - Field.size kind * length (block_entries kind xs) =
      length-drop (Field.size kind * count_in xs) (bytes_in Block.entries xs) ∙ rw (area.0, block-count) refl in
      rw (← long, ← (zeros_back (unused kind xs) g.filled)) taken.1

  row_is : row_in columns xs ≡ row_of kind k (block_entries kind xs) (number_in Block.sum xs)
  row_is = rw (g.numbered, filled_is, block-count, g.ended) refl

  pub block_took : encode_block kind k (block_entries kind xs) ++ drop Block.size xs ≡ xs
  unfolding encode_block
  block_took =
      let es = block_entries kind xs in
      let most : length es ≤ Block.full kind = omega (arith, block-count, g.counted.most) in
      let sum = number_in Block.sum xs in
      let whole : encode_unsummed kind k es ++ stored Block.sum sum ++ drop Block.size xs ≡ xs =
      ap (λ z. z ++ drop Block.size xs) (with-sum kind k es sum ∙ ap (put_row columns) (sym row_is)) ∙ stands.1 in
      let first : take (Block.sum).place xs ≡ encode_unsummed kind k es =
      ap (λ z. take (Block.sum).place z) (sym whole) ∙ before-sum kind k es (stored Block.sum sum) (drop Block.size xs) most in
      rw (← first, ← g.summed) (rw first whole)

-- complete: a block's bytes are good, and its entries are read
entry_plain : (kind : BlockKind) (e : Entry) → FineEntry kind e → Plain (encode_entry kind e)
unfolding encode_entry
entry_plain kind e f =
    stored-plain Field.code e.code ⊹ stored-plain (Field.place kind) e.place ⊹ stored-plain (Field.localisation kind) e.localisation

module _ (kind : BlockKind) (k : ℕ) (es : List Entry) (r : List ℕ) (most : length es ≤ Block.full kind) (small : k < 256 ^ (Block.number).width)
    (fine : All (FineEntry kind) es) where
  abbrev stated : ℕ
  stated = block_sum (encode_unsummed kind k es)

  fits : FitRow columns (row_of kind k es stated)
  fits =
      let long : length (filling kind es) ≡ (Block.entries).width =
      rw (length-append, length-replicate, entries-length kind es) (omega (arith, room kind (length es) most)) in
      let plain : Plain (filling kind es) =
      flat-plain (encode_entry kind) (FineEntry kind) (entry_plain kind) es fine ⊹ zeros-plain ((Block.entries).width - Field.size kind * length es) in
      small & omega (arith, full-some kind) & (long, plain.is_bytes) & ending-fits kind & omega arith & tt

  row_back_is : row_in columns (encode_block kind k es ++ r) ≡ row_of kind k es stated
  unfolding encode_block
  row_back_is = rw (with-sum kind k es stated) (row_on columns in_line (row_of kind k es stated) r fits)

  area-is : bytes_in Block.entries (encode_block kind k es ++ r) ≡ filling kind es
  area-is = ap (λ v. v.1.1.0) row_back_is

  count-is : count_in (encode_block kind k es ++ r) ≡ length es
  count-is = ap (λ v. v.1.0) row_back_is

  pub block-entries_back : block_entries kind (encode_block kind k es ++ r) ≡ es
  unfolding block_entries
  block-entries_back = rw (area-is, count-is) (entries_back kind es (padding kind es) fine)

  filled_back : zeros (unused kind (encode_block kind k es ++ r)) ≡ true
  filled_back =
      rw (area-is, count-is, drop_at (flat (encode_entry kind) es) (padding kind es) (Field.size kind * length es) (entries-length kind es))
      (zeros_on ((Block.entries).width - Field.size kind * length es))

  sum_is : block_sum (take (Block.sum).place (encode_block kind k es ++ r)) ≡ stated
  unfolding encode_block
  sum_is = ap block_sum (before-sum kind k es (stored Block.sum stated) r most)

  pub block-ending : number_in Block.ending (encode_block kind k es ++ r) ≡ Block.ending_is kind
  block-ending = ap (λ v. v.1.1.1.0) row_back_is

  pub block-good : Count kind (leb (length (encode_block kind k es ++ r)) Block.size) (length es) → Good kind k (encode_block kind k es ++ r)
  block-good c =
      record {
        enough = rw (length-append, block-length kind k es most) (omega arith);
        numbered = ap (λ v. v.0) row_back_is;
        counted = rw count-is c;
        filled = filled_back;
        ended = block-ending;
        summed = ap (λ v. v.1.1.1.1.0) row_back_is ∙ sym sum_is;
      }
