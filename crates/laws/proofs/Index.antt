-- What is promised of a code index. (02, request 3: "We want it built from an accepted sheet and read back, and a selection by code through the index
-- must equal the one from reading the whole sheet. The selection is promised for an index built from that very sheet." Request 7: "Old blocks stay
-- readable, a file holds one kind only, and new ones are always written in the new kind.")
use mathlib.Core.List.{List}
use mathlib.Core.Logic.{◌↔◌}
use mathlib.Core.Path.{◌≡◌, ap, sym, ◌∙◌}
use Prim.Native.Nat.{ℕ, ◌*◌, ◌^◌, ◌≤◌}
use lib.ListN.{length}
use native.Mathlib.Omega.{arith}
use Rattle.layout.specs.Answers.Calls.{reading}
use Rattle.layout.specs.Bytes.{Bytes}
use Rattle.layout.specs.Fields.Block
use Rattle.layout.specs.Index.Blocks.{begun, encode_index, FineEntries}
use Rattle.layout.specs.Index.Reading.{file_kind, entries_in}
use Rattle.layout.specs.Index.Selecting.{entries_of, index_by, index_of, selected, picked}
use Rattle.layout.specs.Layout.Fine.{Fits}
use Rattle.layout.specs.Reading.Sheets.{start, sheet_walk}
use Rattle.layout.specs.Sheet.{Sheet}
use Rattle.layout.specs.Walk.{given, up_to}
use Rattle.layout.specs.Years.{is_setting}
use Rattle.layout.specs.declared.BlockKind.{BlockKind}
use Rattle.layout.specs.declared.BlockKind.TheVariants.{Old, New}
use Rattle.layout.specs.declared.Entry.{Entry}
use Rattle.laws.proofs.Base.Walks.{given_inj, given-ends, cond_back, then_back}
use Rattle.laws.proofs.Index.Files.{index_sound, index_complete, index_length}
use Rattle.laws.proofs.Index.Sheets.{Reaches, new_reaches, sheet-entries, picks_same, entries-of-length}
pub mod Entries
pub mod Blocks
pub mod Files
pub mod Sheets

-- An index is read without refusal exactly when it is the blocks of some entries, all of one kind, and then of those.
pub index_exact : (xs : List ℕ) (es : List Entry) → Bytes xs
    → (entries_in xs ≡ given es) ↔ ((kind : BlockKind) × FineEntries kind es × (encode_index kind es ≡ xs))
index_exact xs es bs = (
  λ e. let (fine, is) = index_sound xs bs es e in (file_kind xs, fine, is),
  λ (kind, fine, is). ap entries_in (sym is) ∙ index_complete kind es fine,
)

-- a sheet that two settings accept is read alike
same-sheet : (year other : ℕ) (s : List ℕ) (t u : Sheet) → reading year s ≡ given t → reading other s ≡ given u → t ≡ u
unfolding reading
same-sheet year other s t u e f =
    let a = given-ends (up_to year) (sheet_walk s) t (cond_back (is_setting year) _ _ _ _ t e).1 in
    let b = given-ends (up_to other) (sheet_walk s) u (cond_back (is_setting other) _ _ _ _ u f).1 in
    cc

-- xs is the index of the sheet s in blocks of a kind that reaches its places
module _ (kind : BlockKind) (year : ℕ) (s xs : List ℕ) (bs : Bytes s) (reaches : Reaches kind s) (built : index_by kind year s ≡ given xs) where
  -- Reading it gives the codes, places and localisations of the records in order, at whatever setting the sheet is accepted.
  pub index_read : (other : ℕ) (t : Sheet) → reading other s ≡ given t → entries_in xs ≡ given (entries_of start t.records)
  unfolding index_by
  index_read other t e =
      let (u, r, i) = then_back (reading year s) _ xs built in
      let es = entries_of start u.records in
      ap entries_in (sym (given_inj i)) ∙ index_complete kind es (sheet-entries kind year s u bs reaches r)
      ∙ ap (λ (v : Sheet). given (entries_of start v.records)) (same-sheet year other s u t r e)

  -- Selecting by a code through it is selecting from the reading of the sheet, for every code, at every setting that accepts the sheet.
  pub selection : (other : ℕ) (t : Sheet) → reading other s ≡ given t → (code : ℕ) → selected code xs ≡ picked other s code
  unfolding selected picked
  selection other t e code = rw (index_read other t e, e) (ap given (picks_same code 0 start t.records))

-- "Old blocks stay readable": what the old builder gave for a sheet is still read, to the same entries as the new.
pub old-read : (year other : ℕ) (s old new : List ℕ) → Bytes s → Reaches Old s → index_by Old year s ≡ given old → index_of other s ≡ given new
    → (es : List Entry) × (entries_in old ≡ given es) × (entries_in new ≡ given es)
unfolding index_by
old-read year other s old new bs reaches was is =
    let (t, e, made) = then_back (reading other s) _ new is in (
      entries_of start t.records,
      index_read Old year s old bs reaches was other t e,
      index_read New other s new bs (new_reaches other s t bs e) is other t e,
    )

-- The block numbers, which count from 0, and the entry counts of an accepted sheet's index fit their two bytes, and it has 512 bytes for each begun block.
pub blocks-fit : (year : ℕ) (s xs : List ℕ) (t : Sheet) → Bytes s → reading year s ≡ given t → index_of year s ≡ given xs
    → (begun (Block.full New) (length t.records) ≤ 256 ^ (Block.number).width) × Fits Block.count (Block.full New)
    × (length xs ≡ Block.size * begun (Block.full New) (length t.records))
unfolding index_by
blocks-fit year s xs t bs e built =
    let fine = sheet-entries New year s t bs (new_reaches year s t bs e) e in
    let es = entries_of start t.records in
    let long = entries-of-length start t.records in
    let is : encode_index New es ≡ xs = given_inj (rw e at built) in (
      rw (← long) fine.blocks,
      omega arith,
      ap length (sym is) ∙ index_length New es fine ∙ ap (λ n. Block.size * begun (Block.full New) n) long,
    )
