-- What the contracts of crate `index` promise. (02, request 3: "We want it built from an accepted sheet and read back, and a selection by code through
-- the index must equal the one from reading the whole sheet. The selection is promised for an index built from that very sheet. Refusals: the
-- sheet's own; 18 BAD BLOCK with the block's place, for a wrong length, number, count, filling or sum, blocks in order; then 15." Request 7: "Old
-- blocks stay readable, a file holds one kind only, and new ones are always written in the new kind. [..] 18 also for mixed kinds.") They ask that
-- the sheet or the index is bytes, as the types of what is lent say.
use mathlib.Core.List.{List, [], ◌∷◌}
use mathlib.Core.Logic.{◌↔◌}
use mathlib.Core.Path.{◌≡◌, refl, sym, ap, subst, ◌∙◌}
use mathlib.Core.Bool.{true, false}
use Prim.Native.Nat.{ℕ, ◌*◌, ◌^◌, ◌≤◌, ◌<◌}
use borrow.Author.Tests.{le-leb, lt-leb, leb-true}
use lib.Dec.{leb}
use lib.ListN.{length, take}
use native.Mathlib.Omega.{arith}
use Rattle.index.proofs.Laws.Each.{all_rows}
use Rattle.index.proofs.Laws.Told.{by_refusal as indexed-refusal}
use Rattle.layout.specs.Answers.Calls.{and_then, reading, in_room, roomed, over, lent}
use Rattle.layout.specs.Answers.Enums.{refusal, index_sizes, indexed_of, written_of}
use Rattle.layout.specs.Answers.Lent.{the_given}
use Rattle.layout.specs.Bytes.{Bytes}
use Rattle.layout.specs.Fields.Block
use Rattle.layout.specs.Index.Blocks.{begun, encode_index, FineEntries}
use Rattle.layout.specs.Index.Reading.{file_kind, entries_in}
use Rattle.layout.specs.Index.Selecting.{entries_of, index_by, index_of, each, entry_row, pick_entry, pick_records, selected, picked, entry_rows}
use Rattle.layout.specs.Layout.Fine.{Fits}
use Rattle.layout.specs.Reading.Sheets.{start}
use Rattle.layout.specs.Refusals.{ROOM, ASK, BAD_BLOCK}
use Rattle.layout.specs.Sheet.{Sheet}
use Rattle.layout.specs.Walk.{Answer, given, refused, or_too_new}
use Rattle.layout.specs.Years.{is_setting}
use Rattle.layout.specs.declared.BlockKind.{BlockKind}
use Rattle.layout.specs.declared.BlockKind.TheVariants.{Old, New}
use Rattle.layout.specs.declared.Entry.{Entry}
use Rattle.layout.specs.declared.IndexSizes.{IndexSizes}
use Rattle.layout.specs.declared.Refusal.{Refusal}
use Rattle.layout.specs.declared.Sizes.{Sizes}
use Rattle.laws.proofs.Base.Walks.{given_inj, cond_back, then_back}
use Rattle.laws.proofs.Index as Law
use Rattle.laws.proofs.Years as Years
use Rattle.laws.proofs.Index.Files.{FirstBad, file_kind_lem, index_sound, index_complete, index_refused}
use Rattle.laws.proofs.Index.Sheets.{Reaches, new_reaches, entries-of-length}
use Rattle.laws.proofs.Written.{by_length, by_refusal}
use Rattle.promises.proofs.Contracts.{Checks, ChecksIndex, Gives}
use Rattle.promises.proofs.Rooms.{part_again, part-within}
use Rattle.promises.proofs.Years.{first, unless_late, too_new, told, ask}
use Rattle.reading.proofs.Laws.Seen.{by_accepted, refused-is}
use Rattle.std.specs.Prelude.{Result, Ok, Err}
use Rattle.layout.specs.declared.refusals.Reason.{Reason}
use Rattle.std.specs.Prelude.{is_ok}

-- What fits is what was given.
roomed_back : (room : ℕ) (w : Answer (List ℕ)) (l : List ℕ) → roomed room w ≡ given l → (w ≡ given l) × (length l ≤ room)
roomed_back room w l e =
    let (a, is, i) = then_back w _ l e in
    let (fits, same) = cond_back (leb (length a) room) _ _ _ _ l i in
    let al : a ≡ l = given_inj same in
    (is ∙ ap given al, omega (arith, leb-true (length a) room fits, ap length al))

-- one call, whose definition gives w
module _ (w : Answer (List ℕ)) (o out : List ℕ) (r : Result ℕ Refusal) (g : Gives w o out r) where
  -- A refusal leaves the slice as it was.
  pub refused_kept : (q : Refusal) → r ≡ Err q → out ≡ o
  refused_kept q e = g.1 ∙ ap (λ a. lent the_given a o) (by_refusal (roomed (length o) w) q (sym e ∙ g.0))

  -- What the definition refuses is refused, however much is lent: ROOM comes last.
  pub refused-first : (reason : Reason) (place year : ℕ) → w ≡ refused reason place year → (r ≡ Err (refusal reason place year)) × (out ≡ o)
  unfolding written_of
  refused-first reason place year e =
      let a : roomed (length o) w ≡ refused reason place year = ap (roomed (length o)) e in
      (g.0 ∙ ap written_of a, g.1 ∙ ap (λ x. lent the_given x o) a)

  -- What it gives is written to the start of the slice where it fits,
  pub given-fits : (l : List ℕ) → w ≡ given l → length l ≤ length o → (r ≡ Ok (length l)) × (out ≡ over l o)
  unfolding written_of
  given-fits l e h =
      let a : roomed (length o) w ≡ given l = ap (roomed (length o)) e ∙ rw (le-leb (length l) (length o) h) refl in
      (g.0 ∙ ap written_of a, g.1 ∙ ap (λ x. lent the_given x o) a)

  -- and is ROOM where it does not.
  pub given-short : (l : List ℕ) → w ≡ given l → length o < length l → (r ≡ Err (refusal ROOM 0 0)) × (out ≡ o)
  unfolding written_of
  given-short l e h =
      let a : roomed (length o) w ≡ refused ROOM 0 0 = ap (roomed (length o)) e ∙ rw (lt-leb (length l) (length o) h) refl in
      (g.0 ∙ ap written_of a, g.1 ∙ ap (λ x. lent the_given x o) a)

-- two calls that are to give the same, with the same lent
same-calls : (w v : Answer (List ℕ)) → w ≡ v → (o out new : List ℕ) (r q : Result ℕ Refusal) → Gives w o out r → Gives v o new q → (r ≡ q) × (out ≡ new)
same-calls w v e o out new r q g h =
    let a : roomed (length o) w ≡ roomed (length o) v = ap (roomed (length o)) e in
    (g.0 ∙ ap written_of a ∙ sym h.0, g.1 ∙ ap (λ x. lent the_given x o) a ∙ sym h.1)

-- The index of a sheet that `build` has written, at a setting y: the n bytes at the start of its slice.
module _ (y : ℕ) (s o out : List ℕ) (n : ℕ) (bs : Bytes s) (built : Gives (index_of y s) o out (Ok n)) where
  whole : index_of y s ≡ given (take n out)
  whole =
      let (l, is, long) = by_length (roomed (length o) (index_of y s)) n built.0 in
      let part : take n out ≡ l = part_again the_given (roomed (length o) (index_of y s)) l is o out built.1 n long in
      (roomed_back (length o) (index_of y s) l is).0 ∙ ap given (sym part)

  long : n ≡ length (take n out)
  long =
      let (l, is, count) = by_length (roomed (length o) (index_of y s)) n built.0 in
      let part : take n out ≡ l = part_again the_given (roomed (length o) (index_of y s)) l is o out built.1 n count in
      count ∙ ap length (sym part)

  -- Where `check` accepts the sheet, at whatever setting x, with so many records:
  module _ (x : ℕ) (z : Sizes) (accepted : Checks x s (Ok z)) where
    entries_are : (t : Sheet) → reading x s ≡ given t → entries_in (take n out) ≡ given (entries_of start t.records)
    entries_are t is = Law.index_read New y s (take n out) bs (new_reaches x s t bs is) whole x t is

    -- `select` through the index and `select` from the sheet answer the same for every code and leave the same in what is lent,
    pub selection : (code : ℕ) (p by_index by-sheet : List ℕ) (r q : Result ℕ Refusal)
        → Gives (selected code (take n out)) p by_index r → Gives (picked x s code) p by-sheet q → (r ≡ q) × (by_index ≡ by-sheet)
    selection code p by_index by-sheet r q =
        let (t, is, sizes) = by_accepted (reading x s) z accepted in
        same-calls (selected code (take n out)) (picked x s code) (Law.selection New y s (take n out) bs (new_reaches x s t bs is) whole x t is code) p
        by_index by-sheet r q

    -- `read` gives the codes, places and localisations of its records in order, three numbers each, where there is room,
    pub index_read : (p rows : List ℕ) (r : Result ℕ Refusal) → Gives (entry_rows (take n out)) p rows r → 3 * z.records ≤ length p
        → (t : Sheet) × (reading x s ≡ given t) × (r ≡ Ok (3 * z.records)) × (rows ≡ over (each entry_row 0 (entries_of start t.records)) p)
    unfolding entry_rows
    index_read p rows r g room =
        let (t, is, sizes) = by_accepted (reading x s) z accepted in
        let es = entries_of start t.records in
        let count : length es ≡ z.records = entries-of-length start t.records ∙ sym (ap (λ (v : Sizes). v.records) sizes) in
        let long : 3 * z.records ≡ length (each entry_row 0 es) = all_rows es z.records count in
        let a = ap (λ w. and_then w (λ l. given (each entry_row 0 l))) (entries_are t is) in
        let f = given-fits (entry_rows (take n out)) p rows r g (each entry_row 0 es) a (omega (arith, long, room)) in
        (t, is, f.0 ∙ ap Ok (sym long), f.1)

    -- and the index has 512 bytes for each begun block of 56 records, whose numbers fit their two bytes.
    pub blocks-fit : (n ≡ Block.size * begun (Block.full New) z.records) × (begun (Block.full New) z.records ≤ 256 ^ (Block.number).width)
        × Fits Block.count (Block.full New)
    unfolding index_by
    blocks-fit =
        let (t, is, sizes) = by_accepted (reading x s) z accepted in
        let (u, was, i) = then_back (reading y s) _ (take n out) whole in
        let same : entries_of start t.records ≡ entries_of start u.records =
        given_inj (sym (entries_are t is) ∙ Law.index_read New y s (take n out) bs (new_reaches y s u bs was) whole y u was) in
        let count : length u.records ≡ z.records =
        sym (entries-of-length start u.records) ∙ ap length (sym same) ∙ entries-of-length start t.records
        ∙ sym (ap (λ (v : Sizes). v.records) sizes) in
        let fit = Law.blocks-fit y s (take n out) u bs was whole in (
          long ∙ fit.2 ∙ ap (λ k. Block.size * begun (Block.full New) k) count,
          subst (λ k. begun (Block.full New) k ≤ 256 ^ (Block.number).width) count fit.0,
          fit.1,
        )

-- what an answer says of the entries
indexed_back : (kind : BlockKind) (w : Answer (List Entry)) (z : IndexSizes) → Ok z ≡ indexed_of kind w
    → (es : List Entry) × (w ≡ given es) × (index_sizes kind es ≡ z)
unfolding indexed_of
indexed_back kind (given es) z e = let is : index_sizes kind es ≡ z = cc in (es, refl, is)
indexed_back kind (refused n p y) z e = absurd (let q : ◌≡◌ {A = ℕ} 0 1 = cc in omega arith)

-- an index of some kind has the blocks of its own kind, also where it is empty
same-sizes : (kind : BlockKind) (es : List Entry) → FineEntries kind es → index_sizes (file_kind (encode_index kind es)) es ≡ index_sizes kind es
same-sizes kind [] fine = no_sizes (file_kind (encode_index kind [])) kind
  where
    no_sizes : (a b : BlockKind) → index_sizes a [] ≡ index_sizes b []
    no_sizes Old Old = refl
    no_sizes Old New = refl
    no_sizes New Old = refl
    no_sizes New New = refl
same-sizes kind (e ∷ es) fine = ap (λ k. index_sizes k (e ∷ es)) (file_kind_lem kind (e ∷ es) fine (omega arith))

-- An index is accepted exactly when it is the blocks of some entries, all of one kind, and then it has as many entries as these, and their blocks.
pub index_exact : (xs : List ℕ) → Bytes xs → (r : Result IndexSizes Refusal) → ChecksIndex xs r → (z : IndexSizes)
    → (r ≡ Ok z) ↔ ((kind : BlockKind) × (es : List Entry) × FineEntries kind es × (encode_index kind es ≡ xs) × (index_sizes kind es ≡ z))
unfolding indexed_of
index_exact xs bs r c z = (
  λ e. let (es, is, sizes) = indexed_back (file_kind xs) (entries_in xs) z (sym e ∙ c) in
      let (fine, made) = index_sound xs bs es is in
      (file_kind xs, es, fine, made, sizes),
  λ (kind, es, fine, made, sizes).
      c ∙ ap (indexed_of (file_kind xs)) ((Law.index_exact xs es bs).1 (kind, fine, made))
      ∙ ap Ok (ap (λ l. index_sizes (file_kind l) es) (sym made) ∙ same-sizes kind es fine ∙ sizes),
)

-- Every refusal is BAD BLOCK, at the first block that is not good.
pub first-bad : (xs : List ℕ) (r : Result IndexSizes Refusal) → ChecksIndex xs r → (q : Refusal) → r ≡ Err q
    → (q.reason ≡ BAD_BLOCK) × (q.year ≡ 0) × FirstBad (file_kind xs) (begun Block.size (length xs)) 0 xs q.place
first-bad xs r c q e = index_refused xs q.reason q.place q.year (indexed-refusal (file_kind xs) (entries_in xs) q (sym e ∙ c))

-- "Old blocks stay readable": what the old builder gave for a sheet, which then had at most 16,777,216 bytes. Of such an index
module _ (y : ℕ) (s old : List ℕ) (bs : Bytes s) (reaches : Reaches Old s) (was : index_by Old y s ≡ given old) where
  -- `read` answers as of the index that `build` writes now, at whatever setting x, and leaves the same in what is lent,
  pub old-read : (x : ℕ) (o out : List ℕ) (n : ℕ) → Gives (index_of x s) o out (Ok n)
      → (p rows new : List ℕ) (r q : Result ℕ Refusal) → Gives (entry_rows old) p rows r → Gives (entry_rows (take n out)) p new q → (r ≡ q) × (rows ≡ new)
  unfolding entry_rows
  old-read x o out n built =
      let (es, by_old, by-new) = Law.old-read y x s old (take n out) bs reaches was (whole x s o out n bs built) in
      same-calls (entry_rows old) (entry_rows (take n out)) (ap (λ w. and_then w (λ l. given (each entry_row 0 l))) (by_old ∙ sym by-new))

  -- `select` answers as from the sheet, at every setting that accepts it,
  module _ (x : ℕ) (z : Sizes) (accepted : Checks x s (Ok z)) where
    pub old_selection : (code : ℕ) (p by_index by-sheet : List ℕ) (r q : Result ℕ Refusal)
        → Gives (selected code old) p by_index r → Gives (picked x s code) p by-sheet q → (r ≡ q) × (by_index ≡ by-sheet)
    old_selection code =
        let (t, is, sizes) = by_accepted (reading x s) z accepted in
        same-calls (selected code old) (picked x s code) (Law.selection Old y s old bs reaches was x t is code)

    -- and `check` accepts it, with as many entries as the sheet has records.
    pub old-entries : (r : Result IndexSizes Refusal) → ChecksIndex old r → (i : IndexSizes) × (r ≡ Ok i) × (i.entries ≡ z.records)
    unfolding indexed_of
    old-entries r c =
        let (t, is, sizes) = by_accepted (reading x s) z accepted in
        let es = entries_of start t.records in (
          index_sizes (file_kind old) es,
          c ∙ ap (indexed_of (file_kind old)) (Law.index_read Old y s old bs reaches was x t is),
          entries-of-length start t.records ∙ sym (ap (λ (v : Sizes). v.records) sizes),
        )

-- What `check` says of an index, the other calls say too: the same refusal, and nothing is written;
module _ (xs : List ℕ) (q : Refusal) (bad : ChecksIndex xs (Err q)) (o out : List ℕ) (r : Result ℕ Refusal) where
  stops : entries_in xs ≡ refused q.reason q.place q.year
  stops = indexed-refusal (file_kind xs) (entries_in xs) q bad

  pub read-refused : Gives (entry_rows xs) o out r → (r ≡ Err q) × (out ≡ o)
  unfolding entry_rows
  read-refused g =
      refused-first (entry_rows xs) o out r g q.reason q.place q.year (ap (λ w. and_then w (λ l. given (each entry_row 0 l))) stops)

  pub select_refused : (code : ℕ) → Gives (selected code xs) o out r → (r ≡ Err q) × (out ≡ o)
  unfolding selected
  select_refused code g =
      refused-first (selected code xs) o out r g q.reason q.place q.year (ap (λ w. and_then w (λ l. given (each (pick_entry code) 0 l))) stops)

-- and of blocks of entries `read` and `select` tell these entries, where there is room.
module _ (kind : BlockKind) (es : List Entry) (fine : FineEntries kind es) (o out : List ℕ) (r : Result ℕ Refusal) where
  pub read-entries : Gives (entry_rows (encode_index kind es)) o out r → length (each entry_row 0 es) ≤ length o
      → (r ≡ Ok (length (each entry_row 0 es))) × (out ≡ over (each entry_row 0 es) o)
  unfolding entry_rows
  read-entries g =
      given-fits (entry_rows (encode_index kind es)) o out r g (each entry_row 0 es)
      (ap (λ w. and_then w (λ l. given (each entry_row 0 l))) (index_complete kind es fine))

  pub select_entries : (code : ℕ) → Gives (selected code (encode_index kind es)) o out r → length (each (pick_entry code) 0 es) ≤ length o
      → (r ≡ Ok (length (each (pick_entry code) 0 es))) × (out ≡ over (each (pick_entry code) 0 es) o)
  unfolding selected
  select_entries code g =
      given-fits (selected code (encode_index kind es)) o out r g (each (pick_entry code) 0 es)
      (ap (λ w. and_then w (λ l. given (each (pick_entry code) 0 l))) (index_complete kind es fine))

-- What `check` refuses of a sheet, `build` and `select` refuse too.
module _ (y : ℕ) (s : List ℕ) (q : Refusal) (bad : Checks y s (Err q)) (o out : List ℕ) (r : Result ℕ Refusal) where
  stops-sheet : reading y s ≡ refused q.reason q.place q.year
  stops-sheet = refused-is y s q _ bad refl

  pub build_refused : Gives (index_of y s) o out r → (r ≡ Err q) × (out ≡ o)
  unfolding index_by
  build_refused g =
      refused-first (index_of y s) o out r g q.reason q.place q.year
      (ap (λ a. and_then a (λ t. given (encode_index New (entries_of start t.records)))) stops-sheet)

  pub pick-refused : (code : ℕ) → Gives (picked y s code) o out r → (r ≡ Err q) × (out ≡ o)
  unfolding picked
  pick-refused code g =
      refused-first (picked y s code) o out r g q.reason q.place q.year
      (ap (λ a. and_then a (λ t. given (pick_records code 0 start t.records))) stops-sheet)

-- A reader set to one of nine years. (Demand 3) What `build` and `select` tell is made of a reading: where the sheet has a feature that is later than the
-- setting before any refusal of its own, they answer TOO NEW with that feature, and else as at 2017.
roomed-then : {A : Type 0} (room : ℕ) (a : Answer A) (f : A → List ℕ) → roomed room (and_then a (λ t. given (f t))) ≡ and_then a (λ t. in_room room (f t))
roomed-then room (given a) f = refl
roomed-then room (refused n p y) f = refl

module _ (y : ℕ) (ok : is_setting y ≡ true) (s : List ℕ) (f : Sheet → List ℕ) (o out new : List ℕ) (r q : Result ℕ Refusal) where
  made-years : Gives (and_then (reading y s) (λ t. given (f t))) o out r → Gives (and_then (reading 2017 s) (λ t. given (f t))) o new q
      → (r ≡ unless_late (first y ok s) (λ p z. Err (too_new p z)) q) × (out ≡ unless_late (first y ok s) (λ p z. o) new)
  unfolding written_of
  made-years c d =
      let e = roomed-then (length o) (reading y s) f ∙ Years.years-then (λ t. in_room (length o) (f t)) s y ok
      ∙ ap (or_too_new (first y ok s)) (sym (roomed-then (length o) (reading 2017 s) f)) in (
        told written_of _ (λ p z. refl) (first y ok s) _ _ e r q c.0 d.0,
        told (λ a. lent the_given a o) _ (λ p z. refl) (first y ok s) _ _ e out new c.1 d.1,
      )

module _ (y : ℕ) (ok : is_setting y ≡ true) (s o out new : List ℕ) (r q : Result ℕ Refusal) where
  pub build_years : Gives (index_of y s) o out r → Gives (index_of 2017 s) o new q
      → (r ≡ unless_late (first y ok s) (λ p z. Err (too_new p z)) q) × (out ≡ unless_late (first y ok s) (λ p z. o) new)
  unfolding index_by
  build_years = made-years y ok s (λ t. encode_index New (entries_of start t.records)) o out new r q

  pub select_years : (code : ℕ) → Gives (picked y s code) o out r → Gives (picked 2017 s code) o new q
      → (r ≡ unless_late (first y ok s) (λ p z. Err (too_new p z)) q) × (out ≡ unless_late (first y ok s) (λ p z. o) new)
  unfolding picked
  select_years code = made-years y ok s (λ t. pick_records code 0 start t.records) o out new r q

-- At a year that is none of the nine both answer ASK at place 0, and leave the slice as it was.
module _ (y : ℕ) (other : is_setting y ≡ false) (s o out : List ℕ) (r : Result ℕ Refusal) where
  pub build_ask : Gives (index_of y s) o out r → (r ≡ Err ask) × (out ≡ o)
  unfolding index_by
  build_ask g =
      refused-first (index_of y s) o out r g ASK 0 0
      (ap (λ a. and_then a (λ t. given (encode_index New (entries_of start t.records)))) (Years.no_setting s y other))

  pub select_ask : (code : ℕ) → Gives (picked y s code) o out r → (r ≡ Err ask) × (out ≡ o)
  unfolding picked
  select_ask code g =
      refused-first (picked y s code) o out r g ASK 0 0 (ap (λ a. and_then a (λ t. given (pick_records code 0 start t.records))) (Years.no_setting s y other))

-- The same for functions that are lent slices, and so need not ask for bytes (promises/src/picks).
pub blocks_accepted : (xs : List ℕ) → Bytes xs → (r : Result IndexSizes Refusal) → ChecksIndex xs r → (z : IndexSizes) → r ≡ Ok z
    → (true ≡ true) ↔ ((kind : BlockKind) × (es : List Entry) × FineEntries kind es × (encode_index kind es ≡ xs))
blocks_accepted xs bs r c z e = (λ _. let (kind, es, fine, made, sizes) = (index_exact xs bs r c z).0 e in (kind, es, fine, made), λ _. refl)

pub blocks-refused : (xs : List ℕ) → Bytes xs → (r : Result IndexSizes Refusal) → ChecksIndex xs r → (q : Refusal) → r ≡ Err q
    → (false ≡ true) ↔ ((kind : BlockKind) × (es : List Entry) × FineEntries kind es × (encode_index kind es ≡ xs))
blocks-refused xs bs r c q e = (
  λ no. absurd (let z : ◌≡◌ {A = ℕ} 0 1 = cc in omega arith),
  λ (kind, es, fine, made). let a = (index_exact xs bs r c (index_sizes kind es)).1 (kind, es, fine, made, refl) in
      absurd (let z : ◌≡◌ {A = ℕ} 0 1 = cc in omega arith),
)

-- either way
pub blocks_kept : (xs : List ℕ) → Bytes xs → (r : Result IndexSizes Refusal) → ChecksIndex xs r
    → (is_ok r ≡ true) ↔ ((kind : BlockKind) × (es : List Entry) × FineEntries kind es × (encode_index kind es ≡ xs))
blocks_kept xs bs (Ok z) c = blocks_accepted xs bs (Ok z) c z refl
blocks_kept xs bs (Err q) c = blocks-refused xs bs (Err q) c q refl

module _ (y : ℕ) (s o out : List ℕ) (w : Result ℕ Refusal) (built : Gives (index_of y s) o out w) (n : ℕ) (is : w ≡ Ok n) where
  pub built_within : n ≤ length out
  built_within =
      let (l, was, count) = by_length (roomed (length o) (index_of y s)) n (sym is ∙ built.0) in
      part-within the_given (roomed (length o) (index_of y s)) l was o out built.1 n count

  pub built_true : (true ≡ true) ↔ ((xs : List ℕ) × (index_of y s ≡ given xs) × (length xs ≤ length o))
  built_true =
      let (l, was, count) = by_length (roomed (length o) (index_of y s)) n (sym is ∙ built.0) in
      (λ _. let (g, fits) = roomed_back (length o) (index_of y s) l was in (l, g, fits), λ _. refl)

  -- xs are the n bytes that were built
  pub built_picks : Bytes s → (xs : List ℕ) → xs ≡ take n out → (x code : ℕ) (p picks : List ℕ) (r : Result ℕ Refusal)
      → Gives (selected code xs) p picks r → (t : Sheet) → reading x s ≡ given t → picks ≡ lent the_given (roomed (length p) (picked x s code)) p
  built_picks bs xs part x code p picks r g t read =
      let built' : Gives (index_of y s) o out (Ok n) = subst (λ v. Gives (index_of y s) o out v) is built in
      let same = Law.selection New y s (take n out) bs (new_reaches x s t bs read) (whole y s o out n bs built') x t read code in
      g.1 ∙ ap (λ l. lent the_given (roomed (length p) (selected code l)) p) part ∙ ap (λ w. lent the_given (roomed (length p) w) p) same

pub built_false : (y : ℕ) (s o out : List ℕ) (w : Result ℕ Refusal) → Gives (index_of y s) o out w → (q : Refusal) → w ≡ Err q
    → (false ≡ true) ↔ ((xs : List ℕ) × (index_of y s ≡ given xs) × (length xs ≤ length o))
built_false y s o out w g q e = (
  λ no. absurd (let z : ◌≡◌ {A = ℕ} 0 1 = cc in omega arith),
  λ h. let f = (given-fits (index_of y s) o out w g h.0 h.1 h.2).0 in absurd (let z : ◌≡◌ {A = ℕ} 0 1 = cc in omega arith),
)
