-- The rows of a table, to its end, are exactly the records that flatten to it.
use mathlib.Core.Bool.{Bool, true, not}
use mathlib.Core.List.{List, [], ◌∷◌}
use mathlib.Core.Path.{◌≡◌, refl, ap, sym, ◌∙◌}
use Prim.Native.Nat.{ℕ, zero, suc, ◌+◌, ◌≤◌, ◌<◌}
use lib.ListN.{length, length-append}
use native.Mathlib.Omega.{arith}
use Rattle.layout.specs.Bytes.{All, Bytes, flat, some}
use Rattle.layout.specs.Layout.Uses.{record_years}
use Rattle.layout.specs.Shared.Row
use Rattle.layout.specs.Sheet.{Record, Table}
use Rattle.layout.specs.Walk.{Walk, ends, given, answer, ◌>>=◌, ◌>>◌, checks}
use Rattle.layout.specs.Writing.Rows.{row_walk, end_rules, rows_from, rows_walk}
use Rattle.layout.specs.Writing.Tables.{table, join, joined, taken, flatten_record, flatten}
use Rattle.laws.proofs.Base.Lists.{both_true}
use Rattle.laws.proofs.Base.Walks.{given_inj, bind_case, bind_on, checks_case, Allowed, allowed_append}
use Rattle.laws.proofs.Writing.Records.{NearRecord, record_numbers, record_takes}
use Rattle.laws.proofs.Writing.Takes.{table_path, left-bytes, left-numbers}

none_back : (l : List ℕ) → not (some l) ≡ true → l ≡ []
none_back [] e = refl
none_back (x ∷ l) e = let z : ◌≡◌ {A = ℕ} 0 1 = cc in absurd (omega arith)

pub record_grows : (r : Record) → Row.row_width ≤ length (flatten_record r).numbers
record_grows r = omega (arith, record_numbers r)

-- the index of the row after a record's
abbrev pub next_row : ℕ → Record → ℕ
next_row i r = i + Row.row_size (1 + length r.subobjects) (length r.items)

-- the rows from an index on, of a table
abbrev pub rows_of : ℕ → ℕ → Table → Walk (List Record)
rows_of most i t = rows_from most i t.numbers t.elements t.bytes

-- what the rows l come to
abbrev pub RowsAre : (ℕ → Bool) → Table → List Record → Type 0
RowsAre al t l = All NearRecord l × Allowed al (flat record_years l) × (joined flatten_record l ≡ t)

rows_step : (most i : ℕ) (t : Table) → 0 < length t.numbers
    → rows_of (suc most) i t ≡ (row_walk i t >>= λ row. rows_of most (next_row i row.value) row.left >>= λ more. ends (row.value ∷ more))
rows_step most i t h = go t.numbers h
  where
    go : (ns : List ℕ) → 0 < length ns → let u = table ns t.elements t.bytes in
        rows_of (suc most) i u ≡ (row_walk i u >>= λ row. rows_of most (next_row i row.value) row.left >>= λ more. ends (row.value ∷ more))
    go [] h = absurd (omega arith)
    go (n ∷ ns) h = refl

module _ (al : ℕ → Bool) where
  rows_end : (i : ℕ) (es pool : List ℕ) (l : List Record) → answer al (checks i (end_rules es pool) >> ends []) ≡ given l
      → RowsAre al (table [] es pool) l
  unfolding end_rules
  rows_end i es pool l e =
      checks_case al i (end_rules es pool) (ends []) l e λ c y g.
      let h = both_true (not (some es)) (not (some pool)) c.0 in
      rw (← (given_inj g)) (tt, tt, table_path _ _ refl (sym (none_back es h.0)) (sym (none_back pool h.1)))

  rows_sound : (most i : ℕ) (ns es pool : List ℕ) → length ns ≤ most → Bytes pool → (l : List Record)
      → answer al (rows_from most i ns es pool) ≡ given l → RowsAre al (table ns es pool) l
  rows_sound zero i [] es pool h b l e = rows_end i es pool l e
  rows_sound zero i (n ∷ ns) es pool h b l e = absurd (omega arith)
  rows_sound (suc most) i [] es pool h b l e = rows_end i es pool l e
  rows_sound (suc most) i (n ∷ ns) es pool h b l e =
      let t : Table = table (n ∷ ns) es pool in
      bind_case al (row_walk i t) _ l e λ u j g.
      bind_case al (rows_of most (next_row i u.value) u.left) _ l g λ m q k.
      let s = (record_takes al).sound i t (omega arith) b u j in
      let E = flatten_record u.value in
      let left = left-numbers E u.left t s.2 in
      let z = rows_sound most _ u.left.numbers u.left.elements u.left.bytes (omega (arith, left, record_grows u.value))
      (left-bytes E u.left t s.2 b) m q in
      rw (← (given_inj k))
      ((s.0, z.0), (allowed_append al (record_years u.value) (flat record_years m)).1 (s.1, z.1), ap (λ x. join E x) z.2 ∙ s.2)

  rows_complete : (most i : ℕ) (l : List Record) → length (joined flatten_record l).numbers ≤ most → All NearRecord l
      → Allowed al (flat record_years l) → answer al (rows_of most i (joined flatten_record l)) ≡ given l
  unfolding end_rules
  rows_complete zero i [] h n y = refl
  rows_complete (suc most) i [] h n y = refl
  rows_complete zero i (r ∷ l) h n y =
      absurd (omega (arith, record_grows r, length-append (flatten_record r).numbers (joined flatten_record l).numbers))
  rows_complete (suc most) i (r ∷ l) h n y =
      let z = (allowed_append al (record_years r) (flat record_years l)).0 y in
      let x = joined flatten_record l in
      let len = length-append (flatten_record r).numbers x.numbers in
      ap (λ w. answer al w) (rows_step most i (join (flatten_record r) x) (omega (arith, len, record_grows r)))
      ∙ bind_on al (row_walk i (join (flatten_record r) x)) _ (taken r x) ((record_takes al).complete i r x n.0 z.0)
      ∙ bind_on al (rows_of most (next_row i r) x) _ l (rows_complete most (next_row i r) l (omega (arith, len, record_grows r)) n.1 z.1)

  pub rows_back : (t : Table) → Bytes t.bytes → (l : List Record) → answer al (rows_walk t) ≡ given l
      → All NearRecord l × Allowed al (flat record_years l) × (flatten l ≡ t)
  unfolding rows_walk flatten
  rows_back t b l e = rows_sound (length t.numbers) 0 t.numbers t.elements t.bytes (omega arith) b l e

  pub rows_on : (l : List Record) → All NearRecord l → Allowed al (flat record_years l) → answer al (rows_walk (flatten l)) ≡ given l
  unfolding rows_walk flatten
  rows_on l n y = rows_complete (length (joined flatten_record l).numbers) 0 l (omega arith) n y
