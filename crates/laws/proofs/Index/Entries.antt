-- Entries of a kind, one after another: what is read is what is stored, both ways.
use mathlib.Core.List.{List, [], ◌∷◌, ◌++◌, append_assoc}
use mathlib.Core.Path.{◌≡◌, refl, ap, sym}
use Prim.Native.Nat.{ℕ, zero, suc, ◌+◌, ◌*◌, ◌≤◌}
use lib.ListN.{length, drop, length-append, length-drop}
use lib.Seq.{drop_at}
use native.Mathlib.Nat.{mul-zero}
use native.Mathlib.Omega.{arith}
use Rattle.layout.specs.Bytes.{All, flat, Bytes}
use Rattle.layout.specs.Fields.Entry as Field
use Rattle.layout.specs.Index.Blocks.{encode_entry, FineEntry}
use Rattle.layout.specs.Index.Reading.{entry_in, entries_from}
use Rattle.layout.specs.declared.BlockKind.{BlockKind}
use Rattle.layout.specs.declared.Entry.{Entry}
use Rattle.laws.proofs.Base.Lists.{◌&◌, all_drop}
use Rattle.laws.proofs.Base.Numbers.{length-bytes}
use Rattle.laws.proofs.Base.Readers.{took_both}
use Rattle.laws.proofs.Base.Rows.{Column, num, Vals, row_size, put_row, InLine, row_back, row_on}

module _ (kind : BlockKind) where
  abbrev columns : List Column
  columns = num Field.code ∷ num (Field.place kind) ∷ num (Field.localisation kind) ∷ []

  in_line : InLine 0 columns
  in_line = refl & refl & refl & tt

  size_is : row_size columns ≡ Field.size kind
  size_is = omega arith

  abbrev row_of : Entry → Vals columns
  row_of e = e.code & e.place & e.localisation & tt

  abbrev entry_of : Vals columns → Entry
  entry_of v = record { code = v.0; place = v.1.0; localisation = v.1.1.0 }

  entry_is : (e : Entry) → encode_entry kind e ≡ put_row columns (row_of e)
  unfolding encode_entry
  entry_is e = refl

  pub entry_length : (e : Entry) → length (encode_entry kind e) ≡ Field.size kind
  unfolding encode_entry
  entry_length e = rw (length-append, length-append, length-bytes, length-bytes (Field.place_width kind), length-bytes 1)

  pub entry_took : (xs : List ℕ) → Bytes xs → Field.size kind ≤ length xs
      → FineEntry kind (entry_in kind xs) × (encode_entry kind (entry_in kind xs) ++ drop (Field.size kind) xs ≡ xs)
  entry_took xs bs h =
      let r = row_back columns in_line xs bs (omega (arith, h)) (refl & refl & refl & tt) in
      (record { code = r.0.0; place = r.0.1.0; localisation = r.0.1.1.0 }, rw (entry_is (entry_in kind xs), ← size_is) r.1)

  pub entry_back : (e : Entry) (r : List ℕ) → FineEntry kind e → entry_in kind (encode_entry kind e ++ r) ≡ e
  entry_back e r f =
      rw (entry_is e) (ap entry_of (row_on columns in_line (row_of e) r (f.code & f.place & f.localisation & tt)))

  -- n entries at the head of xs
  pub entries-count : (n : ℕ) (xs : List ℕ) → length (entries_from kind n xs) ≡ n
  unfolding entries_from
  entries-count zero xs = refl
  entries-count (suc n) xs = ap suc (entries-count n (drop (Field.size kind) xs))

  pub entries_took : (n : ℕ) (xs : List ℕ) → Bytes xs → Field.size kind * n ≤ length xs
      → All (FineEntry kind) (entries_from kind n xs) × (flat (encode_entry kind) (entries_from kind n xs) ++ drop (Field.size kind * n) xs ≡ xs)
  unfolding entries_from
  entries_took zero xs bs h = (tt, rw mul-zero)
  entries_took (suc n) xs bs h =
      let size = Field.size kind in
      let a = entry_took xs bs (omega arith) in
      let b = entries_took n (drop size xs) (all_drop _ size xs bs) (rw length-drop (omega arith)) in
      let m : size * suc n ≡ size + size * n = omega arith in (
        (a.0, b.0),
        rw m
            (took_both (encode_entry kind (entry_in kind xs)) (flat (encode_entry kind) (entries_from kind n (drop size xs))) xs size (size * n) a.1
            b.1),
      )

  pub entries_back : (es : List Entry) (r : List ℕ) → All (FineEntry kind) es → entries_from kind (length es) (flat (encode_entry kind) es ++ r) ≡ es
  unfolding entries_from
  entries_back [] r f = refl
  entries_back (e ∷ es) r f =
      let rest = flat (encode_entry kind) es ++ r in
      let one : entry_in kind (encode_entry kind e ++ rest) ≡ e = entry_back e rest f.0 in
      let cut : drop (Field.size kind) (encode_entry kind e ++ rest) ≡ rest = drop_at (encode_entry kind e) rest (Field.size kind) (entry_length e) in
      rw (append_assoc (encode_entry kind e) (flat (encode_entry kind) es) r, one, cut) (ap (λ z. e ∷ z) (entries_back es r f.1))

  pub entries-length : (es : List Entry) → length (flat (encode_entry kind) es) ≡ Field.size kind * length es
  entries-length [] = sym (mul-zero (Field.size kind))
  entries-length (e ∷ es) = rw (length-append, entry_length e, entries-length es) (omega arith)
