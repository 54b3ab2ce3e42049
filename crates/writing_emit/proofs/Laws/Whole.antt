-- The whole of an accepted table: what the rows' emitter is asked, and that it has written whatever records the table is of.
use mathlib.Core.List.{List, [], ◌∷◌, append-nil}
use mathlib.Core.Path.{◌≡◌, ap, sym, ◌∙◌}
use Prim.Native.Nat.{ℕ, ◌≤◌}
use lib.ListN.{length, length-append}
use lib.Seq.{sets}
use native.Mathlib.Omega.{arith}
use Rattle.writing_emit.specs.Cursors.{ahead}
use Rattle.writing_emit.specs.Pieces.{Piece, Emitted, Counted}
use Rattle.writing_emit.specs.Rows.{Accepted}
use Rattle.fields.specs.declared.cursors.Cursor.{Cursor}
use Rattle.layout.specs.Bytes.{All, flat}
use Rattle.layout.specs.Fields.{limit}
use Rattle.layout.specs.Layout.Encode.{encode_record}
use Rattle.layout.specs.Layout.Fine.{FineRecord}
use Rattle.layout.specs.Layout.Uses.{record_years}
use Rattle.layout.specs.Sheet.{Record, Table}
use Rattle.layout.specs.Walk.{always, answer}
use Rattle.layout.specs.Writing.Rows.{rows_walk}
use Rattle.layout.specs.Writing.Tables.{table, join, joined, flatten, flatten_record}
use Rattle.laws.proofs.Base.Walks.{given_inj, allowed-always}
use Rattle.laws.proofs.Writing.Records.{NearRecord, near-fine}
use Rattle.laws.proofs.Writing.Rows.{rows_on}
use Rattle.laws.proofs.Writing.Takes.{table_path}

-- the table starts at no number, and the bytes at w
abbrev pub start : ℕ → Cursor
start w = record { numbers = 0; elements = 0; bytes = 0; place = w }

-- a record within a limit has a total length that fits its field
all-fine : (l : List Record) → All NearRecord l → length (flat encode_record l) ≤ limit → All FineRecord l
all-fine [] n h = tt
all-fine (r ∷ l) n h =
    let e = length-append (encode_record r) (flat encode_record l) in
    (near-fine r n.0 (omega (arith, h, e)), all-fine l n.1 (omega (arith, h, e)))

-- one list of records only is flattened so
rows_same : (l m : List Record) → All NearRecord l → All NearRecord m → flatten l ≡ flatten m → l ≡ m
rows_same l m f g e =
    given_inj (
    sym (rows_on always l f (allowed-always (flat record_years l)))
    ∙ ap (λ t. answer always (rows_walk t)) e
    ∙ rows_on always m g (allowed-always (flat record_years m))
    )

module _ (ns es pool : List ℕ) (n w : ℕ) (o₀ : List ℕ) (a : Accepted ns es pool n w (length o₀)) where
  flat-is : joined flatten_record a.rs ≡ table ns es pool
  unfolding flatten
  flat-is = a.is

  fine : Counted n FineRecord a.rs
  fine = (a.count, all-fine a.rs a.near a.small)

  whole : join (joined flatten_record a.rs) (table [] [] []) ≡ ahead (start w) (table ns es pool)
  whole =
      let t = joined flatten_record a.rs in
      table_path _ t (append-nil t.numbers) (append-nil t.elements) (append-nil t.bytes) ∙ flat-is

  pub rows_ask : Piece (joined flatten_record) (Counted n FineRecord) (flat encode_record) (start w) (table ns es pool) (length o₀)
  rows_ask = record {
    value = a.rs;
    rest = table [] [] [];
    is = whole;
    fine = fine;
    room = record {
      numbers = omega (arith, ap (λ (t : Table). length t.numbers) flat-is);
      elements = omega (arith, ap (λ (t : Table). length t.elements) flat-is);
      bytes = omega (arith, ap (λ (t : Table). length t.bytes) flat-is);
      place = a.room;
    };
  }

  pub rows_did : (o₁ : List ℕ) (r : Cursor) → Emitted (joined flatten_record) (Counted n FineRecord) (flat encode_record) (start w) (table ns es pool) o₀ o₁ r
      → (rs : List Record) → All NearRecord rs → flatten rs ≡ table ns es pool → o₁ ≡ sets o₀ w (flat encode_record rs)
  rows_did o₁ r done rs near e =
      (done.all a.rs (table [] [] []) fine whole).1
      ∙ ap (λ l. sets o₀ w (flat encode_record l)) (rows_same a.rs rs a.near near (a.is ∙ sym e))
