-- The entries of a sheet's records: they are fine, and picking from them is picking from the records.
use mathlib.Core.List.{List, [], ◌∷◌, ◌++◌}
use mathlib.Core.Path.{◌≡◌, refl, ap}
use Prim.Native.Nat.{ℕ, suc, ◌+◌, ◌*◌, ◌^◌, ◌≤◌}
use lib.Dec.{eqb}
use lib.ListN.{length, length-append}
use native.Mathlib.Omega.{arith}
use Rattle.layout.specs.Answers.Calls.{reading}
use Rattle.layout.specs.Bytes.{All, Bytes, flat}
use Rattle.layout.specs.Fields.Block
use Rattle.layout.specs.Fields.Entry as Field
use Rattle.layout.specs.Fields.{limit}
use Rattle.layout.specs.Index.Blocks.{begun, FineEntry, FineEntries}
use Rattle.layout.specs.Index.Selecting.{entries_of, each, pick, pick_entry, pick_records}
use Rattle.layout.specs.Layout.Encode.{encode_record}
use Rattle.layout.specs.Layout.Fine.{FineRecord}
use Rattle.layout.specs.Reading.Sheets.{start}
use Rattle.layout.specs.Shared.Reference.{localisation}
use Rattle.layout.specs.Sheet.{Record, Sheet}
use Rattle.layout.specs.Walk.{given}
use Rattle.layout.specs.declared.BlockKind.{BlockKind}
use Rattle.layout.specs.declared.BlockKind.TheVariants.{Old, New}
use Rattle.laws.proofs.Called.{reading-sound}
use Rattle.laws.proofs.Encoding.Lengths.{length_record, length-encode, count-records}

pub entries-of-length : (place : ℕ) (l : List Record) → length (entries_of place l) ≡ length l
entries-of-length place [] = refl
entries-of-length place (r ∷ l) = ap suc (entries-of-length (place + length (encode_record r)) l)

-- so many bytes that every place among them fits the entries of a kind: 16,777,216, as many as document 01 allowed, and 4,294,967,296
abbrev pub Reaches : BlockKind → List ℕ → Type 0
Reaches kind s = length s ≤ 256 ^ Field.place_width kind

-- a record starts before the end
entries-fine : (kind : BlockKind) (place : ℕ) (l : List Record) → All FineRecord l → place + length (flat encode_record l) ≤ 256 ^ Field.place_width kind
    → All (FineEntry kind) (entries_of place l)
entries-fine kind place [] f h = tt
entries-fine kind place (r ∷ l) f h =
    let whole = length-append (encode_record r) (flat encode_record l) in (
      record { code = f.0.code; place = omega (arith, h, whole, length_record r); localisation = omega arith },
      entries-fine kind (place + length (encode_record r)) l f.1 (omega (arith, h, whole)),
    )

-- within the limit there are at most 2,097,137 records, and so 33,288 old blocks or 37,449 new ones
few-blocks : (kind : BlockKind) (records : ℕ) → start + 32 * records ≤ limit → begun (Block.full kind) records ≤ 256 ^ (Block.number).width
few-blocks Old records h = omega arith
few-blocks New records h = omega arith

-- The entries of an accepted sheet whose places a kind reaches have an index of that kind: each place fits its field, and each block number its own.
pub sheet-entries : (kind : BlockKind) (year : ℕ) (s : List ℕ) (t : Sheet) → Bytes s → Reaches kind s → reading year s ≡ given t
    → FineEntries kind (entries_of start t.records)
sheet-entries kind year s t bs reaches e =
    let r = reading-sound year s t bs e in
    let long = length-encode t r.fine.head in
    let same = entries-of-length start t.records in
    record {
      entries = entries-fine kind start t.records r.fine.records (omega (arith, long, ap length r.is, reaches));
      blocks = rw same (few-blocks kind (length t.records) (omega (arith, count-records t.records, long, r.fine.short)));
    }

-- A new block holds every place of the limit.
pub new_reaches : (year : ℕ) (s : List ℕ) (t : Sheet) → Bytes s → reading year s ≡ given t → Reaches New s
new_reaches year s t bs e = let r = reading-sound year s t bs e in omega (arith, ap length r.is, r.fine.short)

-- by the entries or by the records
pub picks_same : (code n place : ℕ) (l : List Record) → each (pick_entry code) n (entries_of place l) ≡ pick_records code n place l
unfolding each
picks_same code n place [] = refl
picks_same code n place (r ∷ l) =
    ap (λ more. pick (eqb r.code code) n place (localisation r.reference) ++ more) (picks_same code (suc n) (place + length (encode_record r)) l)
