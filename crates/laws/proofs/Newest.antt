-- Which years a sheet needs. (Demand 3: a setting reads or writes a sheet exactly when none of the features it uses is later.)
use mathlib.Core.List.{List}
use mathlib.Core.Logic.{◌↔◌}
use mathlib.Core.Path.{◌≡◌, refl}
use Prim.Native.Nat.{ℕ, ◌≤◌}
use Rattle.layout.specs.Bytes.{All, Bytes}
use Rattle.layout.specs.Layout.Encode.{encode}
use Rattle.layout.specs.Layout.Fine.{Fine}
use Rattle.layout.specs.Layout.Uses.{years}
use Rattle.layout.specs.Reading.Sheets.{sheet_walk}
use Rattle.layout.specs.Shared.Tails.{clean_of}
use Rattle.layout.specs.Sheet.{Head, Sheet, Table}
use Rattle.layout.specs.Walk.{outcome, ends, given, answer, up_to}
use Rattle.layout.specs.Writing.Sheets.{table_walk}
use Rattle.layout.specs.Writing.Tables.{flatten}
use Rattle.laws.proofs.Base.Readers.{law_year}
use Rattle.laws.proofs.Base.Walks.{allowed-up_to}
use Rattle.laws.proofs.Cleared.{cleared-fine, cleared-old}
use Rattle.laws.proofs.Encoding.Plain.{encode-bytes, pool_bytes}
use Rattle.laws.proofs.Encoding.Tails.{all-clean}
use Rattle.laws.proofs.Exact.{read_encoded, table}
use Rattle.laws.proofs.Reading.Sheets.{sheet_law}
use Rattle.laws.proofs.Writing.Sheets.{Typed, fine_typed, table_at}

-- Where the walk of s ends in t, the reader at y gives t exactly when every year in `years t` is at most y.
pub newest : (s : List ℕ) → Bytes s → (t : Sheet) → outcome (sheet_walk s) ≡ ends t
    → (y : ℕ) → (answer (up_to y) (sheet_walk s) ≡ given t) ↔ All (λ z. z ≤ y) (years t)
newest = law_year sheet_walk encode Fine years sheet_law

-- The same for the writer.
pub newest_written : (h : Head) (t : Table) → Typed h → Bytes t.bytes → (u : Sheet) → outcome (table_walk h t) ≡ ends u
    → (y : ℕ) → (answer (up_to y) (table_walk h t) ≡ given u) ↔ All (λ z. z ≤ y) (years u)
newest_written h t ty bs u e y =
    let f = (table h t ty bs u).0 e in
    let at = table_at (up_to y) h t ty bs u in
    let n = allowed-up_to y (years u) in (
      λ g. n.0 (at.0 g).1,
      λ g. at.1 (f.0, n.1 g, f.1, f.2, f.3),
    )

-- So reader and writer agree on which years a sheet needs, though the writer makes clean tails.
pub agreed : (u : Sheet) → Fine u → (y : ℕ)
    → (answer (up_to y) (sheet_walk (encode u)) ≡ given u) ↔ (answer (up_to y) (table_walk u.head (flatten u.records)) ≡ given (clean_of u))
agreed u f y =
    let t : Table = flatten u.records in
    let typed : Typed u.head = fine_typed u.head f.head in
    let r = newest (encode u) (encode-bytes u f) u (read_encoded u f) y in
    let made = (table u.head t typed (pool_bytes u f) (clean_of u)).1 (cleared-fine u f, refl, refl, all-clean u.head) in
    let w = newest_written u.head t typed (pool_bytes u f) (clean_of u) made y in
    let old = cleared-old u y in
    (λ e. w.1 (old.0 (r.0 e)), λ e. r.1 (old.1 (w.0 e)))
