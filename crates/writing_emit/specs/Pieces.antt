-- What an emitter is asked and does. E flattens a piece, F says what an accepted one keeps, B has its bytes in the sheet.
use Rattle.std.specs.Prelude.{List, ◌++◌, ◌≡◌, ℕ, length}
use Rattle.std.proofs.lemmas.List.Edits.{sets}
use Rattle.writing_emit.specs.Cursors.{ahead, moved, Room}
use Rattle.fields.specs.declared.cursors.Cursor.{Cursor}
use Rattle.layout.specs.Bytes.{All}
use Rattle.layout.specs.Sheet.{Table}
use Rattle.layout.specs.Writing.Tables.{join}

-- a piece stands in t at the cursor, and there is room for its bytes in a slice of that length
pub record Piece {A : Type 0} (E : A → Table) (F : A → Type 0) (B : A → List ℕ) (c : Cursor) (t : Table) (ol : ℕ) : Type 0 where
  pub value : A
  pub rest : Table
  pub is : join (E value) rest ≡ ahead c t
  pub fine : F value
  pub room : Room c (E value) (length (B value)) t ol

-- Whatever piece stands there: the cursor r is past it, its bytes are written at the cursor's place, and nothing else is changed.
pub record Emitted {A : Type 0} (E : A → Table) (F : A → Type 0) (B : A → List ℕ) (c : Cursor) (t : Table) (o₀ o₁ : List ℕ) (r : Cursor) : Type 0 where
  pub all : (a : A) (rest : Table) → F a → join (E a) rest ≡ ahead c t → (r ≡ moved c (E a) (B a)) × (o₁ ≡ sets o₀ c.place (B a))

-- n pieces, one after another
abbrev pub Counted : {A : Type 0} → ℕ → (A → Type 0) → List A → Type 0
Counted n F l = (length l ≡ n) × All F l

-- a piece, and then another
module _ {A B : Type 0} where
  abbrev pub pair_table : (A → Table) → (B → Table) → A × B → Table
  pair_table E G p = join (E p.0) (G p.1)

  abbrev pub Both : (A → Type 0) → (B → Type 0) → A × B → Type 0
  Both F H p = F p.0 × H p.1

  abbrev pub pair_bytes : (A → List ℕ) → (B → List ℕ) → A × B → List ℕ
  pair_bytes b d p = b p.0 ++ d p.1
