-- The record table of a sheet's records, and how pieces are taken from one. (01, The record table)
use Rattle.std.specs.Prelude.{ℕ, zero, suc, ◌+◌, List, [], ◌∷◌, ◌++◌, length}
use Rattle.layout.specs.Shared.Row.{reference_number}
use Rattle.layout.specs.Sheet.{Item, Part, Record, Table}
use Rattle.layout.specs.Walk.{Walk, ◌>>=◌, ends}

abbrev pub table : List ℕ → List ℕ → List ℕ → Table
table numbers elements bytes = record { numbers = numbers; elements = elements; bytes = bytes }

abbrev pub join : Table → Table → Table
join a b = table (a.numbers ++ b.numbers) (a.elements ++ b.elements) (a.bytes ++ b.bytes)

abbrev pub joined : {A : Type 0} → (A → Table) → List A → Table
joined f [] = table [] [] []
joined f (a ∷ l) = join (f a) (joined f l)

-- "Per record eight numbers" (01), and "a ninth number, mark 0 or 1" (02, request 2)
unfoldable pub flatten_header : Record → Table
flatten_header r =
    table
    (r.code
    ∷ r.in_group
    ∷ r.group
    ∷ reference_number r.reference
    ∷ r.generalisation
    ∷ r.word
    ∷ (1 + length r.subobjects)
    ∷ length r.items
    ∷ r.mark
    ∷ [])
    []
    []

-- "per part two: points, text length"; the elements, and the "texts without closing zero"
unfoldable pub flatten_part : Part → Table
flatten_part a = table (a.points ∷ length a.text ∷ []) a.elements a.text

-- "per item four: code, type, scale byte, value length"; the "values with theirs, without the type 128 length"
unfoldable pub flatten_item : Item → Table
flatten_item i = table (i.code ∷ i.type ∷ i.scale ∷ length i.value ∷ []) [] i.value

unfoldable pub flatten_record : Record → Table
flatten_record r = join (flatten_header r) (join (flatten_part r.first) (join (joined flatten_part r.subobjects) (joined flatten_item r.items)))

-- "both in record order"
unfoldable pub flatten : List Record → Table
flatten l = joined flatten_record l

-- A piece that was taken from a table: its value, and what is left.
pub record Taken (A : Type 0) : Type 0 where
  pub value : A
  pub left : Table

abbrev pub taken : {A : Type 0} → A → Table → Taken A
taken value left = record { value = value; left = left }

-- takes a piece: the index of its first number, and the table from there on
abbrev pub Taker : Type 0 → Type 0
Taker A = ℕ → Table → Walk (Taken A)

-- n pieces of k numbers each, one after another
abbrev pub many : {A : Type 0} → ℕ → ℕ → Taker A → Taker (List A)
many zero k one index t = ends (taken [] t)
many (suc n) k one index t = do
  a ← one index t
  more ← many n k one (index + k) a.left
  ends (taken (a.value ∷ more.value) more.left)
