-- The index of a sheet, and selecting by a class code: through an index, and from the sheet itself. (02, request 3: "We want it built from an accepted
-- sheet and read back, and a selection by code through the index must equal the one from reading the whole sheet. The selection is promised for
-- an index built from that very sheet.")
use Rattle.std.specs.Prelude.{ℕ, suc, ◌+◌, Bool, cond, List, [], ◌∷◌, ◌++◌, eqb, length}
use Rattle.layout.specs.Answers.Calls.{and_then, reading}
use Rattle.layout.specs.Index.Blocks.{encode_index}
use Rattle.layout.specs.Index.Reading.{entries_in}
use Rattle.layout.specs.Layout.Encode.{encode_record}
use Rattle.layout.specs.Reading.Sheets.{start}
use Rattle.layout.specs.Shared.Reference.{localisation}
use Rattle.layout.specs.Sheet.{Record}
use Rattle.layout.specs.Walk.{Answer, given}
use Rattle.layout.specs.declared.BlockKind.{BlockKind}
use Rattle.layout.specs.declared.BlockKind.TheVariants.{New}
use Rattle.layout.specs.declared.Entry.{Entry}

-- the entries of records of which the first starts at a place: "Entries follow record order"
abbrev pub entries_of : ℕ → List Record → List Entry
entries_of place [] = []
entries_of place (r ∷ rs) =
    record { code = r.code; place = place; localisation = localisation r.reference } ∷ entries_of (place + length (encode_record r)) rs

-- the index of a sheet in blocks of a kind: "the sheet's own" refusals come first
unfoldable pub index_by : BlockKind → ℕ → List ℕ → Answer (List ℕ)
index_by kind year s = and_then (reading year s) (λ t. given (encode_index kind (entries_of start t.records)))

-- the index that is built: "new ones are always written in the new kind" (02, request 7)
abbrev pub index_of : ℕ → List ℕ → Answer (List ℕ)
index_of year s = index_by New year s

-- A selection has three numbers for each record of the code, in record order: the record's number, its place, its localisation.
abbrev pub pick : Bool → ℕ → ℕ → ℕ → List ℕ
pick hit number place localisation = cond hit (number ∷ place ∷ localisation ∷ []) []

-- what f gives for each of the entries, of which the first has a number
unfoldable pub each : (ℕ → Entry → List ℕ) → ℕ → List Entry → List ℕ
each f number [] = []
each f number (e ∷ es) = f number e ++ each f (suc number) es

-- by the index: entry n is that of record n
abbrev pub pick_entry : ℕ → ℕ → Entry → List ℕ
pick_entry code number e = pick (eqb e.code code) number e.place e.localisation

unfoldable pub selected : ℕ → List ℕ → Answer (List ℕ)
selected code xs = and_then (entries_in xs) (λ es. given (each (pick_entry code) 0 es))

-- from the records of a reading, of which the first has a number and starts at a place
abbrev pub pick_records : ℕ → ℕ → ℕ → List Record → List ℕ
pick_records code number place [] = []
pick_records code number place (r ∷ rs) =
    pick (eqb r.code code) number place (localisation r.reference) ++ pick_records code (suc number) (place + length (encode_record r)) rs

unfoldable pub picked : ℕ → List ℕ → ℕ → Answer (List ℕ)
picked year s code = and_then (reading year s) (λ t. given (pick_records code 0 start t.records))

-- What reading an index gives: three numbers an entry, code, place and localisation.
abbrev pub entry_row : ℕ → Entry → List ℕ
entry_row number e = e.code ∷ e.place ∷ e.localisation ∷ []

unfoldable pub entry_rows : List ℕ → Answer (List ℕ)
entry_rows xs = and_then (entries_in xs) (λ es. given (each entry_row 0 es))
