-- What a caller has in hand after `head_of` and `unfold`: parts of the sheet, and the filled parts of three slices. (01, The record table: "The
-- writer also takes date, two designations, title, scale, the 304 bytes from +96, the four at 444")
use Rattle.std.specs.Prelude.{true, List, ◌≡◌, ℕ, ◌+◌, ◌≤◌, length, take, drop}
use Rattle.layout.specs.Answers.Lent.{head_of}
use Rattle.layout.specs.Bytes.{Field, bytes_in}
use Rattle.layout.specs.Fields.Descriptor
use Rattle.layout.specs.Fields.Passport
use Rattle.layout.specs.Reading.Sheets.{start}
use Rattle.layout.specs.Sheet.{Head, Table}
use Rattle.layout.specs.Writing.Tables.{table}
use Rattle.layout.specs.declared.HeadAt.{HeadAt}
use Rattle.layout.specs.declared.Sizes.{Sizes}
use Rattle.layout.specs.declared.Refusal.{Refusal}
use Rattle.std.specs.Prelude.{Result, Ok, Err}

-- the n bytes of s from the place of a field on
abbrev pub text_by : Field → ℕ → List ℕ → List ℕ
text_by f n s = take n (drop f.place s)

-- The head as a caller passes it on: the texts of the sheet at their places, as long as `head_of` says, the scale that it answers, and the
-- carried bytes of the sheet.
abbrev pub head_by : List ℕ → HeadAt → Head
head_by s a =
    head_of (text_by Passport.date a.date.length s) (text_by Passport.designation a.designation.length s) a.scale (text_by Passport.title a.title.length s)
    (bytes_in Passport.rest s) (text_by Descriptor.designation a.designation2.length s) (bytes_in Descriptor.carried s)

-- all of that stands in the sheet
abbrev pub HeadWithin : List ℕ → HeadAt → Type 0
HeadWithin s a =
    (start ≤ length s)
    × ((Passport.date).place + a.date.length ≤ length s)
    × ((Passport.designation).place + a.designation.length ≤ length s)
    × ((Passport.title).place + a.title.length ≤ length s)
    × ((Descriptor.designation).place + a.designation2.length ≤ length s)

-- `head_of` says that all four text fields are clean
pub record SaysClean (a : HeadAt) : Type 0 where
  pub date : a.date.clean ≡ true
  pub designation : a.designation.clean ≡ true
  pub title : a.title.clean ≡ true
  pub designation2 : a.designation2.clean ≡ true

-- The table as a caller passes it on: of each slice as much as `unfold` says it wrote.
abbrev pub table_by : Sizes → (numbers elements bytes : List ℕ) → Table
table_by z numbers elements bytes = table (take z.numbers numbers) (take z.elements elements) (take z.bytes bytes)

-- so much stands in the slices
abbrev pub TableWithin : Sizes → (numbers elements bytes : List ℕ) → Type 0
TableWithin z numbers elements bytes = (z.numbers ≤ length numbers) × (z.elements ≤ length elements) × (z.bytes ≤ length bytes)

-- what `check` answers, but for the sum
abbrev pub sumless : Result Sizes Refusal → Result Sizes Refusal
sumless (Ok z) = Ok (record { sum = 0; records = z.records; numbers = z.numbers; elements = z.elements; bytes = z.bytes })
sumless (Err q) = Err q

-- What `head_of` answers of s and of x: a caller takes the same head from both, and all four text fields of x are clean; or the same refusal.
abbrev pub SameHead : List ℕ → Result HeadAt Refusal → List ℕ → Result HeadAt Refusal → Type 0
SameHead s (Ok a) x (Ok b) = (head_by x b ≡ head_by s a) × SaysClean b
SameHead s (Ok a) x (Err q) = ⊥
SameHead s (Err p) x (Ok b) = ⊥
SameHead s (Err p) x (Err q) = q ≡ p
