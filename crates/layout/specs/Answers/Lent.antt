-- What a caller lends: the writer's inputs as a head, how much is lent for unfolding, and which list goes to which slice.
use Rattle.std.specs.Prelude.{ℕ, List, length}
use Rattle.layout.specs.Answers.Calls.{Rooms}
use Rattle.layout.specs.Sheet.{Head, Table}

-- "The writer also takes date, two designations, title, scale, the 304 bytes from +96, the four at 444" (01, The record table): here in
-- the order of the sheet's places
abbrev pub head_of : List ℕ → List ℕ → ℕ → List ℕ → List ℕ → List ℕ → List ℕ → Head
head_of date designation scale title rest designation2 carried =
    record {
      date = date;
      designation = designation;
      scale = scale;
      title = title;
      rest = rest;
      designation2 = designation2;
      carried = carried;
    }

-- the lengths of the three slices that unfolding fills
abbrev pub rooms : List ℕ → List ℕ → List ℕ → Rooms
rooms table elements bytes = record { numbers = length table; elements = length elements; bytes = length bytes }

-- the list that goes to each of them
abbrev pub the_numbers : Table → List ℕ
the_numbers t = t.numbers

abbrev pub the_elements : Table → List ℕ
the_elements t = t.elements

abbrev pub the_bytes : Table → List ℕ
the_bytes t = t.bytes

-- what goes to the writer's slice
abbrev pub the_sheet : List ℕ → List ℕ
the_sheet s = s

-- what goes to the one slice of a call for an index or a selection
abbrev pub the_given : List ℕ → List ℕ
the_given l = l

-- what goes to the slice of a text that is turned: units, or bytes
abbrev pub the_turned : List ℕ → List ℕ
the_turned ys = ys
