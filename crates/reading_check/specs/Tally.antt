-- What is counted of a piece: the bytes it took, and how much it adds to each of the three lists of the table.
use Rattle.std.specs.Prelude.{List, [], ℕ, ◌+◌, ◌≤◌, ◌<◌, ◌^◌, length}
use Rattle.reading_check.specs.declared.tally.Tally.{Tally}
use Rattle.layout.specs.Answers.Enums.{result_of}
use Rattle.layout.specs.Sheet.{Part, Table}
use Rattle.layout.specs.Walk.{Walk, Answer, given, refused, answer, up_to, Piece, Pair}
use Rattle.layout.specs.Writing.Tables.{table, join, joined, flatten_part}
use Rattle.layout.specs.declared.Refusal.{Refusal}
use Rattle.std.specs.Prelude.{Result, Ok, Err}

abbrev pub none : Tally
none = record { used = 0; numbers = 0; elements = 0; bytes = 0 }

abbrev pub add : Tally → Tally → Tally
add a b =
    record {
      used = a.used + b.used;
      numbers = a.numbers + b.numbers;
      elements = a.elements + b.elements;
      bytes = a.bytes + b.bytes;
    }

-- what gives a table, and took so many bytes
abbrev pub tally_of : ℕ → Table → Tally
tally_of used t = record { used = used; numbers = length t.numbers; elements = length t.elements; bytes = length t.bytes }

-- a piece whose value adds f of it to the table
abbrev pub tally : {A : Type 0} → (A → Table) → Piece A → Tally
tally f v = tally_of v.size (f v.value)

-- a text alone adds its bytes
abbrev pub text_table : List ℕ → Table
text_table t = table [] [] t

-- the parts of a record, the first and the later ones
abbrev pub metric_table : Pair Part (List Part) → Table
metric_table v = join (flatten_part v.first) (joined flatten_part v.second)

-- what the code answers of a walk, at a setting
abbrev pub shown : {A : Type 0} → (A → Tally) → ℕ → Walk A → Result Tally Refusal
shown f year w = result_of f (answer (up_to year) w)

-- the next answer, unless there is a refusal
abbrev pub next : Result Tally Refusal → (Tally → Result Tally Refusal) → Result Tally Refusal
next (Ok z) k = k z
next (Err r) k = Err r

abbrev pub plus : Tally → Result Tally Refusal → Result Tally Refusal
plus a (Ok z) = Ok (add a z)
plus a (Err r) = Err r

-- every count fits 64 bits
pub record Small (z : Tally) : Type 0 where
  pub used : z.used < 2 ^ 64
  pub numbers : z.numbers < 2 ^ 64
  pub elements : z.elements < 2 ^ 64
  pub bytes : z.bytes < 2 ^ 64

-- A piece takes no more than the n bytes at hand, and gives no more of anything than it takes. A first part without points or text takes
-- nothing and has its two numbers all the same, so up to e numbers more are let through.
pub record WithinT (n e : ℕ) (z : Tally) : Type 0 where
  pub used : z.used ≤ n
  pub numbers : z.numbers ≤ z.used + e
  pub elements : z.elements ≤ z.used
  pub bytes : z.bytes ≤ z.used

abbrev pub Within : ℕ → ℕ → Result Tally Refusal → Type 0
Within n e (Ok z) = WithinT n e z
Within n e (Err r) = Unit {0}
