-- Where pass 1 of the writer stands in a table and its two pools, and how a piece moves it on.
use Rattle.std.specs.Prelude.{cond, List, ℕ, ◌+◌, ◌≤◌, leb, length, drop}
use Rattle.layout.specs.Answers.Enums.{result_of}
use Rattle.layout.specs.Bytes.{Bytes}
use Rattle.layout.specs.Fields.{limit}
use Rattle.layout.specs.Sheet.{Table}
use Rattle.layout.specs.Walk.{Answer}
use Rattle.layout.specs.Writing.Tables.{table, Taken}
use Rattle.writing_check.specs.declared.places.Places.{Places}
use Rattle.writing_check.specs.declared.record_table.RecordTable.{RecordTable}
use Rattle.layout.specs.declared.Refusal.{Refusal}
use Rattle.std.specs.Prelude.{Result}

-- the lists of a table that is lent
abbrev pub lists : RecordTable → Table
lists t = table t.numbers.now t.elements.now t.bytes.now

-- and with other elements
abbrev pub with_elements : List ℕ → RecordTable → Table
with_elements es t = table t.numbers.now es t.bytes.now

-- a length, or one more than the limit for every length past it
abbrev pub capped : ℕ → ℕ
capped n = cond (leb n limit) n (limit + 1)

-- the table from the places on
abbrev pub here : Table → Places → Table
here t p = table (drop p.number t.numbers) (drop p.element t.elements) (drop p.byte t.bytes)

-- the places after a piece that has those three lists and so many bytes
abbrev pub moved : Places → Table → ℕ → Places
moved p a size =
    record {
      number = p.number + length a.numbers;
      element = p.element + length a.elements;
      byte = p.byte + length a.bytes;
      length = capped (p.length + size);
    }

-- and after one that a taker gives: F is the table of its value, and B how many bytes it has
abbrev pub moved_by : {A : Type 0} → (A → Table) → (A → ℕ) → Places → Taken A → Places
moved_by F B p v = moved p (F v.value) (B v.value)

abbrev pub moved_of : {A : Type 0} → (A → Table) → (A → ℕ) → Places → Answer (Taken A) → Result Places Refusal
moved_of F B p a = result_of (moved_by F B p) a

-- places in a table; what is known of the one in the elements is apart, for items have none
pub record AtBy (elements : ℕ → Type 0) (t : Table) (p : Places) : Type 0 where
  pub number : p.number ≤ length t.numbers
  pub element : elements p.element
  pub byte : p.byte ≤ length t.bytes
  pub length : p.length ≤ limit + 1
  pub is_bytes : Bytes t.bytes

abbrev pub In : List ℕ → ℕ → Type 0
In es n = n ≤ length es

abbrev pub Any : ℕ → Type 0
Any n = Unit {0}

abbrev pub At : Table → Places → Type 0
At t p = AtBy (In t.elements) t p
