-- Each case of an answer, with document 01's number and values.
use Rattle.std.specs.Prelude.{ℕ, ◌+◌, List, length}
use Rattle.layout.specs.Answers.Calls.{Placed}
use Rattle.layout.specs.Answers.Corners.{plane_corners}
use Rattle.layout.specs.Answers.Units.{sheet_unit}
use Rattle.layout.specs.Fields.Block
use Rattle.layout.specs.Index.Blocks.{begun}
use Rattle.layout.specs.Layout.Encode.{encode_record, sheet_sum}
use Rattle.layout.specs.Shared.Row.{reference_number}
use Rattle.layout.specs.Shared.Texts.{is_clean}
use Rattle.layout.specs.Sheet.{Record, Head, Tails, Sheet, Table}
use Rattle.layout.specs.Walk.{Answer, given, refused}
use Rattle.layout.specs.Writing.Tables.{flatten}
use Rattle.layout.specs.declared.BlockKind.{BlockKind}
use Rattle.layout.specs.declared.Corners.{Corners}
use Rattle.layout.specs.declared.Entry.{Entry}
use Rattle.layout.specs.declared.HeadAt.{HeadAt}
use Rattle.layout.specs.declared.TextAt.{TextAt}
use Rattle.layout.specs.declared.Hop.{Hop}
use Rattle.layout.specs.declared.IndexSizes.{IndexSizes}
use Rattle.layout.specs.declared.RecordAt.{RecordAt}
use Rattle.layout.specs.declared.Refusal.{Refusal}
use Rattle.layout.specs.declared.refusals.Reason.{Reason}
use Rattle.layout.specs.declared.Sizes.{Sizes}
use Rattle.layout.specs.declared.SheetUnit.{SheetUnit}
use Rattle.std.specs.Prelude.{Result, Ok, Err}

abbrev pub refusal : Reason → ℕ → ℕ → Refusal
refusal reason place year = record { reason = reason; place = place; year = year }

-- an answer as code has it: what f makes of what is given, or the refusal
abbrev pub result_of : {A B : Type 0} → (A → B) → Answer A → Result B Refusal
result_of f (given a) = Ok (f a)
result_of f (refused reason place year) = Err (refusal reason place year)

-- what an accepted sheet has
abbrev pub sizes_of : Sheet → Sizes
sizes_of t =
    let u : Table = flatten t.records in
    record {
      sum = sheet_sum t;
      records = length t.records;
      numbers = length u.numbers;
      elements = length u.elements;
      bytes = length u.bytes;
    }

unfoldable pub checked_of : Answer Sheet → Result Sizes Refusal
checked_of a = result_of sizes_of a

abbrev pub record_at : Placed → RecordAt
record_at p =
    let r : Record = p.value in
    record {
      place = p.place;
      total = length (encode_record r);
      code = r.code;
      in_group = r.in_group;
      group = r.group;
      reference = reference_number r.reference;
      generalisation = r.generalisation;
      word = r.word;
      parts = 1 + length r.subobjects;
      items = length r.items;
      mark = r.mark;
      points = r.first.points;
    }

unfoldable pub found_of : Answer Placed → Result RecordAt Refusal
found_of a = result_of record_at a

-- "the text before the first zero and whether the rest was clean" (02, 6)
abbrev pub text_with : List ℕ → List ℕ → TextAt
text_with text tail = record { length = length text; clean = is_clean tail }

abbrev pub head_at : Head → Tails → HeadAt
head_at h tails =
    record {
      date = text_with h.date tails.date;
      designation = text_with h.designation tails.designation;
      scale = h.scale;
      title = text_with h.title tails.title;
      designation2 = text_with h.designation2 tails.designation2;
    }

unfoldable pub headed_of : Answer Sheet → Result HeadAt Refusal
headed_of a = result_of (λ t. head_at t.head t.tails) a

unfoldable pub written_of : Answer (List ℕ) → Result ℕ Refusal
written_of a = result_of length a

-- the entries of an index, and the blocks in which they stand
abbrev pub index_sizes : BlockKind → List Entry → IndexSizes
index_sizes kind es = record { entries = length es; blocks = begun (Block.full kind) (length es) }

unfoldable pub indexed_of : BlockKind → Answer (List Entry) → Result IndexSizes Refusal
indexed_of kind a = result_of (index_sizes kind) a

unfoldable pub hopped_of : Answer Hop → Result Hop Refusal
hopped_of a = result_of (λ h. h) a

unfoldable pub unit_in : Answer Sheet → Result SheetUnit Refusal
unit_in a = result_of (λ t. sheet_unit t.head) a

unfoldable pub corners_in : Answer Sheet → Result Corners Refusal
corners_in a = result_of (λ t. plane_corners t.head) a
