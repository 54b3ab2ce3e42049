-- A record in two steps: its header is checked, and its metric and semantics are counted.
use Rattle.std.specs.Prelude.{Bool, cond, List, ◌++◌, ◌≡◌, ℕ, ◌+◌, ◌≤◌, length}
use Rattle.reading_check.specs.Tally.{tally_of, shown, plus}
use Rattle.reading_check.specs.declared.tally.Tally.{Tally}
use Rattle.layout.specs.Answers.Enums.{refusal}
use Rattle.layout.specs.Bytes.{some, agree}
use Rattle.layout.specs.Fields.Header as Field
use Rattle.layout.specs.Reading.Items.{item_walk}
use Rattle.layout.specs.Reading.Records.{Header, header_in, length_checks, mark_checks, body_walk, metric_in, semantics_in}
use Rattle.layout.specs.Refusals.{LENGTH}
use Rattle.layout.specs.Shared.Reference.{reference_checks}
use Rattle.layout.specs.Sheet.{Record}
use Rattle.layout.specs.Walk.{Walk, Check, ◌>>=◌, ends, Piece, piece, fill}
use Rattle.layout.specs.Writing.Tables.{joined, flatten_item}
use Rattle.layout.specs.declared.Refusal.{Refusal}
use Rattle.std.specs.Prelude.{Result, Err}

-- the checks on a header, one list
abbrev pub header_checks : ℕ → Header → List Check
header_checks left h =
    length_checks left h
    ++ (reference_checks (Field.byte20).place (Field.byte21).place (Field.byte22).place h.reference ++ mark_checks h)

-- the header of the record that xs start with, which the checks let through
pub record Passed (xs : List ℕ) (h : Header) : Type 0 where
  pub is : h ≡ header_in xs
  pub low : 32 ≤ h.total
  pub high : h.total ≤ length xs
  pub metric : 32 + h.metric ≤ h.total

-- the rest of the record that xs start with, once its header is checked
unfoldable pub rest_walk : ℕ → List ℕ → Walk (Piece Record)
rest_walk place xs =
    body_walk (header_in xs) (place + Field.size) (metric_in (header_in xs) xs) (semantics_in (header_in xs) xs)
    >>= λ r. ends (piece r (header_in xs).total)

-- the semantics xs at a place, after what has front
abbrev pub semantics_of : Bool → Tally → ℕ → ℕ → List ℕ → Result Tally Refusal
semantics_of flag front year place xs =
    cond (agree flag (some xs))
    (plus front (shown (λ l. tally_of (length xs) (joined flatten_item l)) year (fill item_walk place xs)))
    (Err (refusal LENGTH place 0))
