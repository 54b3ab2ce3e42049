-- A record: its header, its metric and its semantics. (01, Record and Order: "each record: 32 bytes left, identifier, lengths, bytes
-- 20 to 22, points, word at +24, each metric part [..], metric end, semantics flag, each item [..]") The word at +24 is not refused any
-- more: "That was our misreading: under the mark any count in the word is good." (02, request 2)
use Rattle.std.specs.Prelude.{ℕ, ◌+◌, ◌-◌, List, [], ◌∷◌, ◌++◌, eqb, leb, length, take, drop}
use Rattle.layout.specs.Bytes.{number_in, some, agree}
use Rattle.layout.specs.Fields.Header as Field
use Rattle.layout.specs.Reading.Items.{item_walk}
use Rattle.layout.specs.Reading.Parts.{metric_walk}
use Rattle.layout.specs.Refusals.{SHORT, NOT_SXF, LENGTH}
use Rattle.layout.specs.Shared.Mark.{is_mark, mark_of, first_count}
use Rattle.layout.specs.Shared.Reference.{reference_checks, semantics}
use Rattle.layout.specs.Sheet.{Item, Part, Reference, Record}
use Rattle.layout.specs.Walk.{Walk, Check, must, dated, checks, ◌>>=◌, ◌>>◌, ends, Reader, piece, Pair, fill}
use Rattle.layout.specs.Years.{since, mark_65535}

-- what stands in the header of a record
pub record Header : Type 0 where
  pub identifier : ℕ
  pub total : ℕ
  pub metric : ℕ
  pub code : ℕ
  pub in_group : ℕ
  pub group : ℕ
  pub reference : Reference
  pub generalisation : ℕ
  pub word : ℕ
  pub subobjects : ℕ
  pub points : ℕ

-- xs are the bytes from the record's start on
abbrev pub header_in : List ℕ → Header
header_in xs =
    record {
      identifier = number_in Field.identifier xs;
      total = number_in Field.total xs;
      metric = number_in Field.metric xs;
      code = number_in Field.code xs;
      in_group = number_in Field.in_group xs;
      group = number_in Field.group xs;
      reference = record { byte20 = number_in Field.byte20 xs; byte21 = number_in Field.byte21 xs; byte22 = number_in Field.byte22 xs };
      generalisation = number_in Field.generalisation xs;
      word = number_in Field.word xs;
      subobjects = number_in Field.subobjects xs;
      points = number_in Field.points xs;
    }

-- "SHORT: [..] under 32 left for a record (its start)"; so many bytes are left from the record's start on
abbrev pub header_left : ℕ → Check
header_left left = must (leb Field.size left) SHORT 0

-- identifier and total length: "NOT SXF: an identifier differs"; "LENGTH: total under 32 (+4)"; "SHORT: [..] total length past the end (+4)"
abbrev pub total_checks : ℕ → Header → List Check
total_checks left h =
    must (eqb h.identifier Field.identifier_is) NOT_SXF (Field.identifier).place
    ∷ must (leb Field.size h.total) LENGTH (Field.total).place
    ∷ must (leb h.total left) SHORT (Field.total).place
    ∷ []

-- these, and then "LENGTH: [..] metric over total - 32 (+8)"
unfoldable pub length_checks : ℕ → Header → List Check
length_checks left h = total_checks left h ++ (must (leb h.metric (h.total - Field.size)) LENGTH (Field.metric).place ∷ [])

-- points: "The mark's year stays 2004" (02, request 2), at +30; "under the mark any count in the word is good"
unfoldable pub mark_checks : Header → List Check
mark_checks h =
    dated (is_mark h.points) (since mark_65535) (Field.points).place ∷ []

-- all checks on a header
unfoldable pub header_walk : ℕ → ℕ → Header → Walk (Unit {0})
header_walk place left h = do
  checks place (length_checks left h)
  checks place (reference_checks (Field.byte20).place (Field.byte21).place (Field.byte22).place h.reference)
  checks place (mark_checks h)

-- the record that a header, its parts and its items make
abbrev pub record_from : Header → Pair Part (List Part) → List Item → Record
record_from h parts items =
    record {
      code = h.code;
      in_group = h.in_group;
      group = h.group;
      reference = h.reference;
      generalisation = h.generalisation;
      word = h.word;
      mark = mark_of h.points;
      first = parts.first;
      subobjects = parts.second;
      items = items;
    }

-- the metric of a record whose header is h, at the place where it starts, and what comes after it in the record
-- "Semantics fill the record after the metric; the flag is set exactly when there are such bytes."
-- "LENGTH: [..] the semantics flag not agreeing with the bytes (end of the metric)"
unfoldable pub body_walk : Header → ℕ → List ℕ → List ℕ → Walk Record
body_walk h place metric after = do
  let end : ℕ = place + h.metric
  parts ← metric_walk h.reference (is_mark h.points) (first_count h.points h.word) h.subobjects place metric
  checks end (must (agree (semantics h.reference) (some after)) LENGTH 0 ∷ [])
  items ← fill item_walk end after
  ends (record_from h parts items)

-- the bytes of the metric, and those after it up to the record's end; xs are the bytes from the record's start on
abbrev pub metric_in : Header → List ℕ → List ℕ
metric_in h xs = take h.metric (drop Field.size xs)

abbrev pub semantics_in : Header → List ℕ → List ℕ
semantics_in h xs = take (h.total - Field.size - h.metric) (drop h.metric (drop Field.size xs))

-- a record whose header is h
unfoldable pub record_with : Header → Reader Record
record_with h place xs = do
  header_walk place (length xs) h
  r ← body_walk h (place + Field.size) (metric_in h xs) (semantics_in h xs)
  ends (piece r h.total)

unfoldable pub record_walk : Reader Record
record_walk place xs = do
  checks place (header_left (length xs) ∷ [])
  record_with (header_in xs) place xs
