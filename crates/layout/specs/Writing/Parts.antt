-- The writer's checks on a part's two numbers. (01, The record table; 02, request 2)
use Rattle.std.specs.Prelude.{ℕ, ◌*◌, ◌^◌, Bool, true, false, ◌&&◌, ◌||◌, List, [], ◌∷◌, eqb, leb, ltb, length, take, drop}
use Rattle.layout.specs.Bytes.{repeat}
use Rattle.layout.specs.Fields.Header
use Rattle.layout.specs.Refusals.{COUNT, TABLE}
use Rattle.layout.specs.Shared.Mark.{good_first, good_n1, n1_of}
use Rattle.layout.specs.Shared.Reference.{text_in_metric}
use Rattle.layout.specs.Shared.Row
use Rattle.layout.specs.Shared.Widths.{widths}
use Rattle.layout.specs.Sheet.{Part, Reference}
use Rattle.layout.specs.Walk.{Check, must, checks, ◌>>◌, ends}
use Rattle.layout.specs.Writing.Items.{fits_field}
use Rattle.layout.specs.Writing.Tables.{table, Taker, taken}

-- The first part's points, where mark and word are so: "11 now stands [..] for mark 0 with a first count of 65535 or more [..], and for
-- mark 1 with a word that differs from the first count". A count has 4 bytes, as the word has.
unfoldable pub first_rules : ℕ → ℕ → ℕ → List Check
first_rules mark word points = fits_field Header.word points Row.points ∷ must (good_first mark word points) COUNT Row.points ∷ []

-- A later part's points; marked is whether the record has the mark: "11 now stands [..] for mark 0 with [..] a later count over 65535". A
-- count is over 65535 where its N1 is not 0.
unfoldable pub later_rules : Bool → ℕ → List Check
later_rules marked points = fits_field Header.word points Row.points ∷ must (good_n1 marked (n1_of points)) COUNT Row.points ∷ []

-- there is an element for each width, and none is too wide for its own
abbrev pub fit_all : List ℕ → List ℕ → Bool
fit_all [] es = true
fit_all (w ∷ ws) [] = false
fit_all (w ∷ ws) (e ∷ es) = ltb e (256 ^ w) && fit_all ws es

-- how many elements so many points have
abbrev pub element_count : Reference → ℕ → ℕ
element_count r points = points * length (widths r)

-- "TABLE: [..] an element pool that ends early or an element too wide (the part's points)"
unfoldable pub element_rules : Reference → ℕ → List ℕ → List Check
element_rules r points es =
    must (leb (element_count r points) (length es)) TABLE Row.points
    ∷ must (fit_all (repeat points (widths r)) es) TABLE Row.points
    ∷ []

-- "TABLE: a number too large for its field, [..] text length without the text bit, [..] a byte pool that ends early (the text length
-- [..])". The field is the length byte.
unfoldable pub text_rules : Reference → ℕ → List ℕ → List Check
text_rules r size pool =
    must (ltb size 256) TABLE Row.text_length
    ∷ must (text_in_metric r || eqb size 0) TABLE Row.text_length
    ∷ must (leb size (length pool)) TABLE Row.text_length
    ∷ []

-- a part of a record whose reference bytes are r; rules are those of its points but for the pool.
-- "at points and text length the pool comes last"
unfoldable pub take_part : Reference → (ℕ → List Check) → Taker Part
take_part r rules index t = do
  let points : ℕ = Row.nth t.numbers Row.points
  let size : ℕ = Row.nth t.numbers Row.text_length
  let n : ℕ = element_count r points
  checks index (rules points)
  checks index (element_rules r points t.elements)
  checks index (text_rules r size t.bytes)
  ends
      (taken
      (record { points = points; elements = take n t.elements; text = take size t.bytes })
      (table (drop Row.part_width t.numbers) (drop n t.elements) (drop size t.bytes)))
