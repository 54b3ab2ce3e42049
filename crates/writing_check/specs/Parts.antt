-- A part in two steps: the rules of its points, and its pools.
use Rattle.std.specs.Prelude.{◌||◌, cond, List, [], ◌∷◌, ◌++◌, ℕ, ◌+◌, ◌*◌, eqb, leb, ltb, take, drop}
use Rattle.fields.specs.Shapes.{dimensions, widths_of, point_of}
use Rattle.fields.specs.declared.shapes.Shape.{Shape}
use Rattle.layout.specs.Bytes.{repeat}
use Rattle.layout.specs.Layout.Sizes.{part_bytes}
use Rattle.layout.specs.Refusals.{TABLE}
use Rattle.layout.specs.Shared.Row
use Rattle.layout.specs.Sheet.{Part, Reference}
use Rattle.layout.specs.Walk.{Check, must, checks, ◌>>◌, ends}
use Rattle.layout.specs.Writing.Parts.{fit_all, element_count, element_rules, text_rules}
use Rattle.layout.specs.Writing.Tables.{table, Taker, taken}

-- the checks on the pools, by what the reference bytes say of a part
abbrev pub elements_by : Shape → ℕ → ℕ → List ℕ → List Check
elements_by s points left es =
    must (leb (points * dimensions s.three) left) TABLE Row.points
    ∷ must (fit_all (repeat points (widths_of s)) es) TABLE Row.points
    ∷ []

abbrev pub text_by : Shape → ℕ → ℕ → List Check
text_by s size left =
    must (ltb size 256) TABLE Row.text_length
    ∷ must (s.text || eqb size 0) TABLE Row.text_length
    ∷ must (leb size left) TABLE Row.text_length
    ∷ []

-- elements and bytes are how many are left in the two pools, and es those of the first
abbrev pub pools_by : Shape → ℕ → ℕ → ℕ → List ℕ → ℕ → List Check
pools_by s points size elements es bytes = elements_by s points elements es ++ text_by s size bytes

-- how many bytes it has beside a subobject's head
abbrev pub bytes_by : Shape → ℕ → ℕ → ℕ
bytes_by s points size = points * point_of s + cond s.text (2 + size) 0

abbrev pub headed : ℕ → Reference → Part → ℕ
headed head r a = head + part_bytes r a

-- a part of so many points and a text of that length, once the rules of its points hold
unfoldable pub pool_walk : Reference → ℕ → ℕ → Taker Part
pool_walk r points size index t = do
  let n : ℕ = element_count r points
  checks index (element_rules r points t.elements)
  checks index (text_rules r size t.bytes)
  ends
      (taken
      (record { points = points; elements = take n t.elements; text = take size t.bytes })
      (table (drop Row.part_width t.numbers) (drop n t.elements) (drop size t.bytes)))
