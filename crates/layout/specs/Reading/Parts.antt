-- The parts of a record's metric. (01, Record and Order: "each metric part (head, N1, points, length byte with text, closing zero)")
use Rattle.std.specs.Prelude.{ℕ, ◌+◌, ◌*◌, Bool, true, false, List, [], ◌∷◌, eqb, leb, length, take, drop}
use Rattle.layout.specs.Bytes.{number, number_in, numbers, repeat}
use Rattle.layout.specs.Fields.Subobject
use Rattle.layout.specs.Refusals.{LENGTH, TEXT, COUNT}
use Rattle.layout.specs.Shared.Mark.{later_count, good_n1}
use Rattle.layout.specs.Shared.Reference.{text_in_metric}
use Rattle.layout.specs.Shared.Widths.{widths, point_size}
use Rattle.layout.specs.Sheet.{Part, Reference}
use Rattle.layout.specs.Walk.{Walk, must, checks, ◌>>=◌, ◌>>◌, ends, Reader, piece, times, Pair, pair, whole}

-- "With text, each part ends with a length byte L, L bytes and one zero. Padding inside L is kept."
-- "LENGTH: [..] a length byte with text and closing byte [..] not fitting (its first byte)"; "TEXT: a closing zero missing"
unfoldable pub text_walk : Bool → Reader (List ℕ)
text_walk false place xs = ends (piece [] 0)
text_walk true place xs = do
  let l : ℕ = number 1 xs
  checks place (must (leb (l + 2) (length xs)) LENGTH 0 ∷ must (eqb (number 1 (drop (l + 1) xs)) 0) TEXT (l + 1) ∷ [])
  ends (piece (take l (drop 1 xs)) (l + 2))

-- so many points, and the text. "A count of 0 is allowed."
-- "LENGTH: [..] a part's points [..] not fitting (its first byte)"
unfoldable pub part_walk : Reference → ℕ → Reader Part
part_walk r count place xs = do
  let size : ℕ = count * point_size r
  checks place (must (leb size (length xs)) LENGTH 0 ∷ [])
  text ← text_walk (text_in_metric r) (place + size) (drop size xs)
  ends (piece (record { points = count; elements = numbers (repeat count (widths r)) xs; text = text.value }) (size + text.size))

-- a later part: N1 and N2, then as any part; marked is whether the record has the mark
-- "LENGTH: [..] a subobject head [..] not fitting (its first byte)"; "11 now stands only for N1 not zero without the mark" (02, request 2)
unfoldable pub subobject_walk : Reference → Bool → Reader Part
subobject_walk r marked place xs = do
  let n1 : ℕ = number_in Subobject.n1 xs
  let n2 : ℕ = number_in Subobject.n2 xs
  checks place (must (leb Subobject.size (length xs)) LENGTH 0 ∷ must (good_n1 marked n1) COUNT (Subobject.n1).place ∷ [])
  part ← part_walk r (later_count n1 n2) (place + Subobject.size) (drop Subobject.size xs)
  ends (piece part.value (Subobject.size + part.size))

-- the metric: the first part, and so many subobjects. "LENGTH: [..] metric bytes left over (the first)"
unfoldable pub metric_walk : Reference → Bool → ℕ → ℕ → ℕ → List ℕ → Walk (Pair Part (List Part))
metric_walk r marked count subobjects = whole LENGTH (pair (part_walk r count) (times subobjects (subobject_walk r marked)))
