-- A part and a later part in pass 2, over plain variables: what the code asks and what it has done.
use mathlib.Core.Bool.{cond}
use mathlib.Core.List.{List, [], ◌∷◌}
use mathlib.Core.Path.{◌≡◌, refl, sym, ap, ◌∙◌}
use Prim.Native.Nat.{ℕ, ◌+◌, ◌*◌, ◌≤◌}
use lib.ListN.{length, drop, length-drop}
use lib.Seq.{sets, drop-drop}
use native.Mathlib.Nat.{add_assoc}
use native.Mathlib.Omega.{arith}
use Rattle.fields.proofs.Laws.Widths.{widths-count}
use Rattle.reading_fill.specs.Cursors.{Same, Fills}
use Rattle.reading_fill.specs.declared.filler.Filler.{Filler}
use Rattle.fields.specs.Cursors.{moved, Room}
use Rattle.reading_fill.specs.Parts.{text_in, text_size, part_in, part_size, count_in, subobject_in, subobject_size}
use Rattle.fields.specs.Shapes.{dimensions, widths_of, point_of}
use Rattle.fields.specs.declared.cursors.Cursor.{Cursor}
use Rattle.fields.specs.declared.shapes.Shape.{Shape}
use Rattle.layout.specs.Bytes.{number, numbers, repeat}
use Rattle.layout.specs.Sheet.{Table}
use Rattle.layout.specs.Writing.Tables.{table, flatten_part}
use Rattle.laws.proofs.Base.Numbers.{length-numbers, length-repeat}
use Rattle.reading_fill.proofs.Laws.Texts.{text_takes}

module _ (xs : List ℕ) (s : Shape) (count : ℕ) (c : Cursor) where
  -- the part's text starts after its points
  abbrev text_at : List ℕ
  text_at = drop (c.place + count * point_of s) xs

  abbrev mine : Table
  mine = flatten_part (part_in s count (drop c.place xs))

  part-table : mine ≡ table (count ∷ length (text_in s.text text_at) ∷ []) (numbers (repeat count (widths_of s)) (drop c.place xs)) (text_in s.text text_at)
  unfolding part_in flatten_part
  part-table = rw drop-drop refl

  part-size : part_size s count (drop c.place xs) ≡ count * point_of s + text_size s.text text_at
  unfolding part_size
  part-size = rw drop-drop refl

  part-elements : length (numbers (repeat count (widths_of s)) (drop c.place xs)) ≡ count * length (widths_of s)
  part-elements = length-numbers (repeat count (widths_of s)) (drop c.place xs) ∙ length-repeat count (widths_of s)

  part_room : (xl tl el bl : ℕ) → Room c (part_size s count (drop c.place xs)) (flatten_part (part_in s count (drop c.place xs))) xl tl el bl
      → (c.place + count * point_of s + text_size s.text (drop (c.place + count * point_of s) xs) ≤ xl) × (c.numbers + 2 ≤ tl)
      × (c.elements + count * length (widths_of s) ≤ el) × (c.bytes + length (text_in s.text (drop (c.place + count * point_of s) xs)) ≤ bl)
  part_room xl tl el bl r =
      let q : Room c (count * point_of s + text_size s.text text_at)
      (table (count ∷ length (text_in s.text text_at) ∷ []) (numbers (repeat count (widths_of s)) (drop c.place xs)) (text_in s.text text_at)) xl tl el bl =
      rw (part-table, part-size) at r in
      omega (arith, q, part-elements)

  -- the same with the size p that the code has for a point
  pub part_asks : (p xl tl el bl : ℕ) → p ≡ point_of s
      → Room c (part_size s count (drop c.place xs)) (flatten_part (part_in s count (drop c.place xs))) xl tl el bl
      → (c.place + count * point_of s ≤ xl) × (c.elements + count * length (widths_of s) ≤ el) × (c.numbers + 2 ≤ tl)
      × (c.place + count * p + text_size s.text (drop (c.place + count * p) xs) ≤ xl)
      × (c.bytes + length (text_in s.text (drop (c.place + count * p) xs)) ≤ bl)
  part_asks p xl tl el bl ep r =
      let q = part_room xl tl el bl r in
      (omega (arith, q), q.2, q.1, rw ep q.0, rw ep q.3)

  module _ (p n l t : ℕ) (ep : p ≡ point_of s) (en : n ≡ count * dimensions s.three) (el : l ≡ length (text_in s.text (drop (c.place + count * p) xs)))
      (et : t ≡ cond s.text (l + 2) 0) where
    text-length : l ≡ length (text_in s.text text_at)
    text-length = rw ep at el

    pub part_moved : c.place + part_size s count (drop c.place xs) ≤ length xs
        → record { place = c.place + count * p + t; numbers = c.numbers + 2; elements = c.elements + n; bytes = c.bytes + l }
        ≡ moved c (part_size s count (drop c.place xs)) (flatten_part (part_in s count (drop c.place xs)))
    part_moved fits =
        let ts : text_size s.text text_at ≡ t =
        text_takes text_at s.text l (omega (arith, fits, part-size, length-drop (c.place + count * point_of s) xs)) text-length ∙ sym et in
        let ne : n ≡ length (numbers (repeat count (widths_of s)) (drop c.place xs)) =
        en ∙ sym (part-elements ∙ ap (λ k. count * k) (widths-count s.size s.float s.three)) in
        rw (part-table, part-size, ts, ← ne, ← text-length, ep) (simp add_assoc)

    pub part-wrote : (f g : Filler) → g.numbers.now ≡ sets f.numbers.now c.numbers (count ∷ l ∷ [])
        → g.elements.now ≡ sets f.elements.now c.elements (numbers (repeat count (widths_of s)) (drop c.place xs))
        → g.bytes.now ≡ sets f.bytes.now c.bytes (text_in s.text (drop (c.place + count * p) xs)) → Same f g
        → Fills c (flatten_part (part_in s count (drop c.place xs))) f g
    part-wrote f g hn he hb z =
        rw part-table (record { numbers = hn ∙ rw text-length refl; elements = he; bytes = hb ∙ rw ep refl; same = z })

-- a later part: d is the cursor past N1 and N2
abbrev pub past : Cursor → ℕ → Cursor
past c k = record { place = c.place + k; numbers = c.numbers; elements = c.elements; bytes = c.bytes }

pub moved-past : (c : Cursor) (k m : ℕ) (t : Table) → moved (past c k) m t ≡ moved c (k + m) t
moved-past c k m t = simp add_assoc

module _ (xs : List ℕ) (s : Shape) (c : Cursor) where
  pub subobject_some : (xl tl el bl : ℕ) → Room c (subobject_size s (drop c.place xs)) (flatten_part (subobject_in s (drop c.place xs))) xl tl el bl
      → c.place + 4 ≤ xl
  unfolding subobject_size
  subobject_some xl tl el bl r = omega (arith, r)

  module _ (n1 n2 : ℕ) (e1 : n1 ≡ number 2 (drop c.place xs)) (e2 : n2 ≡ number 2 (drop (c.place + 2) xs)) where
    count-is : n2 + 65536 * n1 ≡ count_in (drop c.place xs)
    count-is = rw (e1, e2, drop-drop) refl

    part-is : subobject_in s (drop c.place xs) ≡ part_in s (n2 + 65536 * n1) (drop (past c 4).place xs)
    unfolding subobject_in
    part-is = rw (← count-is, drop-drop) refl

    size_is : subobject_size s (drop c.place xs) ≡ 4 + part_size s (n2 + 65536 * n1) (drop (past c 4).place xs)
    unfolding subobject_size
    size_is = rw (← count-is, drop-drop) refl

    pub subobject_ask : (xl tl el bl : ℕ) → Room c (subobject_size s (drop c.place xs)) (flatten_part (subobject_in s (drop c.place xs))) xl tl el bl
        → Room (past c 4) (part_size s (n2 + 65536 * n1) (drop (past c 4).place xs))
        (flatten_part (part_in s (n2 + 65536 * n1) (drop (past c 4).place xs))) xl tl el bl
    subobject_ask xl tl el bl r =
        let q : Room c (4 + part_size s (n2 + 65536 * n1) (drop (past c 4).place xs))
        (flatten_part (part_in s (n2 + 65536 * n1) (drop (past c 4).place xs))) xl tl el bl = rw (part-is, size_is) at r in
        omega (arith, q)

    pub subobject_moved : (r : Cursor)
        → r ≡ moved (past c 4) (part_size s (n2 + 65536 * n1) (drop (past c 4).place xs)) (flatten_part (part_in s (n2 + 65536 * n1) (drop (past c 4).place xs)))
        → r ≡ moved c (subobject_size s (drop c.place xs)) (flatten_part (subobject_in s (drop c.place xs)))
    subobject_moved r e =
        rw (part-is, size_is)
        (e ∙ moved-past c 4 (part_size s (n2 + 65536 * n1) (drop (past c 4).place xs)) (flatten_part (part_in s (n2 + 65536 * n1) (drop (past c 4).place xs))))

    pub subobject_wrote : (f g : Filler) → Fills (past c 4) (flatten_part (part_in s (n2 + 65536 * n1) (drop (past c 4).place xs))) f g
        → Fills c (flatten_part (subobject_in s (drop c.place xs))) f g
    subobject_wrote f g w = rw part-is (record { numbers = w.numbers; elements = w.elements; bytes = w.bytes; same = w.same })
