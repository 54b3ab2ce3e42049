-- A record in pass 2, over plain variables: what the code asks and what it has done.
use mathlib.Core.List.{List, ◌++◌, append_assoc, append-nil}
use mathlib.Core.Path.{◌≡◌, refl, sym, ap, ap₂, ◌∙◌}
use Prim.Native.Nat.{ℕ, ◌+◌, ◌-◌, ◌/◌, ◌≤◌}
use lib.ListN.{length, take, drop, length-append}
use lib.Seq.{sets, drop-drop}
use native.Mathlib.Omega.{arith}
use Rattle.reading_fill.specs.Cursors.{HasRoom, HasFlatRoom, Same, Fills}
use Rattle.reading_fill.specs.declared.filler.Filler.{Filler}
use Rattle.fields.specs.Cursors.{moved, Room}
use Rattle.reading_fill.specs.Parts.{part_in, part_size, subobject_in, subobject_size}
use Rattle.reading_fill.specs.Pieces.{times_in, times_size, fill_in, fill_size}
use Rattle.reading_fill.specs.Records.{shape_in, first_in, later_in, record_of, record_in, record_size, metric_size, metric_table, row_of, RecordFits, inside}
use Rattle.fields.specs.declared.cursors.Cursor.{Cursor}
use Rattle.fields.specs.Headers.{header_of}
use Rattle.fields.specs.declared.headers.Header as Code
use Rattle.fields.specs.declared.shapes.Shape.{Shape}
use Rattle.laws.proofs.Writing.Items.{items-flat}
use Rattle.layout.specs.Reading.Items.{item_in, item_size}
use Rattle.layout.specs.Reading.Records.{Header, header_in, metric_in, semantics_in}
use Rattle.layout.specs.Shared.Row.{row_width}
use Rattle.layout.specs.Sheet.{Item, Table}
use Rattle.layout.specs.Writing.Tables.{table, join, joined, flatten_header, flatten_part, flatten_item, flatten_record}
use Rattle.reading_fill.proofs.Laws.Loops.{times-length}
use Rattle.fields.proofs.Laws.Cursors.{moved_twice, room-first, room-second}
use Rattle.reading_fill.proofs.Laws.Moves.{same_twice, long, fills_twice}
use Rattle.reading_fill.proofs.Laws.Items.{items_four}
use Rattle.fields.proofs.Laws.Put.{sets_append, sets_swap}

-- the metric: the first part, and later ones
module _ (xs : List ℕ) (s : Shape) (count n : ℕ) (c : Cursor) where
  abbrev first : Table
  first = flatten_part (part_in s count (drop c.place xs))

  abbrev k : ℕ
  k = part_size s count (drop c.place xs)

  -- the later parts, from the place past the first
  abbrev m : ℕ
  m = times_size (subobject_size s) n (drop (c.place + k) xs)

  abbrev later : Table
  later = joined flatten_part (times_in (subobject_in s) (subobject_size s) n (drop (c.place + k) xs))

  size_is : metric_size s count n (drop c.place xs) ≡ k + m
  unfolding metric_size
  size_is = rw (← drop-drop k c.place xs) refl

  table_is : metric_table s count n (drop c.place xs) ≡ join first later
  unfolding metric_table
  table_is = rw (← drop-drop k c.place xs) refl

  module _ (xl tl el bl : ℕ) (r : Room c (metric_size s count n (drop c.place xs)) (metric_table s count n (drop c.place xs)) xl tl el bl) where
    both : Room c (k + m) (join first later) xl tl el bl
    both = rw (size_is, table_is) at r

    pub metric-first : Room c (part_size s count (drop c.place xs)) (flatten_part (part_in s count (drop c.place xs))) xl tl el bl
    metric-first = room-first c k m first later xl tl el bl both

    pub metric-later : (d : Cursor) → d ≡ moved c k first
        → Room d (times_size (subobject_size s) n (drop d.place xs))
        (joined flatten_part (times_in (subobject_in s) (subobject_size s) n (drop d.place xs))) xl tl el bl
    metric-later d e = rw e (room-second c k m first later xl tl el bl both)

  module _ (d : Cursor) (e : d ≡ moved c k first) where
    pub metric-moved : (r : Cursor)
        → r ≡ moved d (times_size (subobject_size s) n (drop d.place xs))
        (joined flatten_part (times_in (subobject_in s) (subobject_size s) n (drop d.place xs)))
        → r ≡ moved c (metric_size s count n (drop c.place xs)) (metric_table s count n (drop c.place xs))
    metric-moved r q =
        let p : r ≡ moved (moved c k first) m later = rw e at q in
        p ∙ moved_twice c k m first later ∙ sym (ap₂ (λ a b. moved c a b) size_is table_is)

    pub metric-wrote : (f g h : Filler) → Fills c first f g
        → Fills d (joined flatten_part (times_in (subobject_in s) (subobject_size s) n (drop d.place xs))) g h
        → Fills c (metric_table s count n (drop c.place xs)) f h
    metric-wrote f g h u w =
        let v : Fills (moved c k first) later g h = rw e at w in
        rw table_is (fills_twice c k first later f g h u v)

-- the bytes of the metric and those after it, of a record at a place, as the code cuts them
pub metric_is : (xs : List ℕ) (p : ℕ) (h : Header) → take h.metric (drop (p + 32) xs) ≡ metric_in h (drop p xs)
metric_is xs p h = rw (drop-drop 32 p xs) refl

pub after_is : (xs : List ℕ) (p : ℕ) (h : Header) → take (h.total - 32 - h.metric) (drop (p + 32 + h.metric) xs) ≡ semantics_in h (drop p xs)
after_is xs p h = rw (drop-drop 32 p xs, drop-drop h.metric (p + 32) xs) refl

-- the record at c's place
module _ (xs : List ℕ) (c : Cursor) (fits : RecordFits (drop c.place xs)) where
  abbrev mine : Header
  mine = header_in (drop c.place xs)

  abbrev ms : ℕ
  ms = metric_size (shape_in mine) (first_in mine) mine.subobjects (metric_in mine (drop c.place xs))

  abbrev mt : Table
  mt = metric_table (shape_in mine) (first_in mine) mine.subobjects (metric_in mine (drop c.place xs))

  abbrev is : ℕ
  is = fill_size item_size (semantics_in mine (drop c.place xs))

  abbrev its : List Item
  its = fill_in item_in item_size (semantics_in mine (drop c.place xs))

  abbrev it : Table
  it = joined flatten_item its

  -- past the row's numbers, which are written last
  abbrev pub past_row : Cursor
  past_row = record { place = c.place; numbers = c.numbers + row_width; elements = c.elements; bytes = c.bytes }

  record_table : flatten_record (record_in (drop c.place xs)) ≡ table (row_of mine (length its) ++ (mt.numbers ++ it.numbers)) mt.elements
      (mt.bytes ++ it.bytes)
  unfolding flatten_record flatten_header record_of metric_table row_of
  record_table =
      let s = shape_in mine in
      let ys = metric_in mine (drop c.place xs) in
      let p = flatten_part (part_in s (first_in mine) ys) in
      let l = later_in s (first_in mine) mine.subobjects ys in
      let q = joined flatten_part l in
      let len : length l ≡ mine.subobjects = times-length (subobject_in s) (subobject_size s) mine.subobjects (drop (part_size s (first_in mine) ys) ys) in
      let flat : q.elements ++ it.elements ≡ q.elements = ap (λ e. q.elements ++ e) (items-flat its) ∙ append-nil q.elements in
      rw (len, append_assoc p.numbers q.numbers it.numbers, append_assoc p.bytes q.bytes it.bytes, flat) refl

  row-length : (n : ℕ) → length (row_of mine n) ≡ row_width
  unfolding row_of
  row-length n = refl

  module _ (xl tl el bl : ℕ) (r : Room c (record_size (drop c.place xs)) (flatten_record (record_in (drop c.place xs))) xl tl el bl) where
    record_room : (c.place + mine.total ≤ xl) × (c.numbers + row_width + length mt.numbers + length it.numbers ≤ tl)
        × (c.elements + length mt.elements ≤ el)
        × (c.bytes + length mt.bytes + length it.bytes ≤ bl)
    record_room =
        let q : Room c mine.total (table (row_of mine (length its) ++ (mt.numbers ++ it.numbers)) mt.elements (mt.bytes ++ it.bytes)) xl tl el bl =
        rw record_table at r in (
          q.place,
          omega (
            arith,
            q.numbers,
            length-append (row_of mine (length its)) (mt.numbers ++ it.numbers),
            length-append mt.numbers it.numbers,
            row-length (length its),
          ),
          q.elements,
          omega (arith, q.bytes, length-append mt.bytes it.bytes),
        )

    pub record_header : (c.place + 32 ≤ xl) × (c.numbers + row_width ≤ tl) × (c.place + mine.total ≤ xl)
    record_header = let q = record_room in omega (arith, q, fits.low)

    pub record_metric : Room (inside past_row) (metric_size (shape_in mine) (first_in mine) mine.subobjects (metric_in mine (drop c.place xs)))
        (metric_table (shape_in mine) (first_in mine) mine.subobjects (metric_in mine (drop c.place xs))) mine.metric tl el bl
        × (c.place + (32 + mine.metric) ≤ xl)
    record_metric =
        let q = record_room in (
          record { place = omega (arith, fits.parts); numbers = omega (arith, q); elements = omega (arith, q); bytes = omega (arith, q) },
          omega (arith, q, fits.low),
        )

    module _ (d : Cursor) (ed : d ≡ moved (inside past_row) ms mt) where
      -- the room of the items
      pub record_items : Room (inside d)
          (fill_size item_size (semantics_in mine (drop c.place xs)))
          (joined flatten_item (fill_in item_in item_size (semantics_in mine (drop c.place xs)))) (length (semantics_in mine (drop c.place xs))) tl
          d.elements bl
          × (32 + mine.metric ≤ mine.total) × (c.place + mine.total ≤ xl)
      record_items =
          let q = record_room in
          let n = ap (λ (z : Cursor). z.numbers) ed in
          let b = ap (λ (z : Cursor). z.bytes) ed in
          let z = ap length (items-flat its) in (
            record { place = omega (arith, fits.items); numbers = omega (arith, q, n); elements = omega (arith, z); bytes = omega (arith, q, b) },
            fits.low,
            q.0,
          )

  module _ (d e : Cursor) (ed : d ≡ moved (inside past_row) ms mt)
      (ee : e ≡ moved (inside d) is it) where
    pub counted : (d.numbers ≤ e.numbers) × ((e.numbers - d.numbers) / 4 ≡ length (fill_in item_in item_size (semantics_in mine (drop c.place xs))))
    counted = let n = ap (λ (z : Cursor). z.numbers) ee in let f = items_four its in (omega (arith, n), omega (arith, n, f))

    pub record_moved : (h : Code.Header) → header_of h ≡ header_in (drop c.place xs)
        → record { place = c.place + h.total; numbers = e.numbers; elements = e.elements; bytes = e.bytes } ≡ moved c (record_size (drop c.place xs))
        (flatten_record (record_in (drop c.place xs)))
    unfolding header_of
    record_moved h eh =
        let T = table (row_of mine (length its) ++ (mt.numbers ++ it.numbers)) mt.elements (mt.bytes ++ it.bytes) in
        let p : c.place + h.total ≡ c.place + mine.total = ap (λ (k : Header). c.place + k.total) eh in
        let n : e.numbers ≡ c.numbers + length T.numbers =
        omega (
          arith,
          ap (λ (z : Cursor). z.numbers) ed,
          ap (λ (z : Cursor). z.numbers) ee,
          length-append (row_of mine (length its)) (mt.numbers ++ it.numbers),
          length-append mt.numbers it.numbers,
          row-length (length its),
        ) in
        let l : e.elements ≡ c.elements + length T.elements =
        omega (arith, ap (λ (z : Cursor). z.elements) ed, ap (λ (z : Cursor). z.elements) ee, ap length (items-flat its)) in
        let b : e.bytes ≡ c.bytes + length T.bytes =
        omega (arith, ap (λ (z : Cursor). z.bytes) ed, ap (λ (z : Cursor). z.bytes) ee, length-append mt.bytes it.bytes) in
        rw record_table (λ j. record { place = p j; numbers = n j; elements = l j; bytes = b j })

    -- f, and the slices after the metric, after the items, and after the row
    pub record_wrote : (f₀ f₁ f₂ f₃ : Filler) → Fills (inside past_row) mt f₀ f₁ → Fills (inside d) it f₁ f₂
        → f₃.numbers.now ≡ sets f₂.numbers.now c.numbers (row_of mine ((e.numbers - d.numbers) / 4))
        → f₃.elements.now ≡ f₂.elements.now → f₃.bytes.now ≡ f₂.bytes.now → Same f₂ f₃ → Fills c (flatten_record (record_in (drop c.place xs))) f₀ f₃
    record_wrote f₀ f₁ f₂ f₃ u w h he hb z =
        let v : Fills d it f₁ f₂ = record { numbers = w.numbers; elements = w.elements; bytes = w.bytes; same = w.same } in
        let both : Fills (inside past_row) (join mt it) f₀ f₂ = fills_twice (inside past_row) ms mt it f₀ f₁ f₂ u (rw ed at v) in
        let row = row_of mine (length its) in
        let rest = mt.numbers ++ it.numbers in
        let row_is : c.numbers + length row ≡ c.numbers + row_width = ap (λ k. c.numbers + k) (row-length (length its)) in
        let all : f₃.numbers.now ≡ sets f₀.numbers.now c.numbers (row ++ rest) =
        h ∙ rw (counted.1, both.numbers)
        (sets_swap f₀.numbers.now c.numbers (c.numbers + row_width) row rest (omega (arith, row_is))
        ∙ ap (λ k. sets (sets f₀.numbers.now c.numbers row) k rest) (sym row_is)
        ∙ sym (sets_append f₀.numbers.now c.numbers row rest)) in
        let none : mt.elements ++ it.elements ≡ mt.elements = ap (λ l. mt.elements ++ l) (items-flat its) ∙ append-nil mt.elements in
        rw record_table (record {
          numbers = all;
          elements = he ∙ both.elements ∙ rw none refl;
          bytes = hb ∙ both.bytes;
          same = same_twice f₀ f₂ f₃ both.same z;
        })

  -- the same, with the slices as the code has them after each call
  module _ (xl : ℕ) (f₀ : Filler) (r : HasRoom c (record_size (drop c.place xs)) (flatten_record (record_in (drop c.place xs))) xl f₀)
      (f₁ : Filler) (w : Fills (inside past_row) mt f₀ f₁) where
    pub items_kept : (d : Cursor) → d ≡ moved (inside past_row) ms mt
        → HasFlatRoom (inside d) (fill_size item_size (semantics_in mine (drop c.place xs)))
        (joined flatten_item (fill_in item_in item_size (semantics_in mine (drop c.place xs)))) (length (semantics_in mine (drop c.place xs))) f₁
        × (32 + mine.metric ≤ mine.total) × (c.place + mine.total ≤ xl)
    items_kept d ed =
        let q = record_items xl _ _ _ r d ed in
        let n = long (inside past_row) mt f₀ f₁ w in
        rw (n.0, n.2) q

    pub header-room : (d : Cursor) (f₂ : Filler) → Fills d it f₁ f₂ → c.numbers + row_width ≤ length f₂.numbers.now
    header-room d f₂ v =
        let h = record_header xl _ _ _ r in
        omega (arith, h, (long (inside past_row) mt f₀ f₁ w).0, (long d it f₁ f₂ v).0)
