-- An item in pass 2, over plain variables: what the code asks and what it has done.
use mathlib.Core.List.{List, [], ◌∷◌}
use mathlib.Core.Path.{◌≡◌, refl, sym, ap, ap₂, ◌∙◌}
use Prim.Native.Nat.{ℕ, ◌+◌, ◌*◌, ◌≤◌, ◌<◌}
use lib.ListN.{length, take, drop, length-drop}
use lib.Seq.{sets, drop-drop, length-take-le}
use native.Mathlib.Omega.{arith}
use Rattle.reading_fill.specs.Cursors.{Same, Fills}
use Rattle.reading_fill.specs.declared.filler.Filler.{Filler}
use Rattle.fields.specs.Cursors.{moved, Room}
use Rattle.fields.specs.declared.cursors.Cursor.{Cursor}
use Rattle.layout.specs.Bytes.{number}
use Rattle.layout.specs.Reading.Items.{kind_in, value_at, value_size, item_in, item_size}
use Rattle.layout.specs.Shared.Types.{Kind, length_bytes}
use Rattle.layout.specs.Sheet.{Item}
use Rattle.layout.specs.Writing.Tables.{table, joined, flatten_item}

pub item_grows : (ys : List ℕ) → 0 < item_size ys
item_grows ys = omega arith

-- an item has four numbers
pub items_four : (l : List Item) → length (joined flatten_item l).numbers ≡ 4 * length l
unfolding flatten_item
items_four [] = refl
items_four (i ∷ l) = omega (arith, items_four l)

module _ (xs : List ℕ) (c : Cursor) (k : Kind) (is : k ≡ kind_in (drop c.place xs)) where
  pub item-value : (xl tl el bl : ℕ) → Room c (item_size (drop c.place xs)) (flatten_item (item_in (drop c.place xs))) xl tl el bl
      → c.place + value_at k ≤ xl
  item-value xl tl el bl r = let q = r.place in omega (arith, q, ap value_at is)

  module _ (code t scale before n : ℕ) (ec : code ≡ number 2 (drop c.place xs)) (et : t ≡ number 1 (drop (c.place + 2) xs))
      (es : scale ≡ number 1 (drop (c.place + 3) xs)) (eb : before ≡ length_bytes k) (en : n ≡ value_size (drop c.place xs)) where
    abbrev p : ℕ
    p = 4 + before

    type-is : t ≡ number 1 (drop 2 (drop c.place xs))
    type-is = rw drop-drop et

    scale-is : scale ≡ number 1 (drop 3 (drop c.place xs))
    scale-is = rw drop-drop es

    here : p ≡ value_at (kind_in (drop c.place xs))
    here = ap (λ b. 4 + b) (eb ∙ ap length_bytes is)

    value-is : take n (drop (c.place + p) xs) ≡ (item_in (drop c.place xs)).value
    value-is = ap₂ (λ a b. take a b) en (sym (drop-drop p c.place xs) ∙ ap (λ k. drop k (drop c.place xs)) here)

    sum_is : c.place + item_size (drop c.place xs) ≡ c.place + p + n
    sum_is = omega (arith, here, en)

    module _ (fits : c.place + item_size (drop c.place xs) ≤ length xs) where
      value-length : length (item_in (drop c.place xs)).value ≡ n
      value-length = ap length (sym value-is) ∙ length-take-le n (drop (c.place + p) xs) (omega (arith, sum_is, length-drop (c.place + p) xs))

      item-table : flatten_item (item_in (drop c.place xs)) ≡ table (code ∷ t ∷ scale ∷ n ∷ []) [] (take n (drop (c.place + p) xs))
      unfolding flatten_item
      item-table = rw (value-is, value-length, ec, type-is, scale-is) refl

      pub item_asks : (xl tl el bl : ℕ) → Room c (item_size (drop c.place xs)) (flatten_item (item_in (drop c.place xs))) xl tl el bl
          → (c.place + p + n ≤ xl) × (c.numbers + 4 ≤ tl) × (c.bytes + n ≤ bl)
      item_asks xl tl el bl r =
          let row = code ∷ t ∷ scale ∷ n ∷ [] in
          let q : Room c (item_size (drop c.place xs)) (table row [] (take n (drop (c.place + p) xs))) xl tl el bl = rw item-table at r in
          let l : length (take n (drop (c.place + p) xs)) ≡ n = ap length value-is ∙ value-length in
          (omega (arith, q.place, sum_is), q.numbers, omega (arith, q.bytes, l))

      pub item-moved : record { place = c.place + p + n; numbers = c.numbers + 4; elements = c.elements; bytes = c.bytes + n }
          ≡ moved c (item_size (drop c.place xs)) (flatten_item (item_in (drop c.place xs)))
      item-moved =
          let l : length (take n (drop (c.place + p) xs)) ≡ n = ap length value-is ∙ value-length in
          let z : c.elements ≡ c.elements + 0 = omega arith in
          rw item-table (λ j. record { place = sym sum_is j; numbers = c.numbers + 4; elements = z j; bytes = c.bytes + sym l j })

      pub item-wrote : (f g : Filler) → g.numbers.now ≡ sets f.numbers.now c.numbers (code ∷ t ∷ scale ∷ n ∷ []) → g.elements.now ≡ f.elements.now
          → g.bytes.now ≡ sets f.bytes.now c.bytes (take n (drop (c.place + p) xs)) → Same f g
          → Fills c (flatten_item (item_in (drop c.place xs))) f g
      item-wrote f g hn he hb s = rw item-table (record { numbers = hn; elements = he; bytes = hb; same = s })

-- the next item's room where nothing is known of the pool of elements
pub item_room : (xs : List ℕ) (c : Cursor) (xl tl el bl : ℕ) → Room c (item_size (drop c.place xs)) (flatten_item (item_in (drop c.place xs))) xl tl el bl
    → Room c (item_size (drop c.place xs)) (flatten_item (item_in (drop c.place xs))) xl tl c.elements bl
unfolding flatten_item
item_room xs c xl tl el bl r = record { place = r.place; numbers = r.numbers; elements = omega arith; bytes = r.bytes }
