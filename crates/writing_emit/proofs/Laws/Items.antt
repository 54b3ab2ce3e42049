-- An item in pass 2, over plain variables: what the code asks and what it has done.
use mathlib.Core.List.{List, ◌∷◌, ◌++◌}
use mathlib.Core.Path.{◌≡◌, refl, ap, sym, ◌∙◌}
use Prim.Native.Nat.{ℕ, ◌+◌, ◌≤◌, ◌<◌, ◌^◌}
use lib.ListN.{length, take, drop, get_or, length-append}
use lib.Seq.{sets, take_at}
use native.Mathlib.Omega.{arith}
use Rattle.writing_emit.specs.Cursors.{moved}
use Rattle.writing_emit.specs.Pieces.{Piece, Emitted}
use Rattle.fields.specs.declared.cursors.Cursor.{Cursor}
use Rattle.layout.specs.Bytes.{bytes}
use Rattle.layout.specs.Layout.Encode.{encode_item}
use Rattle.layout.specs.Layout.Fine.{FineItem}
use Rattle.layout.specs.Shared.Row
use Rattle.layout.specs.Shared.Types.{Kind, kind_of, length_bytes}
use Rattle.layout.specs.Sheet.{Item, Table}
use Rattle.layout.specs.Writing.Tables.{flatten_item}
use Rattle.laws.proofs.Base.Numbers.{length-bytes}
use Rattle.laws.proofs.Writing.Sizes.{item-length}
use Rattle.writing_emit.proofs.Laws.Moves.{sets_twice, emitted}
use Rattle.writing_emit.proofs.Laws.Unique.{item_unique}

-- code, type and scale
pub head-wrote : (o₀ o₁ o₂ o₃ : List ℕ) (w code t scale : ℕ) → o₁ ≡ sets o₀ w (bytes 2 code) → o₂ ≡ sets o₁ (w + 2) (bytes 1 t)
    → o₃ ≡ sets o₂ (w + 3) (bytes 1 scale) → o₃ ≡ sets o₀ w (bytes 2 code ++ bytes 1 t ++ bytes 1 scale)
head-wrote o₀ o₁ o₂ o₃ w code t scale e f g =
    sets_twice o₀ o₂ o₃ w (bytes 2 code ++ bytes 1 t) (bytes 1 scale) (sets_twice o₀ o₁ o₂ w (bytes 2 code) (bytes 1 t) e f) g

-- the item at the cursor, and ns, the rows from the cursor on
module _ (T : Table) (c : Cursor) (ol : ℕ) (p : Piece flatten_item FineItem encode_item c T ol) (ns : List ℕ) (en : ns ≡ drop c.numbers T.numbers) where
  abbrev i : Item
  i = p.value

  numbers_are : i.code ∷ i.type ∷ i.scale ∷ length i.value ∷ p.rest.numbers ≡ ns
  unfolding flatten_item
  numbers_are = ap (λ (t : Table). t.numbers) p.is ∙ sym en

  -- its four numbers, as the code reads them
  pub item-reads : (get_or ns 0 0 ≡ p.value.code) × (get_or ns 1 0 ≡ p.value.type) × (get_or ns 2 0 ≡ p.value.scale)
      × (get_or ns 3 0 ≡ length p.value.value)
  item-reads = (
    ap (λ l. Row.nth l 0) (sym numbers_are),
    ap (λ l. Row.nth l 1) (sym numbers_are),
    ap (λ l. Row.nth l 2) (sym numbers_are),
    ap (λ l. Row.nth l 3) (sym numbers_are),
  )

  -- they fit their fields, and the three lists have room
  pub item_asks : (4 ≤ length ns) × (get_or ns 0 0 < 65536) × (get_or ns 1 0 < 256) × (get_or ns 2 0 < 256)
      × (get_or ns 3 0 < 2 ^ 32) × (c.bytes + get_or ns 3 0 ≤ length T.bytes)
      × (c.place + (4 + (length_bytes (kind_of (get_or ns 1 0)) + get_or ns 3 0)) ≤ ol)
  unfolding flatten_item
  item_asks =
      let r = item-reads in
      let f = p.fine in
      let out = p.room.place in
      let fits : c.place + (4 + (length_bytes (kind_of i.type) + length i.value)) ≤ ol = omega (arith, out, item-length i) in (
        omega (arith, ap length numbers_are),
        rw r.0 f.code,
        rw r.1 f.type,
        rw r.2 f.scale,
        rw r.3 f.short,
        rw r.3 p.room.bytes,
        rw (r.1, r.3) fits,
      )

  value-is : take (get_or ns 3 0) (drop c.bytes T.bytes) ≡ i.value
  unfolding flatten_item
  value-is =
      let e : i.value ++ p.rest.bytes ≡ drop c.bytes T.bytes = ap (λ (t : Table). t.bytes) p.is in
      ap (λ l. take (get_or ns 3 0) l) (sym e) ∙ take_at i.value p.rest.bytes _ (sym item-reads.3)

  module _ (k : Kind) (is : k ≡ kind_of (get_or ns 1 0)) (before : ℕ) (eb : before ≡ length_bytes k) where
    -- what the code writes before the length, and how long the value is
    abbrev head : List ℕ
    head = bytes 2 (get_or ns 0 0) ++ bytes 1 (get_or ns 1 0) ++ bytes 1 (get_or ns 2 0)

    abbrev size : ℕ
    size = get_or ns 3 0

    ek : before ≡ length_bytes (kind_of (get_or ns 1 0))
    ek = eb ∙ ap length_bytes is

    item-moved : record { numbers = c.numbers + 4; elements = c.elements; bytes = c.bytes + size; place = c.place + 4 + before + size }
        ≡ moved c (flatten_item i) (encode_item i)
    unfolding flatten_item
    item-moved =
        let r = item-reads in
        let kk : before ≡ length_bytes (kind_of i.type) = ek ∙ ap (λ t. length_bytes (kind_of t)) r.1 in
        let z : c.elements ≡ c.elements + 0 = omega arith in
        let o : c.place + 4 + before + size ≡ c.place + length (encode_item i) = omega (arith, item-length i, kk, r.3) in
        λ j. record { numbers = c.numbers + 4; elements = z j; bytes = c.bytes + r.3 j; place = o j }

    item-wrote : (o₀ o₁ o₂ o₃ : List ℕ) → o₁ ≡ sets o₀ c.place head
        → o₂ ≡ sets o₁ (c.place + 4) (bytes (length_bytes k) size)
        → o₃ ≡ sets o₂ (c.place + 4 + before) (take size (drop c.bytes T.bytes)) → o₃ ≡ sets o₀ c.place (encode_item i)
    unfolding encode_item
    item-wrote o₀ o₁ o₂ o₃ e f g =
        let r = item-reads in
        let h = bytes 2 i.code ++ bytes 1 i.type ++ bytes 1 i.scale in
        let l = bytes (length_bytes (kind_of i.type)) (length i.value) in
        let e1 : o₁ ≡ sets o₀ c.place h = e ∙ rw (r.0, r.1, r.2) refl in
        let f1 : o₂ ≡ sets o₁ (c.place + 4) l = f ∙ rw (is, r.1, r.3) refl in
        let place : c.place + 4 + before ≡ c.place + length (h ++ l) =
        omega (arith, ek ∙ ap (λ t. length_bytes (kind_of t)) r.1, length-append h l, length-bytes (length_bytes (kind_of i.type)) (length i.value)) in
        let g1 : o₃ ≡ sets o₂ (c.place + length (h ++ l)) i.value = g ∙ rw (value-is, place) refl in
        sets_twice o₀ o₂ o₃ c.place (h ++ l) i.value (sets_twice o₀ o₁ o₂ c.place h l e1 f1) g1

    pub item_did : (o₀ o₁ o₂ o₃ : List ℕ) → o₁ ≡ sets o₀ c.place head
        → o₂ ≡ sets o₁ (c.place + 4) (bytes (length_bytes k) size)
        → o₃ ≡ sets o₂ (c.place + 4 + before) (take size (drop c.bytes T.bytes))
        → Emitted flatten_item FineItem encode_item c T o₀ o₃
        (record { numbers = c.numbers + 4; elements = c.elements; bytes = c.bytes + size; place = c.place + 4 + before + size })
    item_did o₀ o₁ o₂ o₃ e f g =
        emitted flatten_item FineItem encode_item item_unique c T o₀ o₃ _ i p.rest p.fine p.is item-moved (item-wrote o₀ o₁ o₂ o₃ e f g)
