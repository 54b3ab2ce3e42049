-- A part and a later part in pass 2, over plain variables: what the code asks and what it has done.
use mathlib.Core.Bool.{Bool, true, false}
use mathlib.Core.List.{List, [], ◌∷◌, ◌++◌}
use mathlib.Core.Path.{◌≡◌, refl, ap, ap₂, sym, ◌∙◌}
use Prim.Native.Nat.{ℕ, ◌+◌, ◌*◌, ◌/◌, ◌%◌, ◌≤◌, ◌<◌, ◌^◌}
use lib.ListN.{length, take, drop, get_or, length-append, length-drop}
use lib.Seq.{sets, take_at, length-sets, length-take-le}
use native.Mathlib.Omega.{arith}
use Rattle.writing_emit.specs.Cursors.{moved}
use Rattle.writing_emit.specs.Parts.{PartFits, part_bytes, subobject_bytes}
use Rattle.writing_emit.specs.Pieces.{Piece, Emitted}
use Rattle.fields.specs.declared.cursors.Cursor.{Cursor}
use Rattle.fields.proofs.Laws.Widths.{widths-count}
use Rattle.fields.specs.Shapes.{dimensions, widths_of, point_of}
use Rattle.fields.specs.declared.shapes.Shape.{Shape}
use Rattle.layout.specs.Bytes.{bytes, FitAll, repeat, stored_all}
use Rattle.layout.specs.Layout.Encode.{encode_text}
use Rattle.layout.specs.Layout.Fine.{FineLabel}
use Rattle.layout.specs.Shared.Row
use Rattle.layout.specs.Shared.Widths.{point_is_elements}
use Rattle.layout.specs.Sheet.{Part, Table}
use Rattle.layout.specs.Writing.Tables.{flatten_part}
use Rattle.laws.proofs.Base.Numbers.{length-stored, total-repeat}
use Rattle.writing_emit.proofs.Laws.Moves.{sets_twice, emitted}
use Rattle.writing_emit.proofs.Laws.Unique.{part-elements, part_unique}

-- a text that was asked for
pub text-some : (bs : List ℕ) (at n : ℕ) (text : Bool) → text ≡ true → at + n ≤ length bs → n + 2 ≡ length (encode_text text (take n (drop at bs)))
unfolding encode_text
text-some bs at n text e h =
    let t = take n (drop at bs) in
    let l : length t ≡ n = length-take-le n (drop at bs) (omega (arith, length-drop at bs)) in
    rw e (omega (arith, length-append (bytes 1 (length t) ++ t) (0 ∷ []), length-append (bytes 1 (length t)) t, l))

pub text-wrote : (bs : List ℕ) (at n : ℕ) (text : Bool) → text ≡ true → at + n ≤ length bs → (o₀ o₁ o₂ o₃ : List ℕ) (w : ℕ) → o₁ ≡ sets o₀ w (bytes 1 n)
    → o₂ ≡ sets o₁ (w + 1) (take n (drop at bs)) → o₃ ≡ sets o₂ (w + 1 + n) (bytes 1 0) → o₃ ≡ sets o₀ w (encode_text text (take n (drop at bs)))
unfolding encode_text
text-wrote bs at n text e h o₀ o₁ o₂ o₃ w f g k =
    let t = take n (drop at bs) in
    let l : length t ≡ n = length-take-le n (drop at bs) (omega (arith, length-drop at bs)) in
    let x = bytes 1 (length t) in
    let f1 : o₁ ≡ sets o₀ w x = rw l f in
    let place : w + 1 + n ≡ w + length (x ++ t) = omega (arith, length-append x t, l) in
    let k1 : o₃ ≡ sets o₂ (w + length (x ++ t)) (0 ∷ []) = rw (← place) k in
    rw e (sets_twice o₀ o₂ o₃ w (x ++ t) (0 ∷ []) (sets_twice o₀ o₁ o₂ w x t f1 g) k1)

pub text-none : (bs : List ℕ) (at n : ℕ) (text : Bool) → text ≡ false → [] ≡ encode_text text (take n (drop at bs))
unfolding encode_text
text-none bs at n text e = rw e refl

label-short : (b : Bool) (t : List ℕ) → FineLabel b t → length t < 256
label-short true t f = f.0
label-short false t f = rw f (omega arith)

-- what is left of the pool after a part's elements is not stored
stored_more : (ws xs r : List ℕ) → FitAll ws xs → stored_all ws (xs ++ r) ≡ stored_all ws xs
stored_more [] xs r f = refl
stored_more (w ∷ ws) [] r f = absurd f
stored_more (w ∷ ws) (x ∷ xs) r f = ap (λ l. bytes w x ++ l) (stored_more ws xs r f.1)

-- the part at the cursor, whatever its bytes are, and ns, the rows from the cursor on
module _ (B : Shape → Part → List ℕ) (T : Table) (s : Shape) (c : Cursor) (ol : ℕ)
    (p : Piece flatten_part (PartFits s) (B s) c T ol) (ns : List ℕ) (en : ns ≡ drop c.numbers T.numbers) where
  numbers_are : p.value.points ∷ length p.value.text ∷ p.rest.numbers ≡ ns
  unfolding flatten_part
  numbers_are = ap (λ (t : Table). t.numbers) p.is ∙ sym en

  -- its two numbers, as the code reads them
  part-reads : (get_or ns 0 0 ≡ p.value.points) × (get_or ns 1 0 ≡ length p.value.text)
  part-reads = (
    ap (λ l. Row.nth l 0) (sym numbers_are),
    ap (λ l. Row.nth l 1) (sym numbers_are),
  )

  pub part-some : (2 ≤ length ns) × (get_or ns 0 0 < 2 ^ 32)
  unfolding flatten_part
  part-some = (omega (arith, ap length numbers_are), rw part-reads.0 p.fine.points)

module _ (T : Table) (s : Shape) (c : Cursor) (ol : ℕ) (p : Piece flatten_part (PartFits s) (part_bytes s) c T ol)
    (ns : List ℕ) (en : ns ≡ drop c.numbers T.numbers) where
  abbrev a : Part
  a = p.value

  abbrev reads : (get_or ns 0 0 ≡ a.points) × (get_or ns 1 0 ≡ length a.text)
  reads = part-reads part_bytes T s c ol p ns en

  text-is : take (get_or ns 1 0) (drop c.bytes T.bytes) ≡ a.text
  unfolding flatten_part
  text-is =
      let e : a.text ++ p.rest.bytes ≡ drop c.bytes T.bytes = ap (λ (t : Table). t.bytes) p.is in
      ap (λ l. take (get_or ns 1 0) l) (sym e) ∙ take_at a.text p.rest.bytes _ (sym reads.1)

  abbrev stored : List ℕ
  stored = stored_all (repeat a.points (widths_of s)) a.elements

  stored_is : stored_all (repeat (get_or ns 0 0) (widths_of s)) (drop c.elements T.elements) ≡ stored
  unfolding flatten_part
  stored_is =
      let e : a.elements ++ p.rest.elements ≡ drop c.elements T.elements = ap (λ (t : Table). t.elements) p.is in
      ap₂ (λ n l. stored_all (repeat n (widths_of s)) l) reads.0 (sym e)
      ∙ stored_more (repeat a.points (widths_of s)) a.elements p.rest.elements p.fine.elements

  stored-length : length stored ≡ get_or ns 0 0 * point_of s
  stored-length =
      length-stored (repeat a.points (widths_of s)) a.elements p.fine.elements
      ∙ total-repeat a.points (widths_of s)
      ∙ ap₂ (λ n k. n * k) (sym reads.0) (sym (point_is_elements s.size s.float s.three))

  elements-length : length a.elements ≡ get_or ns 0 0 * dimensions s.three
  elements-length = part-elements s a p.fine ∙ ap₂ (λ n k. n * k) (sym reads.0) (widths-count s.size s.float s.three)

  -- the two numbers are small, and the lists have room
  pub part_asks : (c.elements + get_or ns 0 0 * dimensions s.three ≤ length T.elements) × (c.bytes + get_or ns 1 0 ≤ length T.bytes)
      × (get_or ns 1 0 < 256)
      × (c.place + (get_or ns 0 0 * point_of s + length (encode_text s.text (take (get_or ns 1 0) (drop c.bytes T.bytes)))) ≤ ol)
  unfolding flatten_part
  part_asks = (
    rw (← elements-length) p.room.elements,
    rw reads.1 p.room.bytes,
    rw reads.1 (label-short s.text a.text p.fine.label),
    rw (text-is, ← stored-length, ← (length-append stored (encode_text s.text a.text))) p.room.place,
  )

  -- the room of the bytes, by the size that the code has for a point
  pub size_asks : (size : ℕ) → size ≡ point_of s
      → c.place + get_or ns 0 0 * size + length (encode_text s.text (take (get_or ns 1 0) (drop c.bytes T.bytes))) ≤ ol
  size_asks size e = let a = part_asks.3 in rw e (omega (arith, a))

  module _ (size k t : ℕ) (ez : size ≡ point_of s) (ek : k ≡ get_or ns 0 0 * dimensions s.three)
      (et : t ≡ length (encode_text s.text (take (get_or ns 1 0) (drop c.bytes T.bytes)))) where
    -- where the text starts
    text-place : c.place + get_or ns 0 0 * size ≡ c.place + length stored
    text-place = rw (stored-length, ez) refl

    part_moved : record {
      numbers = c.numbers + 2;
      elements = c.elements + k;
      bytes = c.bytes + get_or ns 1 0;
      place = c.place + get_or ns 0 0 * size + t;
    } ≡ moved c (flatten_part a) (part_bytes s a)
    unfolding flatten_part
    part_moved =
        let e : c.elements + k ≡ c.elements + length a.elements = ap (λ n. c.elements + n) (ek ∙ sym elements-length) in
        let text : t ≡ length (encode_text s.text a.text) = et ∙ ap (λ l. length (encode_text s.text l)) text-is in
        let o : c.place + get_or ns 0 0 * size + t ≡ c.place + length (part_bytes s a) =
        omega (arith, text-place, text, length-append stored (encode_text s.text a.text)) in
        λ j. record { numbers = c.numbers + 2; elements = e j; bytes = c.bytes + reads.1 j; place = o j }

    pub part_did : (o₀ o₁ o₂ : List ℕ) → o₁ ≡ sets o₀ c.place (stored_all (repeat (get_or ns 0 0) (widths_of s)) (drop c.elements T.elements))
        → o₂ ≡ sets o₁ (c.place + get_or ns 0 0 * size) (encode_text s.text (take (get_or ns 1 0) (drop c.bytes T.bytes)))
        → Emitted flatten_part (PartFits s) (part_bytes s) c T o₀ o₂ (record {
          numbers = c.numbers + 2;
          elements = c.elements + k;
          bytes = c.bytes + get_or ns 1 0;
          place = c.place + get_or ns 0 0 * size + t;
        })
    part_did o₀ o₁ o₂ f g =
        let f1 : o₁ ≡ sets o₀ c.place stored = f ∙ rw stored_is refl in
        let g1 : o₂ ≡ sets o₁ (c.place + length stored) (encode_text s.text a.text) = g ∙ rw (text-is, text-place) refl in
        emitted flatten_part (PartFits s) (part_bytes s) (part_unique s) c T o₀ o₂ _ a p.rest p.fine p.is part_moved
        (sets_twice o₀ o₁ o₂ c.place stored (encode_text s.text a.text) f1 g1)

-- a later part: the cursor past N1 and N2
abbrev pub past : Cursor → ℕ → Cursor
past c k = record { numbers = c.numbers; elements = c.elements; bytes = c.bytes; place = c.place + k }

module _ (T : Table) (s : Shape) (c : Cursor) (o₀ : List ℕ)
    (p : Piece flatten_part (PartFits s) (subobject_bytes s) c T (length o₀)) (ns : List ℕ) (en : ns ≡ drop c.numbers T.numbers) where
  abbrev later : Part
  later = p.value

  abbrev count : ℕ
  count = get_or ns 0 0

  abbrev head : List ℕ
  head = bytes 2 (later.points / 65536) ++ bytes 2 (later.points % 65536)

  module _ (o₁ o₂ : List ℕ) (f : o₁ ≡ sets o₀ c.place (bytes 2 (get_or ns 0 0 / 65536)))
      (g : o₂ ≡ sets o₁ (c.place + 2) (bytes 2 (get_or ns 0 0 % 65536))) where
    head-wrote : o₂ ≡ sets o₀ c.place head
    head-wrote =
        let r : count ≡ later.points = (part-reads subobject_bytes T s c (length o₀) p ns en).0 in
        sets_twice o₀ o₁ o₂ c.place (bytes 2 (count / 65536)) (bytes 2 (count % 65536)) f g ∙ rw r refl

    pub subobject_ask : Piece flatten_part (PartFits s) (part_bytes s) (past c 4) T (length o₂)
    subobject_ask =
        let l : length o₂ ≡ length o₀ = ap length head-wrote ∙ length-sets o₀ c.place head in
        let out = p.room.place in
        record {
          value = later;
          rest = p.rest;
          is = p.is;
          fine = p.fine;
          room = record {
            numbers = p.room.numbers;
            elements = p.room.elements;
            bytes = p.room.bytes;
            place = omega (arith, out, l, length-append head (part_bytes s later));
          };
        }

    pub subobject_did : (o₃ : List ℕ) (r : Cursor) → Emitted flatten_part (PartFits s) (part_bytes s) (past c 4) T o₂ o₃ r
        → Emitted flatten_part (PartFits s) (subobject_bytes s) c T o₀ o₃ r
    subobject_did o₃ r done =
        let did = done.all later p.rest p.fine p.is in
        let o : c.place + 4 + length (part_bytes s later) ≡ c.place + length (subobject_bytes s later) = omega (arith, length-append head (part_bytes s later)) in
        let m : moved (past c 4) (flatten_part later) (part_bytes s later) ≡ moved c (flatten_part later) (subobject_bytes s later) =
        λ j. record {
          numbers = c.numbers + length (flatten_part later).numbers;
          elements = c.elements + length (flatten_part later).elements;
          bytes = c.bytes + length (flatten_part later).bytes;
          place = o j;
        } in
        emitted flatten_part (PartFits s) (subobject_bytes s) (part_unique s) c T o₀ o₃ r later p.rest p.fine p.is (did.0 ∙ m)
        (sets_twice o₀ o₂ o₃ c.place head (part_bytes s later) head-wrote did.1)
