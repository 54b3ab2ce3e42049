-- A record in pass 2, over plain variables: what the code asks and what it has done.
use mathlib.Core.List.{List, [], ◌∷◌, ◌++◌, append_assoc}
use mathlib.Core.Path.{◌≡◌, refl, ap, ap₂, sym, subst, ◌∙◌}
use Prim.Native.Nat.{ℕ, ◌+◌, ◌-◌, ◌≤◌, ◌<◌, ◌^◌}
use lib.ListN.{length, drop, get_or, length-append}
use lib.Seq.{sets, length-sets}
use native.Mathlib.Nat.{add-zero}
use native.Mathlib.Omega.{arith}
use Rattle.writing_emit.specs.Cursors.{ahead, moved, Room}
use Rattle.writing_emit.specs.Parts.{PartFits, metric_table, MetricFits, metric_bytes}
use Rattle.writing_emit.specs.Pieces.{Piece, Emitted, Counted, pair_table, Both, pair_bytes}
use Rattle.writing_emit.specs.Records.{lengths_of, names_of, reference_and_word, counts_of, header_of, RowFits}
use Rattle.fields.specs.declared.cursors.Cursor.{Cursor}
use Rattle.fields.proofs.Laws.Put.{sets_append, sets_swap}
use Rattle.fields.specs.Shapes.{shape_of}
use Rattle.fields.specs.declared.shapes.Shape.{Shape}
use Rattle.layout.specs.Bytes.{All, flat}
use Rattle.layout.specs.Layout.Encode.{encode_item, encode_part, encode_subobject, encode_metric, encode_semantics, encode_header, encode_record}
use Rattle.layout.specs.Layout.Fine.{FineItem, FineSubobject, FineRecord}
use Rattle.layout.specs.Shared.Mark.{has_mark}
use Rattle.layout.specs.Shared.Row
use Rattle.layout.specs.Sheet.{Part, Reference, Record, Table}
use Rattle.layout.specs.Writing.Tables.{join, joined, flatten_header, flatten_part, flatten_item, flatten_record}
use Rattle.laws.proofs.Encoding.Lengths.{length-header, length_record}
use Rattle.laws.proofs.Reading.Records.{mark_on}
use Rattle.laws.proofs.Writing.Records.{fine-near, near_first, bytes-of-number, record_numbers}
use Rattle.laws.proofs.Writing.Takes.{join_assoc}
use Rattle.writing_emit.proofs.Laws.Moves.{moved_twice, room-second, ahead-moved, emitted, pair-first, pair-second, pair_done}
use Rattle.writing_emit.proofs.Laws.Unique.{Unique, part_unique, item_unique, record_unique, list_unique, pair_unique}

all_map : {A : Type 0} (F G : A → Type 0) → ((a : A) → F a → G a) → (l : List A) → All F l → All G l
all_map F G h [] f = tt
all_map F G h (a ∷ l) f = (h a f.0, all_map F G h l f.1)

-- the record at the cursor, and ns, the rows from the cursor on
module _ (T : Table) (c : Cursor) (o₀ : List ℕ) (p : Piece flatten_record FineRecord encode_record c T (length o₀)) (ns : List ℕ)
    (en : ns ≡ drop c.numbers T.numbers) where
  abbrev r : Record
  r = p.value

  abbrev row : List ℕ
  row = (join (flatten_record r) p.rest).numbers

  row_is : row ≡ ns
  row_is = ap (λ (t : Table). t.numbers) p.is ∙ sym en

  -- its row has at least a first part
  pub row-long : 10 ≤ length ns
  row-long = let e = ap length row_is in omega (arith, e, length-append (flatten_record r).numbers p.rest.numbers, record_numbers r)

  parts_is : Row.nth ns 6 ≡ 1 + length r.subobjects
  unfolding flatten_record flatten_header
  parts_is = ap (λ l. Row.nth l 6) (sym row_is)

  items-is : Row.nth ns 7 ≡ length r.items
  unfolding flatten_record flatten_header
  items-is = ap (λ l. Row.nth l 7) (sym row_is)

  pub record_parts : 1 ≤ Row.nth ns 6
  record_parts = omega (arith, parts_is)

  reference-is : Row.reference_of (Row.nth ns Row.reference) ≡ r.reference
  unfolding flatten_record flatten_header
  reference-is =
      ap (λ l. Row.reference_of (Row.nth l Row.reference)) (sym row_is) ∙ bytes-of-number r.reference p.fine.byte20 p.fine.byte21 p.fine.byte22

  pub row_fits : RowFits ns
  unfolding flatten_record flatten_header flatten_part
  row_fits =
      let f = p.fine in
      subst (λ l. RowFits l) row_is (record {
        code = f.code;
        in_group = f.in_group;
        group = f.group;
        generalisation = f.generalisation;
        word = f.word;
        some = omega arith;
        subobjects = omega (arith, f.count);
        points = (mark_on r.mark r.first.points r.word f.mark f.counted).3;
      })

  abbrev metric : ℕ
  metric = length (encode_metric r)

  abbrev semantics : ℕ
  semantics = length (encode_semantics r)

  abbrev header : List ℕ
  header = encode_header r metric semantics

  header_is : header_of ns metric semantics ≡ header
  unfolding header_of lengths_of names_of reference_and_word counts_of encode_header flatten_record flatten_header flatten_part
  header_is =
      let one : 1 + length r.subobjects - 1 ≡ length r.subobjects = omega arith in
      let e = bytes-of-number r.reference p.fine.byte20 p.fine.byte21 p.fine.byte22 in
      ap (λ l. header_of l metric semantics) (sym row_is)
      ∙ rw (ap (λ (x : Reference). x.byte20) e, ap (λ (x : Reference). x.byte21) e, ap (λ (x : Reference). x.byte22) e, one) refl

  -- past the header, which is written last
  abbrev pub past_header : Cursor
  past_header = record { numbers = c.numbers + Row.row_width; elements = c.elements; bytes = c.bytes; place = c.place + 32 }

  past_is : moved c (flatten_header r) header ≡ past_header
  unfolding flatten_header
  past_is =
      let o : c.place + length header ≡ c.place + 32 = ap (λ k. c.place + k) (length-header r metric semantics) in
      λ j. record { numbers = c.numbers + Row.row_width; elements = add-zero c.elements j; bytes = add-zero c.bytes j; place = o j }

  abbrev inside : Part × List Part
  inside = (r.first, r.subobjects)

  abbrev body : List ℕ
  body = encode_metric r ++ encode_semantics r

  record_is : encode_record r ≡ header ++ body
  unfolding encode_record
  record_is = append_assoc header (encode_metric r) (encode_semantics r)

  table_is : flatten_record r ≡ join (flatten_header r) (join (metric_table inside) (joined flatten_item r.items))
  unfolding flatten_record
  table_is = ap (λ x. join (flatten_header r) x) (sym (join_assoc (flatten_part r.first) (joined flatten_part r.subobjects) (joined flatten_item r.items)))

  abbrev its : Table
  its = joined flatten_item r.items

  whole : join (flatten_header r) (join (join (metric_table inside) its) p.rest) ≡ ahead c T
  whole = sym (join_assoc (flatten_header r) (join (metric_table inside) its) p.rest)
      ∙ subst (λ t. join t p.rest ≡ ahead c T) table_is p.is

  inside_is : join (join (metric_table inside) its) p.rest ≡ ahead past_header T
  inside_is =
      subst (λ d. join (join (metric_table inside) its) p.rest ≡ ahead d T) past_is
      (ahead-moved c (flatten_header r) (join (join (metric_table inside) its) p.rest) header T whole)

  inside-room : Room past_header (join (metric_table inside) its) (length body) T (length o₀)
  inside-room =
      let q : Room c (join (flatten_header r) (join (metric_table inside) its)) (length (header ++ body)) T (length o₀) =
      subst (λ x. Room c (join (flatten_header r) (join (metric_table inside) its)) (length x) T (length o₀)) record_is
      (subst (λ t. Room c t (length (encode_record r)) T (length o₀)) table_is p.room) in
      subst (λ d. Room d (join (metric_table inside) its) (length body) T (length o₀)) past_is
      (room-second c (flatten_header r) (join (metric_table inside) its) header body T (length o₀) q)

  inside-fits : MetricFits (shape_of r.reference) (length r.subobjects) inside
  inside-fits =
      let first = near_first r (fine-near r p.fine) in
      let F : Part → Type 0 = FineSubobject r.reference (has_mark r.mark) in
      let later = all_map F (PartFits (shape_of r.reference))
      (λ a f. record { points = omega (arith, f.n1); elements = f.part.elements; label = f.part.label }) r.subobjects p.fine.subobjects in
      (record { points = first.points; elements = first.part.elements; label = first.part.label }, (refl, later))

  -- the code's shape; its counts are those of the row
  module _ (s : Shape) (shape : s ≡ shape_of (Row.reference_of (Row.nth ns Row.reference))) where
    abbrev n : ℕ
    n = Row.nth ns 6 - 1

    abbrev k : ℕ
    k = Row.nth ns 7

    same_shape : s ≡ shape_of r.reference
    same_shape = shape ∙ ap (λ x. shape_of x) reference-is

    same_count : n ≡ length r.subobjects
    same_count = omega (arith, parts_is)

    metric_is : metric_bytes s inside ≡ encode_metric r
    unfolding encode_metric encode_part encode_subobject
    metric_is = ap (λ z. metric_bytes z inside) same_shape

    semantics-is : flat encode_item r.items ≡ encode_semantics r
    unfolding encode_semantics
    semantics-is = refl

    body-fits : Both (MetricFits s n) (Counted k FineItem) (inside, r.items)
    body-fits = (rw (same_shape, same_count) inside-fits, (sym items-is, p.fine.items))

    -- metric and items, one after another
    body-piece : Piece (pair_table metric_table (joined flatten_item)) (Both (MetricFits s n) (Counted k FineItem))
        (pair_bytes (metric_bytes s) (flat encode_item)) past_header
        T (length o₀)
    body-piece = record {
      value = (inside, r.items);
      rest = p.rest;
      is = inside_is;
      fine = body-fits;
      room =
          subst (λ x. Room past_header (join (metric_table inside) its) (length x) T (length o₀))
          (ap₂ (λ a b. a ++ b) (sym metric_is) (sym semantics-is)) inside-room;
    }

    metric_unique : Unique metric_table (MetricFits s n)
    metric_unique = pair_unique flatten_part (PartFits s) (part_unique s) (joined flatten_part) (Counted n (PartFits s))
        (list_unique flatten_part (PartFits s) (part_unique s) n)

    pub metric-ask : Piece metric_table (MetricFits s (Row.nth ns 6 - 1)) (metric_bytes s) past_header T (length o₀)
    metric-ask =
        pair-first metric_table (MetricFits s n) (metric_bytes s) (joined flatten_item) (Counted k FineItem) (flat encode_item) metric_unique
        (list_unique flatten_item FineItem item_unique k) past_header T o₀ body-piece

    module _ (o₁ : List ℕ) (d : Cursor)
        (one : Emitted metric_table (MetricFits s (Row.nth ns 6 - 1)) (metric_bytes s) past_header T o₀ o₁ d) where
      pub items-ask : Piece (joined flatten_item) (Counted (Row.nth ns 7) FineItem) (flat encode_item) d T (length o₁)
      items-ask =
          pair-second metric_table (MetricFits s n) (metric_bytes s) (joined flatten_item) (Counted k FineItem) (flat encode_item) metric_unique
          (list_unique flatten_item FineItem item_unique k) past_header T o₀ body-piece o₁ d one

      module _ (o₂ : List ℕ) (e : Cursor)
          (two : Emitted (joined flatten_item) (Counted (Row.nth ns 7) FineItem) (flat encode_item) d T o₁ o₂ e) where
        both : Emitted (pair_table metric_table (joined flatten_item)) (Both (MetricFits s n) (Counted k FineItem))
            (pair_bytes (metric_bytes s) (flat encode_item)) past_header
            T o₀ o₂ e
        both =
            pair_done metric_table (MetricFits s n) (metric_bytes s) (joined flatten_item) (Counted k FineItem) (flat encode_item) metric_unique
            (list_unique flatten_item FineItem item_unique k) past_header T o₀ body-piece o₁ d one o₂ e two

        did : (e ≡ moved past_header (join (metric_table inside) its) body) × (o₂ ≡ sets o₀ (c.place + 32) body)
        did =
            let q = both.all (inside, r.items) p.rest body-fits inside_is in
            let b : metric_bytes s inside ++ flat encode_item r.items ≡ body = ap₂ (λ x y. x ++ y) metric_is semantics-is in
            (q.0 ∙ ap (λ x. moved past_header (join (metric_table inside) its) x) b, q.1 ∙ ap (λ x. sets o₀ (c.place + 32) x) b)

        middle : d.place ≡ c.place + 32 + metric
        middle =
            ap (λ (z : Cursor). z.place)
            (one.all inside (join its p.rest) body-fits.0 (sym (join_assoc (metric_table inside) its p.rest) ∙ inside_is)).0
            ∙ ap (λ (x : List ℕ). c.place + 32 + length x) metric_is

        last : e.place ≡ c.place + 32 + metric + semantics
        last = let q = ap (λ (z : Cursor). z.place) did.0 in omega (arith, q, length-append (encode_metric r) (encode_semantics r))

        pub record_lengths : (c.place + 32 ≤ d.place) × (d.place ≤ e.place)
        record_lengths = omega (arith, middle, last)

        lengths_are : (d.place - (c.place + 32) ≡ metric) × (e.place - d.place ≡ semantics)
        lengths_are = omega (arith, middle, last)

        pub header_asks : (c.place + 32 ≤ length o₂) × (32 + (d.place - (c.place + 32)) + (e.place - d.place) < 2 ^ 32)
        header_asks =
            let l : length o₂ ≡ length o₀ = ap length did.1 ∙ length-sets o₀ (c.place + 32) body in
            let room = p.room.place in
            let small = p.fine.total in
            (omega (arith, l, room, length_record r), omega (arith, small, length_record r, lengths_are))

        pub record_did : (o₃ : List ℕ) → o₃ ≡ sets o₂ c.place (header_of ns (d.place - (c.place + 32)) (e.place - d.place))
            → Emitted flatten_record FineRecord encode_record c T o₀ o₃ e
        record_did o₃ h =
            let h1 : o₃ ≡ sets o₂ c.place header = h ∙ rw (lengths_are.0, lengths_are.1, header_is) refl in
            let long : c.place + length header ≡ c.place + 32 = ap (λ x. c.place + x) (length-header r metric semantics) in
            let w : o₃ ≡ sets o₀ c.place (encode_record r) =
            h1 ∙ rw did.1 (sets_swap o₀ c.place (c.place + 32) header body (omega (arith, long)))
            ∙ ap (λ x. sets (sets o₀ c.place header) x body) (sym long)
            ∙ sym (sets_append o₀ c.place header body)
            ∙ ap (λ x. sets o₀ c.place x) (sym record_is) in
            let m : e ≡ moved c (flatten_record r) (encode_record r) =
            did.0
            ∙ ap (λ z. moved z (join (metric_table inside) its) body) (sym past_is)
            ∙ moved_twice c (flatten_header r) (join (metric_table inside) its) header body
            ∙ ap₂ (λ t x. moved c t x) (sym table_is) (sym record_is) in
            emitted flatten_record FineRecord encode_record record_unique c T o₀ o₃ e r p.rest p.fine p.is m w
