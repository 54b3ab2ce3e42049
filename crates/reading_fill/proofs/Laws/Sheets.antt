-- Where the walk of a record or of a sheet gives a value, the value is the reading without tests, and each record keeps its bounds.
use mathlib.Core.Bool.{Bool}
use mathlib.Core.List.{List, [], ◌∷◌}
use mathlib.Core.Path.{◌≡◌, refl, sym, ap, ◌∙◌}
use Prim.Native.Nat.{ℕ, ◌+◌, ◌-◌, ◌≤◌}
use borrow.Author.Tests.{leb-true}
use lib.Dec.{leb}
use lib.ListN.{length, drop, length-drop}
use lib.Seq.{length-take-le}
use native.Mathlib.Omega.{arith}
use Rattle.reading_fill.specs.Parts.{part_in, part_size, subobject_in, subobject_size}
use Rattle.reading_fill.specs.Pieces.{times_in, times_size, fill_size, Each}
use Rattle.reading_fill.specs.Records.{shape_in, first_in, later_in, record_of, record_in, record_size, metric_size, RecordFits}
use Rattle.reading_fill.specs.Sheets.{sheet_records}
use Rattle.layout.specs.Bytes.{agree, number_in, some}
use Rattle.layout.specs.Fields.Descriptor
use Rattle.layout.specs.Fields.Header as Field
use Rattle.layout.specs.Reading.Items.{item_in, item_size, item_walk}
use Rattle.layout.specs.Reading.Parts.{part_walk, subobject_walk, metric_walk}
use Rattle.layout.specs.Reading.Records.{Header, header_in, length_checks, header_walk, metric_in, semantics_in, body_walk, record_with, record_walk}
use Rattle.layout.specs.Reading.Sheets.{start, size_checks, sheet_walk}
use Rattle.layout.specs.Refusals.{LENGTH, SHORT, LEFT_OVER}
use Rattle.layout.specs.Shared.Mark.{is_mark}
use Rattle.layout.specs.Shared.Reference.{semantics}
use Rattle.layout.specs.Sheet.{Part, Record, Sheet}
use Rattle.layout.specs.Walk.{outcome, ends, given, answer, always, must, Piece, piece, Pair, times, fill}
use Rattle.laws.proofs.Base.Valued.{Valued, whole-value, whole_inner, pair_valued}
use Rattle.laws.proofs.Base.Walks.{given_inj, bind_case, checks_case, outcome-is}
use Rattle.laws.proofs.Reading.Sheets.{sheet_went}
use Rattle.reading_fill.proofs.Laws.Values.{times_valued, times-each, fill-value, item_valued, part_valued, subobject_valued}

module _ (al : ℕ → Bool) where
  metric-value : (h : Header) (p : ℕ) (ys : List ℕ) (v : Pair Part (List Part))
      → answer al (metric_walk h.reference (is_mark h.points) (first_in h) h.subobjects p ys) ≡ given v
      → (v.first ≡ part_in (shape_in h) (first_in h) ys) × (v.second ≡ later_in (shape_in h) (first_in h) h.subobjects ys)
      × (metric_size (shape_in h) (first_in h) h.subobjects ys ≤ length ys)
  unfolding metric_walk metric_size
  metric-value h p ys v e =
      let s = shape_in h in
      let later = times_valued al (subobject_walk h.reference (is_mark h.points)) (subobject_in s) (subobject_size s)
      (subobject_valued al h.reference (is_mark h.points)) h.subobjects in
      let both = pair_valued al (part_walk h.reference (first_in h)) (part_in s (first_in h)) (part_size s (first_in h))
      (part_valued al h.reference (first_in h))
      (times h.subobjects (subobject_walk h.reference (is_mark h.points))) (times_in (subobject_in s) (subobject_size s) h.subobjects)
      (times_size (subobject_size s) h.subobjects) later in
      let w = whole-value al _ _ _ both LENGTH p ys v e in
      (ap (λ z. z.first) w.0, ap (λ z. z.second) w.0, w.1)

  body-value : (h : Header) (p : ℕ) (ys zs : List ℕ) (r : Record) → answer al (body_walk h p ys zs) ≡ given r
      → (r ≡ record_of h ys zs) × (metric_size (shape_in h) (first_in h) h.subobjects ys ≤ length ys) × (fill_size item_size zs ≤ length zs)
  unfolding body_walk record_of
  body-value h p ys zs r e =
      bind_case al (metric_walk h.reference (is_mark h.points) (first_in h) h.subobjects p ys) _ r e λ v i j.
      checks_case al (p + h.metric) (must (agree (semantics h.reference) (some zs)) LENGTH 0 ∷ []) _ r j λ c y k.
      bind_case al (fill item_walk (p + h.metric) zs) _ r k λ l m g.
      let a = metric-value h p ys v i in
      let b = fill-value al item_walk item_in item_size (item_valued al) (p + h.metric) zs l m in
      (sym (given_inj g) ∙ rw (a.0, a.1, b.0) refl, a.2, b.1)

  record_value : (p : ℕ) (xs : List ℕ) (v : Piece Record) → answer al (record_walk p xs) ≡ given v → (v ≡ piece (record_in xs) (record_size xs)) × RecordFits xs
  unfolding record_walk record_with header_walk length_checks
  record_value p xs v e =
      let h = header_in xs in
      checks_case al p (must (leb Field.size (length xs)) SHORT 0 ∷ []) _ v e λ c y i.
      bind_case al (header_walk p (length xs) h) _ v i λ u j k.
      checks_case al p (length_checks (length xs) h) _ u j λ d z o.
      bind_case al (body_walk h (p + Field.size) (metric_in h xs) (semantics_in h xs)) _ v k λ r m g.
      let b = body-value h (p + Field.size) (metric_in h xs) (semantics_in h xs) r m in
      let low : 32 ≤ h.total = leb-true _ _ d.1.0 in
      let high : h.total ≤ length xs = leb-true _ _ d.1.1.0 in
      let room : h.metric ≤ h.total - 32 = leb-true _ _ d.1.1.1.0 in
      let len : length (metric_in h xs) ≡ h.metric = length-take-le h.metric (drop 32 xs) (omega (arith, low, high, room, length-drop 32 xs)) in (
        sym (given_inj g) ∙ ap (λ q. piece q h.total) b.0,
        record { low = omega (arith, low, room); high = high; parts = omega (arith, b.1, len); items = b.2 },
      )

  pub record_valued : Valued al record_walk record_in record_size
  record_valued = record { value = λ p xs v e. let a = record_value p xs v e in (a.0, a.1.high) }

  -- what pass 2 knows of an accepted sheet
  pub record Read (s : List ℕ) (t : Sheet) : Type 0 where
    pub records : t.records ≡ sheet_records s
    pub long : start ≤ length s
    pub size : start + times_size record_size (number_in Descriptor.count s) (drop start s) ≤ length s
    pub each : Each RecordFits record_size (number_in Descriptor.count s) (drop start s)

  pub sheet-value : (s : List ℕ) (t : Sheet) → answer al (sheet_walk s) ≡ given t → Read s t
  unfolding size_checks sheet_records
  sheet-value s t e =
      let n : ℕ = number_in Descriptor.count s in
      let w = sheet_went al s t e in
      let a = whole-value al (times n record_walk) (times_in record_in record_size n) (times_size record_size n)
      (times_valued al record_walk record_in record_size record_valued n) LEFT_OVER start (drop start s) t.records w.records in
      let each : Each RecordFits record_size n (drop start s) =
      whole_inner al (times n record_walk) (times_in record_in record_size n) (times_size record_size n)
      (times_valued al record_walk record_in record_size record_valued n) LEFT_OVER start (drop start s) t.records w.records
      λ v i. times-each al record_walk record_in record_size record_valued RecordFits (λ p xs u q. (record_value p xs u q).1) n start (drop start s) v i in
      let long : start ≤ length s = leb-true _ _ w.size.1.0 in
      record {
        records = a.0;
        long = long;
        size = omega (arith, a.1, long, length-drop start s);
        each = each;
      }

-- where the 2017 walk of a sheet ends in t, t's records are those read without tests
pub sheet-records : (s : List ℕ) (t : Sheet) → outcome (sheet_walk s) ≡ ends t → t.records ≡ sheet_records s
sheet-records s t e = (sheet-value always s t ((outcome-is (sheet_walk s) t).0 e)).records
