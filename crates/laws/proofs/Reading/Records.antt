-- A record is read exactly as it is written.
use mathlib.Core.Bool.{Bool, true, false, cond}
use mathlib.Core.List.{List, [], ◌∷◌, ◌++◌, append_assoc}
use mathlib.Core.Path.{◌≡◌, refl, ap, ap₂, sym, ◌∙◌, subst}
use Prim.Native.Nat.{ℕ, ◌+◌, ◌-◌, ◌^◌, ◌≤◌, ◌<◌}
use borrow.Author.Tests.{leb-true, le-leb, ltb-true, lt-ltb, eqb-true, eq-eqb, ne_eqb, eqb-false}
use lib.Dec.{eqb, leb, ltb}
use lib.ListN.{length, take, drop, length-append, length-drop, take-append-drop}
use lib.Seq.{take-append_seam, drop-append_seam, length-take-le}
use native.Mathlib.Omega.{arith}
use Rattle.layout.specs.Bytes.{All, flat, some, Bytes, agree}
use Rattle.layout.specs.Fields.Header as Field
use Rattle.layout.specs.Layout.Encode.{encode_item, encode_metric, encode_semantics, encode_header, encode_record}
use Rattle.layout.specs.Layout.Fine.{FineItem, FineSubobject, FineRecord}
use Rattle.layout.specs.Layout.Uses.{item_years, record_years}
use Rattle.layout.specs.Reading.Items.{item_walk}
use Rattle.layout.specs.Reading.Parts.{metric_walk}
use Rattle.layout.specs.Reading.Records.{Header, header_in, metric_in, semantics_in, record_from}
use Rattle.layout.specs.Reading.Records.{length_checks, mark_checks, header_walk, body_walk, record_with, record_walk}
use Rattle.layout.specs.Refusals.{SHORT, LENGTH}
use Rattle.layout.specs.Shared.Mark.{marked_points, is_mark, first_count, mark_of, has_mark, points_of, good_first}
use Rattle.layout.specs.Shared.Reference.{reference_checks, semantics}
use Rattle.layout.specs.Sheet.{Item, Part, Record}
use Rattle.layout.specs.Walk.{Walk, answer, given, ◌>>=◌, ◌>>◌, must, checks, Holds, ends, Piece, piece, Pair, fill}
use Rattle.laws.proofs.Base.Lists.{◌&◌, all_take, all_drop, some-flat}
use Rattle.laws.proofs.Base.Readers.{Reads, Fills, Took, took_both, fill_fills}
use Rattle.laws.proofs.Base.Rows.{Column, num, Vals, row_in, put_row, FitRow, InLine, OkIn, row_back, row_on}
use Rattle.laws.proofs.Base.Walks.{Allowed, allowed-none, given_inj, bind_assoc, bind_case, bind_on, checks_case, checks_on}
use Rattle.laws.proofs.Encoding.Lengths.{length_record}
use Rattle.laws.proofs.Encoding.Uses.{mark_years, record_uses}
use Rattle.laws.proofs.Reading.Items.{item-reads, item_grows}
use Rattle.laws.proofs.Reading.Parts.{FineMetric, metric_of, metric_fills}

-- the mark, by the points and the word that stand in a header
mark_back : (points word : ℕ) → points < 65536
    → (points_of (mark_of points) (first_count points word) ≡ points) × (has_mark (mark_of points) ≡ is_mark points)
    × (good_first (mark_of points) word (first_count points word) ≡ true) × (mark_of points ≤ 1)
mark_back points word h = go (is_mark points) refl
  where
    go : (b : Bool) → is_mark points ≡ b
        → (points_of (cond b 1 0) (cond b word points) ≡ points) × (has_mark (cond b 1 0) ≡ b)
        × (good_first (cond b 1 0) word (cond b word points) ≡ true) × (cond b 1 0 ≤ 1)
    go true m = (sym (eqb-true points marked_points m), refl, eq-eqb word word refl, omega arith)
    go false m = (refl, refl, lt-ltb points marked_points (omega (arith, eqb-false points marked_points m)), omega arith)

-- the same by the mark and the first count of a fine record
pub mark_on : (mark count word : ℕ) → mark ≤ 1 → good_first mark word count ≡ true
    → (first_count (points_of mark count) word ≡ count) × (is_mark (points_of mark count) ≡ has_mark mark)
    × (mark_of (points_of mark count) ≡ mark) × (points_of mark count < 65536)
mark_on mark count word small e = go (has_mark mark) refl e
  where
    go : (b : Bool) → has_mark mark ≡ b → cond b (eqb word count) (ltb count marked_points) ≡ true
        → (first_count (cond b marked_points count) word ≡ count) × (is_mark (cond b marked_points count) ≡ b)
        × (mark_of (cond b marked_points count) ≡ mark) × (cond b marked_points count < 65536)
    go true m k = (eqb-true word count k, refl, sym (eqb-true mark 1 m), omega arith)
    go false m k =
        let under : count < marked_points = ltb-true count marked_points k in
        let l : is_mark count ≡ false = ne_eqb count marked_points (λ q. omega arith) in
        let none : 0 ≡ mark = omega (arith, eqb-false mark 1 m) in
        (rw l, l, rw l none, omega arith)

-- the header's fields
abbrev pub columns : List Column
columns =
    num Field.identifier ∷ num Field.total ∷ num Field.metric ∷ num Field.code ∷ num Field.in_group ∷ num Field.group
    ∷ num Field.byte20 ∷ num Field.byte21 ∷ num Field.byte22 ∷ num Field.generalisation
    ∷ num Field.word ∷ num Field.subobjects ∷ num Field.points ∷ []

in_line : InLine 0 columns
in_line = refl & refl & refl & refl & refl & refl & refl & refl & refl & refl & refl & refl & refl & tt

-- a number's field wants no test
no_test : (xs : List ℕ) → OkIn columns xs
no_test xs = refl & refl & refl & refl & refl & refl & refl & refl & refl & refl & refl & refl & refl & tt

abbrev pub row_of : Record → Vals columns
row_of r =
    (Field.identifier_is & Field.size + length (encode_metric r) + length (encode_semantics r) & length (encode_metric r)
    & r.code & r.in_group & r.group & r.reference.byte20 & r.reference.byte21 & r.reference.byte22 & r.generalisation
    & r.word & length r.subobjects & points_of r.mark r.first.points & tt)

pub record_is : (r : Record) → encode_record r ≡ put_row columns (row_of r) ++ (encode_metric r ++ encode_semantics r)
unfolding encode_record encode_header
record_is r = refl

-- the checks on a header, one list after another
header_walk_lem : {A : Type 0} (p left : ℕ) (h : Header) (w : Walk A)
    → (header_walk p left h >> w)
    ≡ (checks p (length_checks left h) >> (checks p (reference_checks 20 21 22 h.reference) >> (checks p (mark_checks h) >> w)))
unfolding header_walk
header_walk_lem p left h w =
    let reference : Walk (Unit {0}) = checks p (reference_checks 20 21 22 h.reference) in
    bind_assoc (checks p (length_checks left h)) (λ _. reference >> checks p (mark_checks h)) (λ _. w)
    ∙ ap (λ v. checks p (length_checks left h) >> v) (bind_assoc reference (λ _. checks p (mark_checks h)) (λ _. w))

items-fill : (al : ℕ → Bool) → Fills al (fill item_walk) (flat encode_item) (All FineItem) (flat item_years)
items-fill al = fill_fills al item_walk encode_item FineItem item_years (item-reads al) item_grows

-- parts and items that fill a metric and the rest of a record
record Body (al : ℕ → Bool) (h : Header) (metric rest : List ℕ) (ps : Pair Part (List Part)) (is : List Item) : Type 0 where
  parts : FineMetric h.reference (is_mark h.points) (first_count h.points h.word) h.subobjects ps
  metric_is : metric_of h.reference ps ≡ metric
  flagged : agree (semantics h.reference) (some rest) ≡ true
  items : All FineItem is
  years : Allowed al (flat item_years is)
  rest_is : flat encode_item is ≡ rest

body_back : (al : ℕ → Bool) (h : Header) (p : ℕ) (metric rest : List ℕ) → Bytes metric → Bytes rest → (r : Record)
    → answer al (body_walk h p metric rest) ≡ given r
    → (ps : Pair Part (List Part)) × (is : List Item) × Body al h metric rest ps is × (record_from h ps is ≡ r)
unfolding body_walk
body_back al h p metric rest bm br r e =
    let marked : Bool = is_mark h.points in
    let count : ℕ = first_count h.points h.word in
    let end : ℕ = p + h.metric in
    bind_case al (metric_walk h.reference marked count h.subobjects p metric) _ r e λ ps ep e1.
    checks_case al end (must (agree (semantics h.reference) (some rest)) LENGTH 0 ∷ []) _ r e1 λ c y e2.
    bind_case al (fill item_walk end rest) _ r e2 λ is ei e3.
    let s = (metric_fills al h.reference marked count h.subobjects).sound p metric bm ps ep in
    let t = (items-fill al).sound end rest br is ei in
    (ps, is, record { parts = s.0; metric_is = s.2; flagged = c.0; items = t.0; years = t.1; rest_is = t.2 }, given_inj e3)

body_on : (al : ℕ → Bool) (h : Header) (p : ℕ) (metric rest : List ℕ) (ps : Pair Part (List Part)) (is : List Item) → Body al h metric rest ps is
    → answer al (body_walk h p metric rest) ≡ given (record_from h ps is)
unfolding body_walk
body_on al h p metric rest ps is b =
    let marked : Bool = is_mark h.points in
    let count : ℕ = first_count h.points h.word in
    let end : ℕ = p + h.metric in
    let walk : List ℕ → Walk (Pair Part (List Part)) = λ l. metric_walk h.reference marked count h.subobjects p l in
    let parts : answer al (walk metric) ≡ given ps =
    subst (λ l. answer al (walk l) ≡ given ps) b.metric_is
    ((metric_fills al h.reference marked count h.subobjects).complete p ps b.parts (allowed-none al ps.second)) in
    let items : answer al (fill item_walk end rest) ≡ given is =
    subst (λ l. answer al (fill item_walk end l) ≡ given is) b.rest_is ((items-fill al).complete end is b.items b.years) in
    bind_on al (walk metric) _ ps parts
    ∙ checks_on al end (must (agree (semantics h.reference) (some rest)) LENGTH 0 ∷ []) _ (b.flagged, tt) tt
    ∙ bind_on al (fill item_walk end rest) _ is items

-- what the checks and the body show of the bytes xs
record_fine : (al : ℕ → Bool) (xs : List ℕ) (ps : Pair Part (List Part)) (is : List Item) → Bytes xs → Field.size ≤ length xs
    → Holds (length_checks (length xs) (header_in xs)) → Holds (reference_checks 20 21 22 (header_in xs).reference)
    → Body al (header_in xs) (metric_in (header_in xs) xs) (semantics_in (header_in xs) xs) ps is
    → FineRecord (record_from (header_in xs) ps is) × (length (encode_record (record_from (header_in xs) ps is)) ≡ (header_in xs).total)
    × (encode_record (record_from (header_in xs) ps is) ++ drop (header_in xs).total xs ≡ xs)
    × (is_mark (header_in xs).points ≡ has_mark (mark_of (header_in xs).points))
unfolding length_checks encode_metric encode_semantics
record_fine al xs ps is bs room cl cr b =
    let h : Header = header_in xs in
    let r : Record = record_from h ps is in
    let n : ℕ = h.total in
    let m : ℕ = h.metric in
    let k : ℕ = n - Field.size - m in
    let ys : List ℕ = drop 32 xs in
    let row = row_back columns in_line xs bs room (no_test xs) in
    let fits : FitRow columns (row_in columns xs) = row.0 in
    let over : 32 ≤ n = leb-true _ _ cl.1.0 in
    let under : n ≤ length xs = leb-true _ _ cl.1.1.0 in
    let inside : m ≤ n - 32 = leb-true _ _ cl.1.1.1.0 in
    let left : length ys ≡ length xs - 32 = length-drop 32 xs in
    let lm : length (encode_metric r) ≡ m = ap length b.metric_is ∙ length-take-le m ys (omega arith) in
    let lk : length (encode_semantics r) ≡ k = ap length b.rest_is ∙ length-take-le k (drop m ys) (rw (length-drop m ys) (omega arith)) in
    let mk = mark_back h.points h.word fits.1.1.1.1.1.1.1.1.1.1.1.1.0 in
    let count : ps.first.points ≡ first_count h.points h.word = b.parts.0.count in
    let points : points_of (mark_of h.points) ps.first.points ≡ h.points = ap (points_of (mark_of h.points)) count ∙ mk.0 in
    let marked : is_mark h.points ≡ has_mark (mark_of h.points) = sym mk.1 in
    let identifier : Field.identifier_is ≡ h.identifier = sym (eqb-true _ _ cl.0) in
    let total : 32 + length (encode_metric r) + length (encode_semantics r) ≡ n = omega arith in
    let same : row_of r ≡ row_in columns xs =
    λ j. (identifier j & total j & lm j & h.code & h.in_group & h.group & h.reference.byte20 & h.reference.byte21 & h.reference.byte22
    & h.generalisation & h.word & b.parts.1.0 j & points j & tt) in
    let head : put_row columns (row_of r) ++ ys ≡ xs = subst (λ u. put_row columns u ++ ys ≡ xs) (sym same) row.1 in
    let metric : encode_metric r ++ drop m ys ≡ ys = rw b.metric_is (take-append-drop m ys) in
    let rest : encode_semantics r ++ drop k (drop m ys) ≡ drop m ys = rw b.rest_is (take-append-drop k (drop m ys)) in
    let tail : (encode_metric r ++ encode_semantics r) ++ drop (m + k) ys ≡ ys = took_both (encode_metric r) (encode_semantics r) ys m k metric rest in
    let all : encode_record r ++ drop (32 + (m + k)) xs ≡ xs =
    rw (record_is r) (took_both (put_row columns (row_of r)) (encode_metric r ++ encode_semantics r) xs 32 (m + k) head tail) in
    let end : 32 + (m + k) ≡ n = omega arith in
    let len : length (encode_record r) ≡ n = length_record r ∙ total in
    let flag : agree (semantics h.reference) (some is) ≡ true =
    subst (λ z. agree (semantics h.reference) z ≡ true) (some-flat encode_item item_grows is) (rw b.rest_is b.flagged) in
    let f = fits.1.1.1 in
    let g = f.1.1.1 in
    let w = g.1.1.1.1 in (
      record {
        total = subst (λ z. z < 256 ^ 4) (sym len) fits.1.0;
        code = f.0;
        in_group = f.1.0;
        group = f.1.1.0;
        byte20 = g.0;
        byte21 = g.1.0;
        byte22 = g.1.1.0;
        generalisation = g.1.1.1.0;
        word = w.0;
        count = subst (λ z. z < 256 ^ 2) (sym b.parts.1.0) w.1.0;
        reference = cr;
        mark = mk.3;
        counted = rw count mk.2;
        first = b.parts.0.fine;
        subobjects = subst (λ z. All (FineSubobject h.reference z) ps.second) marked b.parts.1.1;
        flagged = flag;
        items = b.items;
      },
      len,
      subst (λ z. encode_record r ++ drop z xs ≡ xs) end all,
      marked,
    )

record_sound : (al : ℕ → Bool) (p : ℕ) (xs : List ℕ) → Bytes xs → (v : Piece Record) → answer al (record_walk p xs) ≡ given v
    → Took al encode_record FineRecord record_years xs v
unfolding record_walk record_with mark_checks
record_sound al p xs bs v e =
    let h : Header = header_in xs in
    let body : Walk (Piece Record) =
    body_walk h (p + Field.size) (metric_in (header_in xs) xs) (semantics_in (header_in xs) xs) >>= λ r. ends (piece r h.total) in
    checks_case al p (must (leb Field.size (length xs)) SHORT 0 ∷ []) _ v e λ c y e0.
    let e1 = subst (λ w. answer al w ≡ given v) (header_walk_lem p (length xs) h body) e0 in
    checks_case al p (length_checks (length xs) h) _ v e1 λ cl yl e2.
    checks_case al p (reference_checks 20 21 22 h.reference) _ v e2 λ cr yr e3.
    checks_case al p (mark_checks h) body v e3 λ cp yp e4.
    bind_case al (body_walk h (p + Field.size) (metric_in (header_in xs) xs) (semantics_in (header_in xs) xs)) _ v e4 λ r er g.
    let ys : List ℕ = drop 32 xs in
    let by : Bytes ys = all_drop _ 32 xs bs in
    let bm : Bytes (metric_in (header_in xs) xs) = all_take _ h.metric ys by in
    let br : Bytes (semantics_in (header_in xs) xs) = all_take _ (h.total - 32 - h.metric) (drop h.metric ys) (all_drop _ h.metric ys by) in
    let b = body_back al h (p + Field.size) (metric_in (header_in xs) xs) (semantics_in (header_in xs) xs) bm br r er in
    let f = record_fine al xs b.0 b.1 bs (leb-true _ _ c.0) cl cr b.2 in
    let ym : Allowed al (mark_years (has_mark (mark_of h.points))) = subst (λ z. Allowed al (mark_years z)) f.3 yp in
    let ya : Allowed al (record_years (record_from h b.0 b.1)) = (record_uses al (record_from h b.0 b.1)).1 (yr, ym, b.2.years) in
    subst (λ u. Took al encode_record FineRecord record_years xs u) (ap (λ r. piece r h.total) b.3 ∙ given_inj g) (f.0, ya, sym f.1, f.2)

abbrev pub header_of : Vals columns → Header
header_of u =
    let c = u.1.1.1 in
    let b = c.1.1.1 in
    let w = b.1.1.1.1 in
    record {
      identifier = u.0;
      total = u.1.0;
      metric = u.1.1.0;
      code = c.0;
      in_group = c.1.0;
      group = c.1.1.0;
      reference = record { byte20 = b.0; byte21 = b.1.0; byte22 = b.1.1.0 };
      generalisation = b.1.1.1.0;
      word = w.0;
      subobjects = w.1.0;
      points = w.1.1.0;
    }

-- a fine record's header, as it is written
abbrev pub header_for : Record → Header
header_for r = header_of (row_of r)

body_for : (al : ℕ → Bool) (r : Record) → FineRecord r → Allowed al (flat item_years r.items)
    → Body al (header_for r) (encode_metric r) (encode_semantics r) (record { first = r.first; second = r.subobjects }) r.items
unfolding encode_metric encode_semantics
body_for al r f y =
    let mk = mark_on r.mark r.first.points r.word f.mark f.counted in
    record {
      parts = (
        record { count = sym mk.0; fine = f.first },
        (refl, subst (λ z. All (FineSubobject r.reference z) r.subobjects) (sym mk.1) f.subobjects),
      );
      metric_is = refl;
      flagged = subst (λ z. agree (semantics r.reference) z ≡ true) (sym (some-flat encode_item item_grows r.items)) f.flagged;
      items = f.items;
      years = y;
      rest_is = refl;
    }

-- the record of that header is the one that was written
record_for : (r : Record) → FineRecord r → record_from (header_for r) (record { first = r.first; second = r.subobjects }) r.items ≡ r
record_for r f =
    let mk = mark_on r.mark r.first.points r.word f.mark f.counted in
    λ j. record {
      code = r.code;
      in_group = r.in_group;
      group = r.group;
      reference = r.reference;
      generalisation = r.generalisation;
      word = r.word;
      mark = mk.2 j;
      first = r.first;
      subobjects = r.subobjects;
      items = r.items;
    }

-- the header that is read of a fine record, as it is written
pub header_in_lem : (r : Record) (xs x : List ℕ) → FineRecord r → xs ≡ encode_record r ++ x → header_in xs ≡ header_for r
header_in_lem r xs x f is =
    let tail : List ℕ = encode_metric r ++ encode_semantics r in
    let mk = mark_on r.mark r.first.points r.word f.mark f.counted in
    let is2 : xs ≡ put_row columns (row_of r) ++ (tail ++ x) = is ∙ ap (λ l. l ++ x) (record_is r) in
    let total : Field.size + length (encode_metric r) + length (encode_semantics r) < 256 ^ 4 = subst (λ n. n < 256 ^ 4) (length_record r) f.total in
    let metric : length (encode_metric r) < 256 ^ 4 = omega arith in
    let fits : FitRow columns (row_of r) =
    (omega arith & total & metric & f.code & f.in_group & f.group & f.byte20 & f.byte21 & f.byte22 & f.generalisation
    & f.word & f.count & mk.3 & tt) in
    let row : row_in columns xs ≡ row_of r =
    rw is2 (row_on columns in_line (row_of r) (tail ++ x) fits) in
    ap header_of row

record_complete : (al : ℕ → Bool) (p : ℕ) (r : Record) (x : List ℕ) → FineRecord r → Allowed al (record_years r)
    → answer al (record_walk p (encode_record r ++ x)) ≡ given (piece r (length (encode_record r)))
unfolding record_walk record_with length_checks mark_checks
record_complete al p r x f y =
    let xs : List ℕ = encode_record r ++ x in
    let M : List ℕ = encode_metric r in
    let S : List ℕ = encode_semantics r in
    let h : Header = header_for r in
    let mk = mark_on r.mark r.first.points r.word f.mark f.counted in
    let ya = (record_uses al r).0 y in
    let len : length xs ≡ 32 + length M + length S + length x = omega (arith, length-append (encode_record r) x, length_record r) in
    let after : drop 32 xs ≡ M ++ (S ++ x) = ap (λ l. drop 32 (l ++ x)) (record_is r) ∙ append_assoc M S x in
    let left : 32 + length M + length S - 32 - length M ≡ length S = omega arith in
    let m : List ℕ = take (length M) (drop 32 xs) in
    let s : List ℕ = take (32 + length M + length S - 32 - length M) (drop (length M) (drop 32 xs)) in
    let metric : m ≡ M = ap (λ l. take (length M) l) after ∙ take-append_seam M (S ++ x) in
    let rest : s ≡ S =
    ap₂ (λ n l. take n (drop (length M) l)) left after ∙ ap (λ l. take (length S) l) (drop-append_seam M (S ++ x)) ∙ take-append_seam S x in
    let parts : Pair Part (List Part) = (record { first = r.first; second = r.subobjects }) in
    let walk : Walk Record = body_walk h (p + Field.size) m s in
    let body : answer al walk ≡ given r =
    ap₂ (λ u v. answer al (body_walk h (p + Field.size) u v)) metric rest
    ∙ body_on al h (p + Field.size) M S parts r.items (body_for al r f ya.2)
    ∙ ap given (record_for r f) in
    let room : Field.size ≤ length xs = omega arith in
    checks_on al p (must (leb Field.size (length xs)) SHORT 0 ∷ []) _ (le-leb _ _ room, tt) tt
    ∙ ap (λ u. answer al (record_with u p xs)) (header_in_lem r xs x f refl)
    ∙ ap (λ w. answer al w) (header_walk_lem p (length xs) h _)
    ∙ checks_on al p (length_checks (length xs) h) _
    (refl & omega (arith, le-leb) & omega (arith, le-leb) & omega (arith, le-leb) & tt) tt
    ∙ checks_on al p (reference_checks 20 21 22 r.reference) _ f.reference ya.0
    ∙ checks_on al p (mark_checks h) _ tt (subst (λ z. Allowed al (mark_years z)) (sym mk.1) ya.1)
    ∙ bind_on al walk (λ u. ends (piece u h.total)) r body
    ∙ ap (λ n. given (piece r n)) (sym (length_record r))

pub record_reads : (al : ℕ → Bool) → Reads al record_walk encode_record FineRecord record_years
record_reads al = record { sound = record_sound al; complete = record_complete al }
