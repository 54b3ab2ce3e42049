-- The parts of a metric are read exactly as they are written.
use mathlib.Core.Bool.{Bool, true, false, ◌||◌}
use mathlib.Core.List.{List, [], ◌∷◌, ◌++◌, append_assoc}
use mathlib.Core.Path.{◌≡◌, refl, ap, ap₂, sym, ◌∙◌, subst}
use Prim.Native.Nat.{ℕ, ◌+◌, ◌*◌, ◌^◌, ◌≤◌, ◌<◌}
use borrow.Author.Tests.{leb-true, le-leb, eqb-true, eq-eqb}
use lib.Dec.{eqb, leb}
use lib.ListN.{length, take, drop, length-append, length-drop, take-append-drop}
use lib.Seq.{drop_at, drop-drop, take_at, length-take-le}
use native.Mathlib.Omega.{arith}
use Rattle.layout.specs.Bytes.{All, flat, Bytes, number, bytes, number_in, numbers, stored_all, repeat, total}
use Rattle.layout.specs.Fields.Subobject
use Rattle.layout.specs.Layout.Encode.{encode_text, encode_part, encode_subobject}
use Rattle.layout.specs.Layout.Fine.{FineLabel, FinePart, FineSubobject}
use Rattle.layout.specs.Reading.Parts.{text_walk, part_walk, subobject_walk, metric_walk}
use Rattle.layout.specs.Refusals.{LENGTH, TEXT, COUNT}
use Rattle.layout.specs.Shared.Mark.{later_count, n1_of, n2_of}
use Rattle.layout.specs.Shared.Reference.{element_size, floating, three_dimensions, text_in_metric}
use Rattle.layout.specs.Shared.Widths.{widths, point_size, point_is_elements}
use Rattle.layout.specs.Sheet.{Part, Reference}
use Rattle.layout.specs.Walk.{answer, given, Check, must, Reader, piece, times, Pair, pair}
use Rattle.laws.proofs.Base.Lists.{◌&◌, all_take, all_drop}
use Rattle.laws.proofs.Base.Numbers.{number-bytes, number_lt, bytes-number, length-stored, numbers-stored, stored-numbers, total-repeat}
use Rattle.laws.proofs.Base.Readers.{Reads, Fills, took_both, times-reads, whole_fills, pair_reads}
use Rattle.laws.proofs.Base.Rows.{Column, num, Vals, row_in, put_row, InLine, row_back, row_on}
use Rattle.laws.proofs.Base.Walks.{given_inj, bind_case, bind_on, checks_case, checks_on}

-- a byte, n bytes and a zero, where the bytes xs have them
closed_back : (n : ℕ) (xs : List ℕ) → Bytes xs → n + 2 ≤ length xs → number 1 xs ≡ n → number 1 (drop (n + 1) xs) ≡ 0
    → (bytes 1 n ++ take n (drop 1 xs) ++ 0 ∷ []) ++ drop (n + 2) xs ≡ xs
closed_back n xs bs h e z =
    let ys : List ℕ = drop 1 xs in
    let lead : bytes 1 n ++ ys ≡ xs = subst (λ k. bytes 1 k ++ ys ≡ xs) e (bytes-number 1 xs bs (omega arith)) in
    let next : 1 + n ≡ n + 1 = omega arith in
    let end : 1 + (n + 1) ≡ n + 2 = omega arith in
    let at : drop n ys ≡ drop (n + 1) xs = drop-drop n 1 xs ∙ ap (λ k. drop k xs) next in
    let zs : List ℕ = drop (n + 1) xs in
    let close : bytes 1 (number 1 zs) ++ drop 1 zs ≡ zs = bytes-number 1 zs (all_drop _ (n + 1) xs bs) (rw length-drop (omega arith)) in
    let zero : bytes 1 0 ++ drop 1 (drop n ys) ≡ drop n ys = rw at (subst (λ k. bytes 1 k ++ drop 1 zs ≡ zs) z close) in
    let tail : (take n ys ++ 0 ∷ []) ++ drop (n + 1) ys ≡ ys = took_both (take n ys) (0 ∷ []) ys n 1 (take-append-drop n ys) zero in
    subst (λ k. (bytes 1 n ++ take n ys ++ 0 ∷ []) ++ drop k xs ≡ xs) end (took_both (bytes 1 n) (take n ys ++ 0 ∷ []) xs 1 (n + 1) lead tail)

length-text : (t : List ℕ) → length (encode_text true t) ≡ length t + 2
unfolding encode_text
length-text t = omega (arith, length-append t (0 ∷ []))

-- what is read of bytes xs that start with a text
label_on : (t xs r : List ℕ) → length t < 256 → xs ≡ encode_text true t ++ r
    → (number 1 xs ≡ length t) × (take (length t) (drop 1 xs) ≡ t) × (number 1 (drop (length t + 1) xs) ≡ 0)
unfolding encode_text
label_on t xs r f is =
    let n : ℕ = length t in
    let tail : drop 1 xs ≡ t ++ (0 ∷ r) = ap (λ l. drop 1 l) is ∙ append_assoc t (0 ∷ []) r in
    let next : n + 1 ≡ 1 + n = omega arith in
    let at : drop (n + 1) xs ≡ 0 ∷ r =
    ap (λ k. drop k xs) next ∙ sym (drop-drop n 1 xs) ∙ ap (λ l. drop n l) tail ∙ drop_at t (0 ∷ r) n refl in
    (ap (λ l. number 1 l) is ∙ number-bytes 1 n ((t ++ 0 ∷ []) ++ r) f, ap (λ l. take n l) tail ∙ take_at t (0 ∷ r) n refl, ap (λ l. number 1 l) at)

pub text-reads : (al : ℕ → Bool) (b : Bool) → Reads al (text_walk b) (encode_text b) (FineLabel b) (λ t. [])
unfolding text_walk encode_text
text-reads al false = record {
  sound = λ p xs bs v e. rw (← (given_inj e)) (refl, tt, refl, refl);
  complete = λ p t r f y. rw f;
}
text-reads al true = record {
  sound = λ p xs bs v e.
      let n : ℕ = number 1 xs in
      checks_case al p (must (leb (n + 2) (length xs)) LENGTH 0 ∷ must (eqb (number 1 (drop (n + 1) xs)) 0) TEXT (n + 1) ∷ []) _ v e λ c y g.
      let room : n + 2 ≤ length xs = leb-true _ _ c.0 in
      let len : length (take n (drop 1 xs)) ≡ n = length-take-le n (drop 1 xs) (rw length-drop (omega arith)) in
      let short : n < 256 = number_lt 1 xs bs in
      rw (← (given_inj g)) (
        (omega arith, all_take _ n (drop 1 xs) (all_drop _ 1 xs bs)),
        tt,
        omega (arith, length-text (take n (drop 1 xs))),
        rw len (closed_back n xs bs room refl (eqb-true _ _ c.1.0)),
      );
  complete = λ p t r f y.
      let xs : List ℕ = encode_text true t ++ r in
      let n : ℕ = number 1 xs in
      let o = label_on t xs r f.0 refl in
      let room : n + 2 ≤ length xs = omega (arith, length-append (encode_text true t) r, length-text t, o.0) in
      let zero : number 1 (drop (n + 1) xs) ≡ 0 = ap (λ k. number 1 (drop (k + 1) xs)) o.0 ∙ o.2 in
      let size : n + 2 ≡ length (encode_text true t) = omega (arith, length-text t, o.0) in
      checks_on al p (must (leb (n + 2) (length xs)) LENGTH 0 ∷ must (eqb (number 1 (drop (n + 1) xs)) 0) TEXT (n + 1) ∷ []) _
      (le-leb _ _ room & eq-eqb _ _ zero & tt) tt
      ∙ ap₂ (λ a k. given (piece a k)) (ap (λ k. take k (drop 1 xs)) o.0 ∙ o.1) size;
}

-- so many points have so many bytes
size_is : (r : Reference) (n : ℕ) → n * point_size r ≡ total (repeat n (widths r))
size_is r n = ap (λ k. n * k) (point_is_elements (element_size r) (floating r) (three_dimensions r)) ∙ sym (total-repeat n (widths r))

-- a part that was read has the count that it was read by
pub record FineCount (r : Reference) (n : ℕ) (a : Part) : Type 0 where
  pub count : a.points ≡ n
  pub fine : FinePart r a

length_part : (r : Reference) (a : Part) → FinePart r a
    → length (encode_part r a) ≡ a.points * point_size r + length (encode_text (text_in_metric r) a.text)
unfolding encode_part
length_part r a f =
    let ws : List ℕ = repeat a.points (widths r) in
    let points : length (stored_all ws a.elements) ≡ a.points * point_size r =
    length-stored ws a.elements f.elements ∙ sym (size_is r a.points) in
    rw length-append (ap (λ k. k + length (encode_text (text_in_metric r) a.text)) points)

part_on : (al : ℕ → Bool) (r : Reference) (p : ℕ) (a : Part) (x : List ℕ) → FinePart r a
    → answer al (part_walk r a.points p (encode_part r a ++ x)) ≡ given (piece a (length (encode_part r a)))
unfolding part_walk encode_part
part_on al r p a x f =
    let n : ℕ = a.points in
    let k : ℕ = n * point_size r in
    let ws : List ℕ = repeat n (widths r) in
    let e : List ℕ = stored_all ws a.elements in
    let b : Bool = text_in_metric r in
    let t : List ℕ = encode_text b a.text in
    let xs : List ℕ = encode_part r a ++ x in
    let is : xs ≡ e ++ (t ++ x) = append_assoc e t x in
    let len : length e ≡ k = length-stored ws a.elements f.elements ∙ sym (size_is r n) in
    let after : drop k xs ≡ t ++ x = ap (λ l. drop k l) is ∙ drop_at e (t ++ x) k len in
    let elements : numbers ws xs ≡ a.elements = ap (λ l. numbers ws l) is ∙ numbers-stored ws a.elements (t ++ x) f.elements in
    let room : k ≤ length xs = omega (arith, ap length is, length-append e (t ++ x)) in
    let read : answer al (text_walk b (p + k) (drop k xs)) ≡ given (piece a.text (length t)) =
    ap (λ l. answer al (text_walk b (p + k) l)) after ∙ (text-reads al b).complete (p + k) a.text x f.label tt in
    checks_on al p (must (leb k (length xs)) LENGTH 0 ∷ []) _ (le-leb _ _ room, tt) tt
    ∙ bind_on al (text_walk b (p + k) (drop k xs)) _ (piece a.text (length t)) read
    ∙ ap₂ (λ es m. given (piece (record { points = n; elements = es; text = a.text }) m)) elements (sym (length_part r a f))

pub part-reads : (al : ℕ → Bool) (r : Reference) (n : ℕ) → Reads al (part_walk r n) (encode_part r) (FineCount r n) (λ a. [])
unfolding part_walk encode_part
part-reads al r n = record {
  sound = λ p xs bs v e.
      let k : ℕ = n * point_size r in
      let ws : List ℕ = repeat n (widths r) in
      checks_case al p (must (leb k (length xs)) LENGTH 0 ∷ []) _ v e λ d z i.
      bind_case al (text_walk (text_in_metric r) (p + k) (drop k xs)) _ v i λ t j g.
      let s = (text-reads al (text_in_metric r)).sound (p + k) (drop k xs) (all_drop _ k xs bs) t j in
      let room : k ≤ length xs = leb-true _ _ d.0 in
      let q = stored-numbers ws xs bs (rw (← (size_is r n)) room) in
      let points : stored_all ws (numbers ws xs) ++ drop k xs ≡ xs = rw (size_is r n) q.1 in
      let fine : FinePart r (record { points = n; elements = numbers ws xs; text = t.value }) = record { elements = q.0; label = s.0 } in
      rw (← (given_inj g)) (
        record { count = refl; fine = fine },
        tt,
        omega (arith, length_part r _ fine, s.2),
        took_both (stored_all ws (numbers ws xs)) (encode_text (text_in_metric r) t.value) xs k t.size points s.3,
      );
  complete = λ p a x f y.
      subst (λ m. answer al (part_walk r m p (encode_part r a ++ x)) ≡ given (piece a (length (encode_part r a)))) f.count
      (part_on al r p a x f.fine);
}

-- N1 and N2
abbrev pub columns : List Column
columns = num Subobject.n1 ∷ num Subobject.n2 ∷ []

abbrev pub row_of : Part → Vals columns
row_of a = n1_of a.points & n2_of a.points & tt

in_line : InLine 0 columns
in_line = refl & refl & tt

pub subobject_is : (r : Reference) (a : Part) → encode_subobject r a ≡ put_row columns (row_of a) ++ encode_part r a
unfolding encode_subobject
subobject_is r a = refl

length_subobject : (r : Reference) (a : Part) → length (encode_subobject r a) ≡ 4 + length (encode_part r a)
unfolding encode_subobject
length_subobject r a = omega arith

pub subobject_reads : (al : ℕ → Bool) (r : Reference) (marked : Bool)
    → Reads al (subobject_walk r marked) (encode_subobject r) (FineSubobject r marked) (λ a. [])
unfolding subobject_walk
subobject_reads al r marked = record {
  sound = λ p xs bs v e.
      let n1 : ℕ = number_in Subobject.n1 xs in
      let n2 : ℕ = number_in Subobject.n2 xs in
      let n : ℕ = later_count n1 n2 in
      checks_case al p (must (leb Subobject.size (length xs)) LENGTH 0 ∷ must (marked || eqb n1 0) COUNT (Subobject.n1).place ∷ []) _ v e λ d z i.
      bind_case al (part_walk r n (p + 4) (drop 4 xs)) _ v i λ t j g.
      let s = (part-reads al r n).sound (p + 4) (drop 4 xs) (all_drop _ 4 xs bs) t j in
      let row = row_back columns in_line xs bs (leb-true _ _ d.0) (refl & refl & tt) in
      let low : n2 < 65536 = row.0.1.0 in
      let count : t.value.points ≡ n2 + 65536 * n1 = s.0.count in
      let e1 : n1_of t.value.points ≡ n1 = omega arith in
      let e2 : n2_of t.value.points ≡ n2 = omega arith in
      let is : row_of t.value ≡ row_in columns xs = λ j. (e1 j & e2 j & tt) in
      let head : put_row columns (row_of t.value) ++ drop 4 xs ≡ xs = subst (λ h. put_row columns h ++ drop 4 xs ≡ xs) (sym is) row.1 in
      rw (← (given_inj g)) (
        record { n1 = rw e1 row.0.0; counted = rw e1 d.1.0; part = s.0.fine },
        tt,
        omega (arith, length_subobject r t.value, s.2),
        rw (subobject_is r t.value) (took_both (put_row columns (row_of t.value)) (encode_part r t.value) xs 4 t.size head s.3),
      );
  complete = λ p a x f y.
      let xs : List ℕ = encode_subobject r a ++ x in
      let is : xs ≡ put_row columns (row_of a) ++ (encode_part r a ++ x) = ap (λ l. l ++ x) (subobject_is r a) in
      let low : n2_of a.points < 256 ^ 2 = omega arith in
      let row : row_in columns xs ≡ row_of a = rw is (row_on columns in_line (row_of a) (encode_part r a ++ x) (f.n1 & low & tt)) in
      let n1 : number_in Subobject.n1 xs ≡ n1_of a.points = ap (λ u. u.0) row in
      let n2 : number_in Subobject.n2 xs ≡ n2_of a.points = ap (λ u. u.1.0) row in
      let count : later_count (number_in Subobject.n1 xs) (number_in Subobject.n2 xs) ≡ a.points = omega arith in
      let after : drop 4 xs ≡ encode_part r a ++ x = ap (λ l. drop 4 l) is in
      let room : Subobject.size ≤ length xs = omega (arith, length-append (encode_subobject r a) x, length_subobject r a) in
      let n : ℕ = later_count (number_in Subobject.n1 xs) (number_in Subobject.n2 xs) in
      let read : answer al (part_walk r n (p + 4) (drop 4 xs)) ≡ given (piece a (length (encode_part r a))) =
      ap₂ (λ m l. answer al (part_walk r m (p + 4) l)) count after ∙ part_on al r (p + 4) a x f.part in
      let fit : Check = must (leb Subobject.size (length xs)) LENGTH 0 in
      checks_on al p (fit ∷ must (marked || eqb (number_in Subobject.n1 xs) 0) COUNT (Subobject.n1).place ∷ []) _
      (le-leb _ _ room & ap (λ m. marked || eqb m 0) n1 ∙ f.counted & tt) tt
      ∙ bind_on al (part_walk r n (p + 4) (drop 4 xs)) _ (piece a (length (encode_part r a))) read
      ∙ ap (λ m. given (piece a m)) (sym (length_subobject r a));
}

-- the metric: a first part of so many points, and so many subobjects
abbrev pub FineMetric : Reference → Bool → ℕ → ℕ → Pair Part (List Part) → Type 0
FineMetric r marked count subobjects t = FineCount r count t.first × ((length t.second ≡ subobjects) × All (FineSubobject r marked) t.second)

abbrev pub metric_of : Reference → Pair Part (List Part) → List ℕ
metric_of r t = encode_part r t.first ++ flat (encode_subobject r) t.second

pub metric_fills : (al : ℕ → Bool) (r : Reference) (marked : Bool) (count subobjects : ℕ)
    → Fills al (metric_walk r marked count subobjects) (metric_of r) (FineMetric r marked count subobjects) (λ t. flat (λ a. []) t.second)
unfolding metric_walk
metric_fills al r marked count subobjects =
    let later : Reader (List Part) = times subobjects (subobject_walk r marked) in
    let FineLater : List Part → Type 0 = λ l. (length l ≡ subobjects) × All (FineSubobject r marked) l in
    whole_fills al (pair (part_walk r count) later) (metric_of r) (FineMetric r marked count subobjects) (λ t. flat (λ a. []) t.second)
    (pair_reads al (part_walk r count) (encode_part r) (FineCount r count) (λ a. []) (part-reads al r count)
    later (flat (encode_subobject r)) FineLater (flat (λ a. []))
    (times-reads al (subobject_walk r marked) (encode_subobject r) (FineSubobject r marked) (λ a. []) (subobject_reads al r marked) subobjects)) LENGTH
