-- A part is taken from a table exactly as it is flattened.
use mathlib.Core.Bool.{Bool, true, false, ◌||◌}
use mathlib.Core.List.{List, [], ◌∷◌, ◌++◌}
use mathlib.Core.Path.{◌≡◌, refl, ap, ◌∙◌, subst}
use Prim.Native.Nat.{ℕ, suc, ◌^◌, ◌≤◌, ◌<◌}
use borrow.Author.Tests.{leb-true, le-leb, ltb-true, lt-ltb, eqb-true}
use lib.Dec.{eqb, ltb}
use lib.ListN.{length, take, drop, get_or, length-append, take-append-drop}
use lib.Seq.{take_at, drop_at, take-append_seam, drop-append_seam, length-take-le}
use native.Mathlib.Omega.{arith}
use Rattle.layout.specs.Bytes.{Bytes, FitAll, repeat}
use Rattle.layout.specs.Fields.Header
use Rattle.layout.specs.Layout.Fine.{Fits, FineLabel, FinePart, FineSubobject}
use Rattle.layout.specs.Shared.Mark.{good_first}
use Rattle.layout.specs.Shared.Reference.{text_in_metric}
use Rattle.layout.specs.Shared.Row
use Rattle.layout.specs.Shared.Widths.{widths}
use Rattle.layout.specs.Sheet.{Part, Reference}
use Rattle.layout.specs.Walk.{Check, given, Holds, years_of}
use Rattle.layout.specs.Writing.Parts.{first_rules, later_rules, fit_all, element_count, element_rules, text_rules, take_part}
use Rattle.layout.specs.Writing.Tables.{table, taken, flatten_part}
use Rattle.laws.proofs.Base.Lists.{◌&◌, all_take, both_true}
use Rattle.laws.proofs.Base.Numbers.{length-repeat}
use Rattle.laws.proofs.Base.Walks.{given_inj, checks_case, checks_on}
use Rattle.laws.proofs.Writing.Takes.{Takes, table_path}

-- the first two of at least two numbers, and the others
two : (l : List ℕ) → 2 ≤ length l → get_or l 0 0 ∷ get_or l 1 0 ∷ drop 2 l ≡ l
two [] h = absurd (omega arith)
two (a ∷ []) h = absurd (omega arith)
two (a ∷ b ∷ l) h = refl

-- the test of the elements, and what it asks
fit_back : (ws es : List ℕ) → fit_all ws es ≡ true → FitAll ws (take (length ws) es)
fit_back [] es e = tt
fit_back (w ∷ ws) [] e = let z : ◌≡◌ {A = ℕ} 0 1 = cc in absurd (omega arith)
fit_back (w ∷ ws) (x ∷ es) e =
    let h = both_true (ltb x (256 ^ w)) (fit_all ws es) e in
    (ltb-true x (256 ^ w) h.0, fit_back ws es h.1)

pub fit_on : (ws es r : List ℕ) → FitAll ws es → (fit_all ws (es ++ r) ≡ true) × (length es ≡ length ws)
fit_on [] [] r f = (refl, refl)
fit_on [] (e ∷ es) r f = absurd f
fit_on (w ∷ ws) [] r f = absurd f
fit_on (w ∷ ws) (e ∷ es) r f = let h = fit_on ws es r f.1 in (rw (lt-ltb e (256 ^ w) f.0) h.0, ap suc h.1)

-- the tests of a text's length, and what they ask
label_back : (b : Bool) (n : ℕ) (pool : List ℕ) → Bytes pool → n < 256 → n ≤ length pool → (b || eqb n 0) ≡ true → FineLabel b (take n pool)
label_back true n pool bs h r e = (rw (length-take-le n pool r) h, all_take _ n pool bs)
label_back false n pool bs h r e = ap (λ k. take k pool) (eqb-true n 0 e)

label_on : (b : Bool) (t : List ℕ) → FineLabel b t → (length t < 256) × ((b || eqb (length t) 0) ≡ true)
label_on true t f = (f.0, refl)
label_on false t f = (rw f (omega arith), rw f)

-- a part has so many elements
pub part-elements : (r : Reference) (a : Part) → FinePart r a → length a.elements ≡ element_count r a.points
part-elements r a f = (fit_on (repeat a.points (widths r)) a.elements [] f.elements).1 ∙ length-repeat a.points (widths r)

-- a part under any rules of its points
abbrev pub PartUnder : Reference → (ℕ → List Check) → Part → Type 0
PartUnder r rules a = Holds (rules a.points) × FinePart r a

pub part_takes : (al : ℕ → Bool) (r : Reference) (rules : ℕ → List Check)
    → Takes al 2 (take_part r rules) flatten_part (PartUnder r rules) (λ a. years_of (rules a.points))
unfolding take_part element_rules text_rules flatten_part
part_takes al r rules = record {
  sound = λ i t h bs v e.
      let points : ℕ = Row.nth t.numbers Row.points in
      let size : ℕ = Row.nth t.numbers Row.text_length in
      let n : ℕ = element_count r points in
      let ws : List ℕ = repeat points (widths r) in
      checks_case al i (rules points) _ v e λ c1 y1 e1.
      checks_case al i (element_rules r points t.elements) _ v e1 λ c2 y2 e2.
      checks_case al i (text_rules r size t.bytes) _ v e2 λ c3 y3 g.
      let room : size ≤ length t.bytes = leb-true _ _ c3.1.1.0 in
      let len : length (take size t.bytes) ≡ size = length-take-le size t.bytes room in
      rw (← (given_inj g)) (
        (
          c1,
          record {
            elements = subst (λ m. FitAll ws (take m t.elements)) (length-repeat points (widths r)) (fit_back ws t.elements c2.1.0);
            label = label_back (text_in_metric r) size t.bytes bs (ltb-true _ _ c3.0) room c3.1.0;
          },
        ),
        y1,
        table_path _ t (rw len (two t.numbers h)) (take-append-drop n t.elements) (take-append-drop size t.bytes),
      );
  complete = λ i a rest f y.
      let size = length a.text in
      let n = element_count r a.points in
      let es = a.elements ++ rest.elements in
      let pool = a.text ++ rest.bytes in
      let fit = fit_on (repeat a.points (widths r)) a.elements rest.elements f.1.elements in
      let label = label_on (text_in_metric r) a.text f.1.label in
      let len : length a.elements ≡ n = part-elements r a f.1 in
      let in1 : n ≤ length es = omega (arith, len, length-append a.elements rest.elements) in
      let in2 : size ≤ length pool = omega (arith, length-append a.text rest.bytes) in
      let e1 : take n es ≡ a.elements = take_at a.elements rest.elements n len in
      let e2 : drop n es ≡ rest.elements = drop_at a.elements rest.elements n len in
      let p1 : take size pool ≡ a.text = take-append_seam a.text rest.bytes in
      let p2 : drop size pool ≡ rest.bytes = drop-append_seam a.text rest.bytes in
      checks_on al i (rules a.points) _ f.0 y
      ∙ checks_on al i (element_rules r a.points es) _ (le-leb _ _ in1 & fit.0 & tt) tt
      ∙ checks_on al i (text_rules r size pool) _ (lt-ltb _ _ label.0 & label.1 & le-leb _ _ in2 & tt) tt
      ∙ (λ j. given (taken (record { points = a.points; elements = e1 j; text = p1 j }) (table rest.numbers (e2 j) (p2 j))));
}

-- a part has two numbers
pub part-numbers : (a : Part) → length (flatten_part a).numbers ≡ 2
unfolding flatten_part
part-numbers a = refl

-- a later part is a fine subobject
pub subobject_takes : (al : ℕ → Bool) (r : Reference) (marked : Bool)
    → Takes al 2 (take_part r (later_rules marked)) flatten_part (FineSubobject r marked) (λ a. [])
unfolding later_rules
subobject_takes al r marked =
    let T = part_takes al r (later_rules marked) in
    record {
      sound = λ i t h bs v e.
          let s = T.sound i t h bs v e in
          let small : v.value.points < 4294967296 = ltb-true _ _ s.0.0.0 in
          (record { n1 = omega arith; counted = s.0.0.1.0; part = s.0.1 }, tt, s.2);
      complete = λ i a rest f y.
          T.complete i a rest (lt-ltb a.points 4294967296 (omega (arith, f.n1)) & f.counted & tt, f.part) tt;
    }

-- the first part of a record with that mark and that word
pub record FineFirst (r : Reference) (mark word : ℕ) (a : Part) : Type 0 where
  pub points : Fits Header.word a.points
  pub counted : good_first mark word a.points ≡ true
  pub part : FinePart r a

pub first_takes : (al : ℕ → Bool) (r : Reference) (mark word : ℕ)
    → Takes al 2 (take_part r (first_rules mark word)) flatten_part (FineFirst r mark word) (λ a. [])
unfolding first_rules
first_takes al r mark word =
    let T = part_takes al r (first_rules mark word) in
    record {
      sound = λ i t h bs v e.
          let s = T.sound i t h bs v e in
          (record { points = ltb-true _ _ s.0.0.0; counted = s.0.0.1.0; part = s.0.1 }, s.1, s.2);
      complete = λ i a rest f y.
          T.complete i a rest (lt-ltb _ _ f.points & f.counted & tt, f.part) y;
    }
