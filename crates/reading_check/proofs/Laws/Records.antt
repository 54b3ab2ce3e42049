-- The ways out of a record, over plain variables.
use mathlib.Core.Bool.{Bool, true, false, cond}
use mathlib.Core.List.{List, [], ◌∷◌, ◌++◌}
use mathlib.Core.Path.{◌≡◌, refl, sym, ap, ◌∙◌, subst}
use Prim.Native.Nat.{ℕ, ◌+◌, ◌-◌, ◌≤◌, ◌<◌}
use borrow.Author.Tests.{le-leb, lt-leb, lt-ltb, leb-true}
use lib.Dec.{ltb}
use lib.ListN.{length, take, drop, length-append, length-drop}
use lib.Seq.{drop-drop, length-take-le}
use native.Mathlib.Nat.{add-zero}
use native.Mathlib.Omega.{arith}
use Rattle.reading_check.proofs.Laws.Shown.{next, plus, shown_bind, shown-plus}
use Rattle.reading_check.proofs.Laws.Steps.{step_on, step_stop}
use Rattle.reading_check.specs.Records.{header_checks, Passed, rest_walk, semantics_of}
use Rattle.reading_check.specs.Tally.{add, tally, tally_of, metric_table, shown}
use Rattle.reading_check.specs.declared.tally.Tally.{Tally}
use Rattle.fields.proofs.Laws.Chain.{step_holds}
use Rattle.fields.specs.Checks.{checked}
use Rattle.layout.specs.Answers.Enums.{refusal}
use Rattle.layout.specs.Bytes.{some, agree}
use Rattle.layout.specs.Reading.Items.{item_walk}
use Rattle.layout.specs.Reading.Parts.{metric_walk}
use Rattle.layout.specs.Reading.Records.{Header, header_in, record_from, metric_in, semantics_in}
use Rattle.layout.specs.Reading.Records.{length_checks, mark_checks, header_walk, body_walk, record_with, record_walk}
use Rattle.layout.specs.Refusals.{LENGTH, SHORT}
use Rattle.layout.specs.Shared.Mark.{is_mark, first_count}
use Rattle.layout.specs.Shared.Reference.{reference_checks, semantics}
use Rattle.layout.specs.Shared.Row.{row_width}
use Rattle.layout.specs.Sheet.{Item, Part, Record, Table}
use Rattle.layout.specs.Walk.{Walk, ends, stops, checks, ◌>>=◌, ◌>>◌, Pair, Piece, piece, fill}
use Rattle.layout.specs.Writing.Tables.{joined, flatten_header, flatten_part, flatten_item, flatten_record}
use Rattle.layout.specs.declared.Refusal.{Refusal}
use Rattle.laws.proofs.Base.Walks.{bind_assoc, checks_append}
use Rattle.std.specs.Prelude.{Result, Ok, Err}

-- the semantics

some_is : (l : List ℕ) → some l ≡ ltb 0 (length l)
some_is [] = refl
some_is (x ∷ l) = sym (lt-ltb 0 (length (x ∷ l)) (omega arith))

module _ (y p : ℕ) (xs : List ℕ) (flag t : Bool) (front : Tally) (e : t ≡ agree flag (ltb 0 (length xs))) where
  agrees : t ≡ agree flag (some xs)
  agrees = e ∙ ap (agree flag) (sym (some_is xs))

  pub semantics_off : t ≡ false → Err (refusal LENGTH p 0) ≡ semantics_of flag front y p xs
  semantics_off h = let a : agree flag (some xs) ≡ false = sym agrees ∙ h in rw a refl

  pub semantics_on : t ≡ true → (k : Result Tally Refusal) → k ≡ shown (λ l. tally_of (length xs) (joined flatten_item l)) y (fill item_walk p xs)
      → plus front k ≡ semantics_of flag front y p xs
  semantics_on h k g = let a : agree flag (some xs) ≡ true = sym agrees ∙ h in rw (a, g) refl

-- the metric and the semantics

abbrev pub head_tally : Tally
head_tally = record { used = 32; numbers = row_width; elements = 0; bytes = 0 }

same-tally : (u v n m e f b c : ℕ) → u ≡ v → n ≡ m → e ≡ f → b ≡ c
    → ◌≡◌ {A = Tally} (record { used = u; numbers = n; elements = e; bytes = b }) (record { used = v; numbers = m; elements = f; bytes = c })
same-tally u v n m e f b c p q r s = rw (p, q, r, s) refl

-- three lists, however they are put together
three : (k : ℕ) (a b c : List ℕ) → k + length (a ++ (b ++ c)) ≡ k + length (a ++ b) + length c
three k a b c = omega (arith, length-append a (b ++ c), length-append b c, length-append a b)

record_tally : (h : Header) (v : Pair Part (List Part)) (items : List Item) (m s : ℕ) → h.total ≡ 32 + m + s
    → tally_of h.total (flatten_record (record_from h v items)) ≡ add (add head_tally (tally_of m (metric_table v))) (tally_of s (joined flatten_item items))
unfolding flatten_record flatten_header
record_tally h v items m s e =
    let F : Table = flatten_part v.first in
    let S : Table = joined flatten_part v.second in
    let I : Table = joined flatten_item items in
    same-tally _ _ _ _ _ _ _ _ e
    (omega (arith, three row_width F.numbers S.numbers I.numbers))
    (omega (arith, three 0 F.elements S.elements I.elements))
    (omega (arith, three 0 F.bytes S.bytes I.bytes))

module _ (h : Header) (place : ℕ) (ms ss : List ℕ) (y : ℕ) (e : h.total ≡ 32 + length ms + length ss) where
  abbrev all : Walk (Piece Record)
  all = body_walk h place ms ss >>= λ r. ends (piece r h.total)

  abbrev parts : Walk (Pair Part (List Part))
  parts = metric_walk h.reference (is_mark h.points) (first_count h.points h.word) h.subobjects place ms

  abbrev later : Tally → Result Tally Refusal
  later m = semantics_of (semantics h.reference) (add head_tally m) y (place + h.metric) ss

  later-is : (v : Pair Part (List Part)) (b : Bool)
      → shown (tally flatten_record) y
      ((cond b (ends tt) (stops LENGTH (place + h.metric + 0)) >> (fill item_walk (place + h.metric) ss >>= λ items. ends (record_from h v items)))
      >>= λ r. ends (piece r h.total))
      ≡ cond b (plus (add head_tally (tally_of (length ms) (metric_table v)))
      (shown (λ l. tally_of (length ss) (joined flatten_item l)) y (fill item_walk (place + h.metric) ss))) (Err (refusal LENGTH (place + h.metric) 0))
  later-is v true =
      ap (shown (tally flatten_record) y)
      (bind_assoc (fill item_walk (place + h.metric) ss) (λ items. ends (record_from h v items)) (λ r. ends (piece r h.total)))
      ∙ shown-plus y (λ l. tally_of (length ss) (joined flatten_item l)) (tally flatten_record) (fill item_walk (place + h.metric) ss)
      (λ items. piece (record_from h v items) h.total)
      (add head_tally (tally_of (length ms) (metric_table v))) (λ items. record_tally h v items (length ms) (length ss) e)
  later-is v false = simp add-zero

  body-shown : shown (tally flatten_record) y all ≡ next (shown (λ v. tally_of (length ms) (metric_table v)) y parts) later
  unfolding body_walk
  body-shown =
      ap (shown (tally flatten_record) y) (bind_assoc parts _ (λ r. ends (piece r h.total)))
      ∙ shown_bind y (λ v. tally_of (length ms) (metric_table v)) (tally flatten_record) parts _ later
      (λ v. later-is v (agree (semantics h.reference) (some ss)))

  module _ (k : Result Tally Refusal) (g : k ≡ shown (λ v. tally_of (length ms) (metric_table v)) y parts) where
    body-stop : (q : Refusal) → k ≡ Err q → Err q ≡ shown (tally flatten_record) y all
    body-stop q f = let i : Err q ≡ shown (λ v. tally_of (length ms) (metric_table v)) y parts = sym f ∙ g in sym (body-shown ∙ rw (← i) refl)

    body_on : (m : Tally) → k ≡ Ok m → later m ≡ shown (tally flatten_record) y all
    body_on m f = let i : Ok m ≡ shown (λ v. tally_of (length ms) (metric_table v)) y parts = sym f ∙ g in sym (body-shown ∙ rw (← i) refl)

-- the two windows of a record, as the code cuts them
module _ (xs : List ℕ) (h : Header) (P : Passed xs h) where
  metric_is : h.metric ≡ (header_in xs).metric
  metric_is = ap (λ (k : Header). k.metric) P.is

  total-is : h.total ≡ (header_in xs).total
  total-is = ap (λ (k : Header). k.total) P.is

  pub metric_cut : take (32 + h.metric - 32) (drop 32 xs) ≡ metric_in (header_in xs) xs
  metric_cut = let n : 32 + h.metric - 32 ≡ (header_in xs).metric = omega (arith, metric_is) in ap (λ k. take k (drop 32 xs)) n

  pub semantics_cut : take (h.total - (32 + h.metric)) (drop (32 + h.metric) xs) ≡ semantics_in (header_in xs) xs
  semantics_cut =
      let n : h.total - (32 + h.metric) ≡ (header_in xs).total - 32 - (header_in xs).metric = omega (arith, metric_is, total-is) in
      let d : drop (32 + h.metric) xs ≡ drop (header_in xs).metric (drop 32 xs) = ap (λ k. drop (32 + k) xs) metric_is
      ∙ sym (drop-drop (header_in xs).metric 32 xs) in
      ap (λ k. take k (drop (32 + h.metric) xs)) n ∙ ap (λ l. take ((header_in xs).total - 32 - (header_in xs).metric) l) d

  pub metric-length : length (take (32 + h.metric - 32) (drop 32 xs)) ≡ h.metric
  metric-length =
      let n : 32 + h.metric - 32 ≡ h.metric = omega arith in
      rw n (length-take-le h.metric (drop 32 xs) (omega (arith, length-drop 32 xs, P.high, P.metric)))

  pub semantics-length : length (take (h.total - (32 + h.metric)) (drop (32 + h.metric) xs)) ≡ h.total - (32 + h.metric)
  semantics-length = length-take-le (h.total - (32 + h.metric)) (drop (32 + h.metric) xs) (omega (arith, length-drop (32 + h.metric) xs, P.high))

  lengths : (header_in xs).total ≡ 32 + length (metric_in (header_in xs) xs) + length (semantics_in (header_in xs) xs)
  lengths =
      omega (arith, ap (λ (l : List ℕ). length l) metric_cut, ap (λ (l : List ℕ). length l) semantics_cut, metric-length, semantics-length, total-is, P.metric)

  module _ (y p count : ℕ) (c : count ≡ first_count h.points h.word) (k : Result Tally Refusal)
      (means : k ≡ shown (λ v. tally_of (length (take (32 + h.metric - 32) (drop 32 xs))) (metric_table v)) y
      (metric_walk h.reference (is_mark h.points) count h.subobjects (p + 32) (take (32 + h.metric - 32) (drop 32 xs)))) where
    here : k ≡ shown (λ v. tally_of (length (metric_in (header_in xs) xs)) (metric_table v)) y
        (metric_walk (header_in xs).reference (is_mark (header_in xs).points) (first_count (header_in xs).points (header_in xs).word) (header_in xs).subobjects
        (p + 32) (metric_in (header_in xs) xs))
    here =
        let a : k ≡ shown (λ v. tally_of (length (metric_in (header_in xs) xs)) (metric_table v)) y
        (metric_walk h.reference (is_mark h.points) (first_count h.points h.word) h.subobjects (p + 32) (metric_in (header_in xs) xs)) =
        subst (λ (l : List ℕ). k ≡ shown (λ v. tally_of (length l) (metric_table v)) y
        (metric_walk h.reference (is_mark h.points) (first_count h.points h.word) h.subobjects (p + 32) l))
        metric_cut
        (subst (λ (n : ℕ). k ≡ shown (λ v. tally_of (length (take (32 + h.metric - 32) (drop 32 xs))) (metric_table v)) y
        (metric_walk h.reference (is_mark h.points) n h.subobjects (p + 32) (take (32 + h.metric - 32) (drop 32 xs)))) c means) in
        subst (λ (z : Header). k ≡ shown (λ v. tally_of (length (metric_in (header_in xs) xs)) (metric_table v)) y
        (metric_walk z.reference (is_mark z.points) (first_count z.points z.word) z.subobjects (p + 32) (metric_in (header_in xs) xs)))
        P.is a

    pub rest-stop : (q : Refusal) → k ≡ Err q → Err q ≡ shown (tally flatten_record) y (rest_walk p xs)
    unfolding rest_walk
    rest-stop q f = body-stop (header_in xs) (p + 32) (metric_in (header_in xs) xs) (semantics_in (header_in xs) xs) y lengths k here q f

    pub rest_on : (m : Tally) → k ≡ Ok m → (front : Tally) → front ≡ add head_tally m → (r : Result Tally Refusal)
        → r ≡ semantics_of (semantics h.reference) front y (p + (32 + h.metric)) (take (h.total - (32 + h.metric)) (drop (32 + h.metric) xs))
        → r ≡ shown (tally flatten_record) y (rest_walk p xs)
    unfolding rest_walk
    rest_on m f front a r g =
        let q : p + (32 + h.metric) ≡ p + 32 + (header_in xs).metric = omega (arith, metric_is) in
        let b : semantics h.reference ≡ semantics (header_in xs).reference = ap (λ (z : Header). semantics z.reference) P.is in
        g ∙ rw (q, semantics_cut, b, a) (body_on (header_in xs) (p + 32) (metric_in (header_in xs) xs) (semantics_in (header_in xs) xs) y lengths k here m f)

-- the header

module _ (y p : ℕ) (xs : List ℕ) where
  pub record_short : length xs < 32 → Err (refusal SHORT p 0) ≡ shown (tally flatten_record) y (record_walk p xs)
  unfolding record_walk
  record_short h = simp (lt-leb 32 (length xs) h, add-zero)

  module _ (l : 32 ≤ length xs) where
    abbrev h : Header
    h = header_in xs

    halves : record_walk p xs ≡ (checks p (header_checks (length xs) h) >> rest_walk p xs)
    unfolding record_walk record_with header_walk rest_walk
    halves =
        let A = length_checks (length xs) h in
        let B = reference_checks 20 21 22 h.reference in
        let C = mark_checks h in
        rw (le-leb 32 (length xs) l)
        (bind_assoc (checks p A) (λ _. checks p B >> checks p C) (λ _. rest_walk p xs)
        ∙ ap (λ w. checks p A >> w) (bind_assoc (checks p B) (λ _. checks p C) (λ _. rest_walk p xs))
        ∙ sym (checks_append p A (B ++ C) (rest_walk p xs) ∙ ap (λ w. checks p A >> w) (checks_append p B C (rest_walk p xs))))

    module _ (r : Result (Unit {0}) Refusal) (n : r ≡ checked y p (header_checks (length xs) (header_in xs))) where
      pub record_on : r ≡ (Ok tt) → (m : Result Tally Refusal) → m ≡ shown (tally flatten_record) y (rest_walk p xs) → m ≡ shown (tally flatten_record) y (record_walk p xs)
      record_on f m g = g ∙ sym
          (ap (shown (tally flatten_record) y) halves ∙ step_on y (tally flatten_record) p (header_checks (length xs) h) (rest_walk p xs) r n f)

      pub record_stop : (q : Refusal) → r ≡ Err q → Err q ≡ shown (tally flatten_record) y (record_walk p xs)
      record_stop q f = step_stop y (tally flatten_record) p (header_checks (length xs) h) (rest_walk p xs) r n q f
          ∙ sym (ap (shown (tally flatten_record) y) halves)

      pub record_passed : r ≡ (Ok tt) → Passed xs (header_in xs)
      unfolding length_checks
      record_passed f =
          let a = step_holds y p (header_checks (length xs) h) r n tt f in
          let low : 32 ≤ h.total = leb-true 32 h.total a.1.0 in
          let high : h.total ≤ length xs = leb-true h.total (length xs) a.1.1.0 in
          let metric : h.metric ≤ h.total - 32 = leb-true h.metric (h.total - 32) a.1.1.1.0 in
          record { is = refl; low = low; high = high; metric = omega arith }
