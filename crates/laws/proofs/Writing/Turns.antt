-- For code over tables: what is left of a table as three places in it, and the rows one by one, with no bound on their count.
use mathlib.Core.Bool.{Bool}
use mathlib.Core.List.{List, [], ◌∷◌}
use mathlib.Core.Path.{◌≡◌, refl, ap, sym, ◌∙◌, subst}
use Prim.Native.Nat.{ℕ, zero, suc, ◌+◌, ◌≤◌, ◌<◌}
use lib.ListN.{length, drop}
use lib.Seq.{drop-append_seam, drop-drop}
use native.Mathlib.Omega.{arith}
use Rattle.layout.specs.Answers.Calls.{and_then}
use Rattle.layout.specs.Bytes.{Bytes}
use Rattle.layout.specs.Shared.Row.{row_width}
use Rattle.layout.specs.Sheet.{Record, Table}
use Rattle.layout.specs.Walk.{ends, Answer, given, refused, answer, ◌>>◌, checks}
use Rattle.layout.specs.Writing.Rows.{row_walk, end_rules, rows_from, rows_walk}
use Rattle.layout.specs.Writing.Tables.{table, join, Taken, flatten_record}
use Rattle.laws.proofs.Base.Walks.{answer_bind}
use Rattle.laws.proofs.Writing.Records.{record_takes}
use Rattle.laws.proofs.Writing.Rows.{record_grows, next_row, rows_of}
use Rattle.laws.proofs.Writing.Takes.{left-bytes, left-numbers}

-- a table from an index and two places of the pools on
abbrev pub table_at : Table → ℕ → ℕ → ℕ → Table
table_at t number element byte = table (drop number t.numbers) (drop element t.elements) (drop byte t.bytes)

rest_is : (a r t : Table) → join a r ≡ t → r ≡ table_at t (length a.numbers) (length a.elements) (length a.bytes)
rest_is a r t e =
    subst (λ u. r ≡ table_at u (length a.numbers) (length a.elements) (length a.bytes)) e
    (λ j. table
    (sym (drop-append_seam a.numbers r.numbers) j)
    (sym (drop-append_seam a.elements r.elements) j)
    (sym (drop-append_seam a.bytes r.bytes) j))

at_at : (t : Table) (n e b k l m : ℕ) → table_at (table_at t n e b) k l m ≡ table_at t (n + k) (e + l) (b + m)
at_at t n e b k l m = λ j. table (drop-drop k n t.numbers j) (drop-drop l e t.elements j) (drop-drop m b t.bytes j)

-- a piece a, taken at three places, leaves the table at those places moved on by what a has
pub rest_at : (a r t : Table) (n e b : ℕ) → join a r ≡ table_at t n e b
    → r ≡ table_at t (n + length a.numbers) (e + length a.elements) (b + length a.bytes)
rest_at a r t n e b h = rest_is a r (table_at t n e b) h ∙ at_at t n e b (length a.numbers) (length a.elements) (length a.bytes)

-- two ways on from an answer that agree where it was given
then_same : {A B : Type 0} (w : Answer A) (f g : A → Answer B) → ((a : A) → w ≡ given a → f a ≡ g a) → and_then w f ≡ and_then w g
then_same (given a) f g h = h a refl
then_same (refused n p z) f g h = refl

module _ (al : ℕ → Bool) where
  -- one row, and then k
  abbrev pub turn : (ℕ → Table → Answer (List Record)) → ℕ → Table → Answer (List Record)
  turn k i t = and_then (answer al (row_walk i t)) (λ row. and_then (k (next_row i row.value) row.left) (λ more. given (row.value ∷ more)))

  most-turn : (most i n : ℕ) (ns es pool : List ℕ)
      → answer al (rows_from (suc most) i (n ∷ ns) es pool) ≡ turn (λ j t. answer al (rows_of most j t)) i (table (n ∷ ns) es pool)
  most-turn most i n ns es pool =
      answer_bind al (row_walk i (table (n ∷ ns) es pool)) _
      ∙ then_same (answer al (row_walk i (table (n ∷ ns) es pool))) _ _ (λ row e. answer_bind al (rows_of most (next_row i row.value) row.left) _)

  shorter : (i : ℕ) (t : Table) → Bytes t.bytes → (v : Taken Record) → answer al (row_walk i t) ≡ given v
      → (row_width + length v.left.numbers ≤ length t.numbers) × Bytes v.left.bytes
  shorter i t b v e =
      let s = (record_takes al).sound i t (omega arith) b v e in
      let E = flatten_record v.value in
      (omega (arith, left-numbers E v.left t s.2, record_grows v.value), left-bytes E v.left t s.2 b)

  -- any two bounds that are large enough
  most-same : (f g i : ℕ) (ns es pool : List ℕ) → length ns ≤ f → length ns ≤ g → Bytes pool
      → answer al (rows_from f i ns es pool) ≡ answer al (rows_from g i ns es pool)
  most-same zero zero i ns es pool hf hg b = refl
  most-same zero (suc g) i [] es pool hf hg b = refl
  most-same zero (suc g) i (n ∷ ns) es pool hf hg b = absurd (omega arith)
  most-same (suc f) zero i [] es pool hf hg b = refl
  most-same (suc f) zero i (n ∷ ns) es pool hf hg b = absurd (omega arith)
  most-same (suc f) (suc g) i [] es pool hf hg b = refl
  most-same (suc f) (suc g) i (n ∷ ns) es pool hf hg b =
      let t : Table = table (n ∷ ns) es pool in
      most-turn f i n ns es pool
      ∙ then_same (answer al (row_walk i t)) _ _ (λ v e.
      let s = shorter i t b v e in
      let left = v.left in
      ap (λ w. and_then w (λ more. given (v.value ∷ more)))
      (most-same f g (next_row i v.value) left.numbers left.elements left.bytes (omega arith) (omega arith) s.1))
      ∙ sym (most-turn g i n ns es pool)

  rows_same : (f g i : ℕ) (t : Table) → length t.numbers ≤ f → length t.numbers ≤ g → Bytes t.bytes
      → answer al (rows_of f i t) ≡ answer al (rows_of g i t)
  rows_same f g i t = most-same f g i t.numbers t.elements t.bytes

  -- the rows from the index i on, as a loop sees them
  pub rows_answer : ℕ → Table → Answer (List Record)
  rows_answer i t = answer al (rows_of (length t.numbers) i t)

  pub rows_start : (t : Table) → answer al (rows_walk t) ≡ rows_answer 0 t
  unfolding rows_walk rows_answer
  rows_start t = refl

  pub rows_turn : (i : ℕ) (t : Table) → 0 < length t.numbers → Bytes t.bytes → rows_answer i t ≡ turn rows_answer i t
  unfolding rows_answer
  rows_turn i t h b = go t.numbers h
    where
      go : (ns : List ℕ) → 0 < length ns → let u : Table = table ns t.elements t.bytes in
          answer al (rows_of (length ns) i u) ≡ turn (λ j v. answer al (rows_of (length v.numbers) j v)) i u
      go [] h = absurd (omega arith)
      go (n ∷ ns) h =
          let u : Table = table (n ∷ ns) t.elements t.bytes in
          most-turn (length ns) i n ns t.elements t.bytes
          ∙ then_same (answer al (row_walk i u)) _ _ (λ v e.
          let s = shorter i u b v e in
          ap (λ w. and_then w (λ more. given (v.value ∷ more)))
          (rows_same (length ns) (length v.left.numbers) (next_row i v.value) v.left (omega arith) (omega arith) s.1))

  pub rows_done : (i : ℕ) (es pool : List ℕ) → rows_answer i (table [] es pool) ≡ answer al (checks i (end_rules es pool) >> ends [])
  unfolding rows_answer
  rows_done i es pool = refl
