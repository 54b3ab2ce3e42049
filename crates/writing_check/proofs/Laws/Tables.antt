-- The loop over the rows of a table: what a turn does, and its three ways out.
use mathlib.Core.Bool.{Bool, true, false, not, ◌&&◌}
use mathlib.Core.List.{List, [], ◌∷◌}
use mathlib.Core.Path.{◌≡◌, refl, sym, ap, ◌∙◌}
use Prim.Native.Nat.{ℕ, suc, ◌+◌, ◌≤◌, ◌<◌}
use borrow.Author.Tests.{leb-true, leb-false}
use lib.Dec.{leb}
use lib.ListN.{length, drop, length-drop, drop_of_length-le}
use lib.Seq.{drop-cons}
use native.Mathlib.Nat.{add-zero, zero-add, add_assoc}
use native.Mathlib.Omega.{arith}
use Rattle.layout.specs.Answers.Calls.{and_then}
use Rattle.layout.specs.Answers.Enums.{refusal, result_of}
use Rattle.layout.specs.Bytes.{some}
use Rattle.layout.specs.Layout.Sizes.{sum_by, record_bytes}
use Rattle.layout.specs.Layout.Uses.{record_years}
use Rattle.layout.specs.Sheet.{Record, Table}
use Rattle.layout.specs.Walk.{Answer, given, refused, answer, up_to, checks, ◌>>◌, ends}
use Rattle.layout.specs.Writing.Rows.{row_walk, end_rules, rows_walk}
use Rattle.layout.specs.Writing.Tables.{table, flatten_record}
use Rattle.layout.specs.declared.Refusal.{Refusal}
use Rattle.layout.specs.Refusals.{TABLE}
use Rattle.laws.proofs.Writing.Records.{NearRecord, record_numbers, record_takes}
use Rattle.laws.proofs.Writing.Rows.{record_grows, next_row}
use Rattle.laws.proofs.Writing.Turns.{turn, rows_answer, rows_start, rows_turn, rows_done}
use Rattle.writing_check.proofs.Laws.Moves.{Went, went, stopped, bytes-here, capped_is, capped-add, in_keeps}
use Rattle.writing_check.specs.Places.{capped, here, moved_of, At, In}
use Rattle.writing_check.specs.Tables.{rows_of}
use Rattle.writing_check.specs.declared.places.Places.{Places}
use Rattle.writing_check.specs.declared.tables.Totals.{Totals}
use Rattle.std.specs.Prelude.{Result, Ok, Err}

-- with so many records and bytes behind, what the rest adds to them
abbrev pub rest_of : ℕ → ℕ → Answer (List Record) → Result Totals Refusal
rest_of count len a = result_of (λ rs. record { length = capped (len + sum_by record_bytes rs); records = count + length rs }) a

rest-start : (v : Answer (List Record)) → rows_of v ≡ rest_of 0 0 v
rest-start (given rs) = rw (zero-add (sum_by record_bytes rs), zero-add (length rs)) refl
rest-start (refused n i y) = refl

rest_cons : (count len : ℕ) (r : Record) (v : Answer (List Record))
    → rest_of count len (and_then v (λ more. given (r ∷ more))) ≡ rest_of (count + 1) (capped (len + record_bytes r)) v
rest_cons count len r (given more) =
    let e : capped (len + (record_bytes r + sum_by record_bytes more)) ≡ capped (capped (len + record_bytes r) + sum_by record_bytes more) =
    ap capped (sym (add_assoc len (record_bytes r) (sum_by record_bytes more))) ∙ sym (capped-add (len + record_bytes r) (sum_by record_bytes more)) in
    let n : count + suc (length more) ≡ count + 1 + length more = omega arith in
    λ j. Ok (record { length = e j; records = n j })
rest_cons count len r (refused n i y) = refl

some-drop : (k : ℕ) (l : List ℕ) → not (some (drop k l)) ≡ leb (length l) k
some-drop k l = go (leb (length l) k) refl
  where
    go : (b : Bool) → leb (length l) k ≡ b → not (some (drop k l)) ≡ b
    go true e = rw (drop_of_length-le l (leb-true (length l) k e)) refl
    go false e = rw (drop-cons l k 0 (leb-false (length l) k e)) refl

module _ (y : ℕ) (t : Table) where
  -- the rest, at p, answers with what is behind what the whole does
  pub record Going (count : ℕ) (p : Places) : Type 0 where
    pub eq : rows_of (answer (up_to y) (rows_walk t)) ≡ rest_of count p.length (rows_answer (up_to y) p.number (here t p))

  pub going_start : Going 0 (record { number = 0; element = 0; byte = 0; length = 0 })
  going_start = record { eq = ap rows_of (rows_start (up_to y) t) ∙ rest-start (rows_answer (up_to y) 0 t) }

  module _ (count : ℕ) (p : Places) (g : Going count p) (h : At t p) where
    module _ (some : p.number < length t.numbers) (m : Result Places Refusal)
        (e : m ≡ moved_of flatten_record record_bytes p (answer (up_to y) (row_walk p.number (here t p)))) where
      pub row_went : (q : Places) → m ≡ Ok q → Went (In t.elements) (answer (up_to y) (row_walk p.number (here t p))) flatten_record record_bytes NearRecord t p q
      row_went q i =
          went (up_to y) 0 row_walk flatten_record NearRecord record_years (record_takes (up_to y)) record_bytes (In t.elements) t (in_keeps t.elements) p h (omega arith) m e q i

      one-turn : rows_of (answer (up_to y) (rows_walk t)) ≡ rest_of count p.length (turn (up_to y) (rows_answer (up_to y)) p.number (here t p))
      one-turn =
          g.eq ∙ ap (rest_of count p.length) (rows_turn (up_to y) p.number (here t p) (omega (arith, some, length-drop p.number t.numbers)) (bytes-here (In t.elements) t p h))

      pub going_stop : (q : Refusal) → m ≡ Err q → Err q ≡ rows_of (answer (up_to y) (rows_walk t))
      going_stop q i =
          let s = stopped (up_to y) 0 row_walk flatten_record NearRecord record_years (record_takes (up_to y)) record_bytes (In t.elements) t (in_keeps t.elements) p h (omega arith) m e q i in
          sym (one-turn ∙ ap (λ v. rest_of count p.length
          (and_then v (λ row. and_then (rows_answer (up_to y) (next_row p.number row.value) row.left) (λ more. given (row.value ∷ more))))) s)

      pub row_next : (q : Places) → m ≡ Ok q → p.number + 8 ≤ q.number
      row_next q i =
          let w = row_went q i in
          omega (arith, ap (λ (u : Places). u.number) w.to, record_grows w.value)

      pub going_turn : (q : Places) → m ≡ Ok q → Going (count + 1) q
      going_turn q i =
          let w = row_went q i in
          let r = w.value in
          let n : next_row p.number r ≡ q.number = ap (λ k. p.number + k) (sym (record_numbers r)) ∙ ap (λ (u : Places). u.number) w.to in
          let l : capped (p.length + record_bytes r) ≡ q.length = ap (λ (u : Places). u.length) w.to in
          record {
            eq = one-turn
                ∙ ap (λ v. rest_of count p.length
                (and_then v (λ row. and_then (rows_answer (up_to y) (next_row p.number row.value) row.left) (λ more. given (row.value ∷ more))))) w.is
                ∙ rest_cons count p.length r (rows_answer (up_to y) (next_row p.number r) (here t q))
                ∙ ap (λ k. rest_of (count + 1) k (rows_answer (up_to y) (next_row p.number r) (here t q))) l
                ∙ ap (λ k. rest_of (count + 1) q.length (rows_answer (up_to y) k (here t q))) n;
          }

    module _ (none : length t.numbers ≤ p.number) where
      at-end : rows_of (answer (up_to y) (rows_walk t))
          ≡ rest_of count p.length (answer (up_to y) (checks p.number (end_rules (drop p.element t.elements) (drop p.byte t.bytes)) >> ends []))
      at-end =
          g.eq
          ∙ ap (λ l. rest_of count p.length (rows_answer (up_to y) p.number (table l (drop p.element t.elements) (drop p.byte t.bytes))))
          (drop_of_length-le t.numbers none)
          ∙ ap (rest_of count p.length) (rows_done (up_to y) p.number (drop p.element t.elements) (drop p.byte t.bytes))

      tests : (not (some (drop p.element t.elements)) && not (some (drop p.byte t.bytes))) ≡ (leb (length t.elements) p.element && leb (length t.bytes) p.byte)
      tests = rw (some-drop p.element t.elements, some-drop p.byte t.bytes) refl

      pub going_done : (leb (length t.elements) p.element && leb (length t.bytes) p.byte) ≡ true
          → Ok (record { length = p.length; records = count }) ≡ rows_of (answer (up_to y) (rows_walk t))
      unfolding end_rules
      going_done e = sym (at-end ∙ rw (tests, e) (rw (add-zero p.length, add-zero count, capped_is p.length h.length) refl))

      pub going_left : (leb (length t.elements) p.element && leb (length t.bytes) p.byte) ≡ false
          → Err (refusal TABLE p.number 0) ≡ rows_of (answer (up_to y) (rows_walk t))
      unfolding end_rules
      going_left e = sym (at-end ∙ rw (tests, e) (rw (add-zero p.number) refl))
