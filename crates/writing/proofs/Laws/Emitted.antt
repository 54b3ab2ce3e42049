-- Pass 2 of the writer: head, records and sum, one after another, are the sheet.
use mathlib.Core.List.{List, [], ◌∷◌, ◌++◌}
use mathlib.Core.Path.{◌≡◌, refl, sym, ap, ◌∙◌, subst}
use Prim.Native.Nat.{ℕ, suc, ◌+◌, ◌≤◌, ◌<◌, ◌^◌}
use lib.ListN.{length, take, drop, set}
use lib.Seq.{sets, set-set, take-append_seam}
use native.Mathlib.Omega.{arith}
use Rattle.writing_emit.specs.Rows.{Accepted}
use Rattle.fields.proofs.Laws.Put.{sets_append, sets_swap, front_laid}
use Rattle.layout.specs.Bytes.{All, bytes, flat}
use Rattle.layout.specs.Fields.{limit}
use Rattle.layout.specs.Layout.Encode.{encode_head, encode_record, encode_with, sheet_sum, encode}
use Rattle.layout.specs.Layout.Fine.{Fine, FineHead}
use Rattle.layout.specs.Reading.Sheets.{sum_of}
use Rattle.layout.specs.Shared.Tails.{AllClean, clean_tails}
use Rattle.layout.specs.Sheet.{Head, Record, Sheet, Table}
use Rattle.layout.specs.Writing.Tables.{flatten}
use Rattle.laws.proofs.Called.{table_once}
use Rattle.laws.proofs.Encoding.Lengths.{head-length, length-encode}
use Rattle.laws.proofs.Encoding.Sums.{length-with}
use Rattle.laws.proofs.Encoding.Tails.{clean_is}
use Rattle.laws.proofs.Reading.Sheets.{sum-with}
use Rattle.laws.proofs.Writing.Limits.{all_near}
use Rattle.laws.proofs.Writing.Records.{NearRecord}
use Rattle.laws.proofs.Writing.Sizes.{encode-length}
use Rattle.writing_check.specs.declared.tables.Totals.{Totals}
use Rattle.writing_head.specs.Heads.{clean_head}
use Rattle.writing.specs.Ready.{Ready}

-- what is written over bytes just as long
sets_again : (l : List ℕ) (i : ℕ) (a b : List ℕ) → length a ≡ length b → sets (sets l i a) i b ≡ sets l i b
sets_again l i [] [] e = refl
sets_again l i [] (y ∷ b) e = absurd (omega (arith, e))
sets_again l i (x ∷ a) [] e = absurd (omega (arith, e))
sets_again l i (x ∷ a) (y ∷ b) e =
    let below = sets_swap (set l i x) i (suc i) (y ∷ []) a (omega arith) in
    ap (λ o. sets o (suc i) b) (below ∙ ap (λ o. sets o (suc i) a) (set-set l i x y)) ∙ sets_again (set l i y) (suc i) a b (omega (arith, e))

-- some bytes in the middle are written once more
sets-inside : (l p m m' q : List ℕ) (i : ℕ) → length p ≡ i → length m ≡ length m' → sets (sets l 0 (p ++ (m ++ q))) i m' ≡ sets l 0 (p ++ (m' ++ q))
sets-inside l p m m' q i e f =
    let whole : (n : List ℕ) → sets l 0 (p ++ (n ++ q)) ≡ sets (sets (sets l 0 p) i n) (i + length n) q =
    λ n. sets_append l 0 p (n ++ q) ∙ ap (λ (k : ℕ). sets (sets l 0 p) k (n ++ q)) (omega (arith, e)) ∙ sets_append (sets l 0 p) i n q in
    ap (λ o. sets o i m') (whole m)
    ∙ sets_swap (sets (sets l 0 p) i m) i (i + length m) m' q (omega (arith, f))
    ∙ ap (λ o. sets o (i + length m) q) (sets_again (sets l 0 p) i m m' f)
    ∙ ap (λ (k : ℕ). sets (sets (sets l 0 p) i m') k q) (omega (arith, f))
    ∙ sym (whole m')

-- a sheet but for its sum, which stands at 12
with-parts : (u : Sheet) (sum : ℕ) → encode_with u sum ≡ take 12 (encode_with u 0) ++ (bytes 4 sum ++ drop 16 (encode_with u 0))
unfolding encode_with encode_head
with-parts u sum = refl

first_twelve : (u : Sheet) → length (take 12 (encode_with u 0)) ≡ 12
unfolding encode_with encode_head
first_twelve u = refl

sum_put : (l : List ℕ) (u : Sheet) (sum : ℕ) → sets (sets l 0 (encode_with u 0)) 12 (bytes 4 sum) ≡ sets l 0 (encode_with u sum)
sum_put l u sum =
    ap (λ s. sets (sets l 0 s) 12 (bytes 4 sum)) (with-parts u 0)
    ∙ sets-inside l (take 12 (encode_with u 0)) (bytes 4 0) (bytes 4 sum) (drop 16 (encode_with u 0)) 12 (first_twelve u) refl
    ∙ ap (λ s. sets l 0 s) (sym (with-parts u sum))

module _ (h : Head) (t : Table) (z : Totals) (ol : ℕ) (r : Ready h t z ol) where
  abbrev u : Sheet
  u = r.sheet

  head-fine : FineHead h
  head-fine = subst (λ k. FineHead k) r.head r.fine.head

  pub count_fits : z.records < 256 ^ 4
  count_fits = omega (arith, r.fine.count, ap (λ (x : Totals). x.records) r.totals)

  length-is : length (encode u) ≡ 452 + z.length
  length-is =
      let n = encode-length u r.fine.head r.fine.tails (all_near u.records r.fine.records) in
      omega (arith, n, ap (λ (x : Totals). x.length) r.totals)

  pub head_asks : (length h.date < 12) × (length h.designation < 32) × (length h.title < 32) × (length h.rest ≡ 304)
      × (length h.designation2 < 32) × (length h.carried ≡ 4) × (452 ≤ ol)
  head_asks =
      let f = head-fine in
      (f.date.short, f.designation.short, f.title.short, f.rest.0, f.designation2.short, f.carried.0, omega (arith, length-is, r.room))

  pub rows_ask : (l : ℕ) → l ≡ ol → Accepted t.numbers t.elements t.bytes z.records 452 l
  rows_ask l e =
      let n = length-encode u r.fine.head r.fine.tails in
      record {
        rs = u.records;
        near = all_near u.records r.fine.records;
        is = r.records;
        count = sym (ap (λ (x : Totals). x.records) r.totals);
        small = omega (arith, n, r.fine.short);
        room = omega (arith, n, r.room, e);
      }

  pub sum_asks : (l : ℕ) → l ≡ ol → (16 ≤ 452 + z.length) × (452 + z.length ≤ l) × (452 + z.length ≤ limit)
  sum_asks l e = (omega arith, omega (arith, length-is, r.room, e), omega (arith, length-is, r.fine.short))

  pub emitted : (o o₁ o₂ o₃ : List ℕ) → length o ≡ ol → o₁ ≡ sets o 0 (clean_head h z.records)
      → ((rs : List Record) → All NearRecord rs → flatten rs ≡ t → o₂ ≡ sets o₁ 452 (flat encode_record rs))
      → o₃ ≡ sets o₂ 12 (bytes 4 (sum_of (take (452 + z.length) o₂)))
      → (v : Sheet) → Fine v → AllClean v.tails → v.head ≡ h → flatten v.records ≡ t → o₃ ≡ sets o 0 (encode v)
  unfolding encode encode_with
  emitted o o₁ o₂ o₃ l e₁ e₂ e₃ v fine clean head records =
      let same : u ≡ v = table_once u v r.fine fine r.clean clean (r.head ∙ sym head) (r.records ∙ sym records) in
      let count : z.records ≡ length u.records = ap (λ (x : Totals). x.records) r.totals in
      let front : List ℕ = encode_head u.head u.tails 0 (length u.records) in
      let tails : clean_tails u.head ≡ u.tails = ap (λ (x : Sheet). x.tails) (sym (clean_is u r.fine r.clean)) in
      let first : o₁ ≡ sets o 0 front =
      e₁ ∙ ap (λ (k : ℕ). sets o 0 (clean_head h k)) count ∙ ap (λ k. sets o 0 (clean_head k (length u.records))) (sym r.head)
      ∙ ap (λ a. sets o 0 (encode_head u.head a 0 (length u.records))) tails in
      let long = head-length u.head u.tails 0 (length u.records) r.fine.head r.fine.tails in
      let two : o₂ ≡ sets o 0 (encode_with u 0) =
      e₂ u.records (all_near u.records r.fine.records) r.records
      ∙ ap (λ x. sets x 452 (flat encode_record u.records)) first
      ∙ ap (λ (k : ℕ). sets (sets o 0 front) k (flat encode_record u.records)) (omega (arith, long))
      ∙ sym (sets_append o 0 front (flat encode_record u.records)) in
      let size : 452 + z.length ≡ length (encode_with u 0) = sym length-is ∙ length-with u (sheet_sum u) 0 in
      let laid : o₂ ≡ encode_with u 0 ++ drop (length (encode_with u 0)) o =
      two ∙ front_laid (encode_with u 0) o (omega (arith, size, length-is, r.room, l)) in
      let taken : take (452 + z.length) o₂ ≡ encode_with u 0 = rw (size, laid) (take-append_seam (encode_with u 0) (drop (length (encode_with u 0)) o)) in
      let sum : sum_of (take (452 + z.length) o₂) ≡ sheet_sum u = ap sum_of taken ∙ sum-with u 0 in
      e₃
      ∙ ap (λ (k : ℕ). sets o₂ 12 (bytes 4 k)) sum
      ∙ ap (λ x. sets x 12 (bytes 4 (sheet_sum u))) two
      ∙ sum_put o u (sheet_sum u)
      ∙ ap (λ w. sets o 0 (encode w)) same
