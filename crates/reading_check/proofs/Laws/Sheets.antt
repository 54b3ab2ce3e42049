-- The ways out of a sheet, over plain variables.
use mathlib.Core.Bool.{true, false}
use mathlib.Core.List.{List, [], ◌++◌}
use mathlib.Core.Path.{◌≡◌, refl, sym, ap, ◌∙◌}
use Prim.Native.Nat.{ℕ, ◌+◌, ◌-◌, ◌^◌, ◌≤◌, ◌<◌}
use borrow.Author.Tests.{le-leb, lt-leb}
use lib.Dec.{leb}
use lib.ListN.{length, take, drop, length-drop}
use native.Mathlib.Nat.{add-zero}
use native.Mathlib.Omega.{arith}
use Rattle.reading_check.specs.Sheets.{Headed, records_in}
use Rattle.reading_head.specs.Checks.{head_checks}
use Rattle.reading_check.specs.Tally.{tally, tally_of, shown}
use Rattle.reading_check.specs.declared.tally.Tally.{Tally}
use Rattle.fields.proofs.Laws.Chain.{refused_by, step_given, step_holds, step_stop}
use Rattle.fields.proofs.Laws.Lists.{rest_is}
use Rattle.fields.specs.Checks.{checked}
use Rattle.layout.specs.Answers.Enums.{result_of, refusal, checked_of}
use Rattle.layout.specs.Bytes.{Bytes, number, bytes_in}
use Rattle.layout.specs.Fields.{limit}
use Rattle.layout.specs.Fields.Descriptor
use Rattle.layout.specs.Fields.Passport
use Rattle.layout.specs.Layout.Encode.{encode_head, encode_with, sheet_sum, encode}
use Rattle.layout.specs.Reading.Records.{record_walk}
use Rattle.layout.specs.Reading.Sheets.{size_checks, passport_checks, descriptor_checks, reserved_checks, sheet_walk}
use Rattle.layout.specs.Refusals.{LEFT_OVER}
use Rattle.layout.specs.Shared.Carried.{rest_checks, carried_checks}
use Rattle.layout.specs.Sheet.{Record, Sheet}
use Rattle.layout.specs.Walk.{Walk, ends, Answer, given, refused, answer, up_to, checks, ◌>>=◌, ◌>>◌, Piece, times, whole}
use Rattle.layout.specs.Writing.Tables.{joined, flatten_record, flatten}
use Rattle.layout.specs.declared.Refusal.{Refusal}
use Rattle.laws.proofs.Base.Numbers.{number-bytes}
use Rattle.laws.proofs.Base.Readers.{times-length}
use Rattle.laws.proofs.Base.Walks.{bind_on, bind_refused, checks_append}
use Rattle.laws.proofs.Encoding.Sums.{sum_fits}
use Rattle.laws.proofs.Reading.Sheets.{size_holds, sheet_in, sheet-sound}
use Rattle.std.specs.Prelude.{Result, Ok, Err}

-- what an answer is, by what the code made of it

counted_stop : {A : Type 0} (f : A → Tally) (v : Answer A) (q : Refusal) → result_of f v ≡ Err q → v ≡ refused_by q
counted_stop f (given a) q e = let z : ◌≡◌ {A = ℕ} 0 1 = cc in absurd (omega arith)
counted_stop f (refused n p y) q e = let i : refusal n p y ≡ q = cc in rw (← i) refl

counted-fine : {A : Type 0} (f : A → Tally) (v : Answer A) (z : Tally) → result_of f v ≡ Ok z → (a : A) × (v ≡ given a) × (f a ≡ z)
counted-fine f (given a) z e = (a, refl, cc)
counted-fine f (refused n p y) z e = let w : ◌≡◌ {A = ℕ} 0 1 = cc in absurd (omega arith)

-- the sum that an accepted sheet states is its own
sum_is : (y : ℕ) (s : List ℕ) → Bytes s → (t : Sheet) → answer (up_to y) (sheet_walk s) ≡ given t → number 4 (drop 12 s) ≡ sheet_sum t
unfolding encode encode_with encode_head
sum_is y s b t e =
    let g = sheet-sound (up_to y) s b t e in
    let f : sheet_sum t < 256 ^ 4 = sum_fits t in
    ap (λ l. number 4 (drop 12 l)) (sym g.2) ∙ number-bytes 4 (sheet_sum t) [] f

accepted : (t : Sheet) (size : ℕ) (z : Tally) → tally_of size (joined flatten_record t.records) ≡ z → (n : ℕ) → length t.records ≡ n
    → (sum : ℕ) → sum ≡ sheet_sum t
    → Ok (record { sum = sum; records = n; numbers = z.numbers; elements = z.elements; bytes = z.bytes }) ≡ checked_of (given t)
unfolding checked_of flatten
accepted t size z e n c sum f = rw (← e, ← c, f) refl

abbrev tail : List ℕ → Walk Sheet
tail s = whole LEFT_OVER (times (number 4 (drop 440 s)) record_walk) 452 (drop 452 s) >>= λ l. ends (sheet_in s l)

module _ (s : List ℕ) (l : length s ≤ limit) (m : 452 ≤ length s) where
  halves : sheet_walk s ≡ (checks 0 (head_checks s) >> tail s)
  unfolding sheet_walk size_checks
  halves =
      let A = passport_checks s in
      let B = rest_checks (bytes_in Passport.rest s) in
      let C = descriptor_checks s in
      let D = carried_checks (bytes_in Descriptor.carried s) in
      let E = reserved_checks s in
      rw (le-leb (length s) limit l, le-leb 452 (length s) m)
      (sym (checks_append 0 A (B ++ (C ++ (D ++ E))) (tail s)
      ∙ ap (λ w. checks 0 A >> w) (checks_append 0 B (C ++ (D ++ E)) (tail s)
      ∙ ap (λ w. checks 0 B >> w) (checks_append 0 C (D ++ E) (tail s)
      ∙ ap (λ w. checks 0 C >> w) (checks_append 0 D E (tail s))))))

  module _ (y : ℕ) (r : Result (Unit {0}) Refusal) (n : r ≡ checked y 0 (head_checks s)) where
    pub head_on : r ≡ (Ok tt) → Headed s y
    head_on e = record { short = l; long = m; head = step_given y 0 (head_checks s) r n tt e }

    pub head-stop : (q : Refusal) → r ≡ Err q → Err q ≡ checked_of (answer (up_to y) (sheet_walk s))
    unfolding checked_of
    head-stop q e = sym (ap checked_of (ap (answer (up_to y)) halves ∙ step_stop y 0 (head_checks s) r n (tail s) q e))

-- the step of the checks on the sheet's length
module _ (y : ℕ) (s : List ℕ) (r : Result (Unit {0}) Refusal) (n : r ≡ checked y 0 (size_checks s)) where
  pub size_on : r ≡ (Ok tt) → (452 ≤ length s) × (length s ≤ limit)
  size_on e = size_holds s (step_holds y 0 (size_checks s) r n tt e)

  pub size-stop : (q : Refusal) → r ≡ Err q → Err q ≡ checked_of (answer (up_to y) (sheet_walk s))
  unfolding sheet_walk checked_of
  size-stop q e = sym (ap checked_of (step_stop y 0 (size_checks s) r n _ q e))

-- what walking the records of the slice from 452 on counts
pub walked_here : (y : ℕ) (s : List ℕ) (n : ℕ) → n ≡ number 4 (drop 440 s) → (k : Result Tally Refusal)
    → k ≡ shown (tally (joined flatten_record)) y (times n record_walk 452 (take (length s - 452) (drop 452 s)))
    → k ≡ shown (tally (joined flatten_record)) y (records_in s)
walked_here y s n c k means = rw (rest_is, c) at means

module _ (y : ℕ) (s : List ℕ) (H : Headed s y) (k : Result Tally Refusal) (here : k ≡ shown (tally (joined flatten_record)) y (records_in s)) where
  abbrev records : Walk (Piece (List Record))
  records = records_in s

  on : answer (up_to y) (sheet_walk s) ≡ answer (up_to y) (tail s)
  on = ap (answer (up_to y)) (halves s H.short H.long) ∙ bind_on (up_to y) (checks 0 (head_checks s)) (λ _. tail s) tt H.head

  whole-refused : (q : Refusal) → answer (up_to y) (whole LEFT_OVER (times (number 4 (drop 440 s)) record_walk) 452 (drop 452 s)) ≡ refused_by q
      → Err q ≡ checked_of (answer (up_to y) (sheet_walk s))
  unfolding checked_of
  whole-refused q e =
      let a : answer (up_to y) (sheet_walk s) ≡ refused_by q = on
      ∙ bind_refused (up_to y) (whole LEFT_OVER (times (number 4 (drop 440 s)) record_walk) 452 (drop 452 s)) _ e in
      sym (ap checked_of a)

  pub sheet-stop : (q : Refusal) → k ≡ Err q → Err q ≡ checked_of (answer (up_to y) (sheet_walk s))
  sheet-stop q e = whole-refused q (bind_refused (up_to y) records _ (counted_stop (tally (joined flatten_record)) (answer (up_to y) records) q (sym here ∙ e)))

  module _ (z : Tally) (e : k ≡ Ok z) where
    pub sheet-left : z.used < length s - 452 → Err (refusal LEFT_OVER (452 + z.used) 0) ≡ checked_of (answer (up_to y) (sheet_walk s))
    sheet-left h =
        let v = counted-fine (tally (joined flatten_record)) (answer (up_to y) records) z (sym here ∙ e) in
        let u : v.0.size ≡ z.used = ap (λ (t : Tally). t.used) v.2 in
        let t : leb (length (drop 452 s)) v.0.size ≡ false = lt-leb (length (drop 452 s)) v.0.size (omega (arith, u, length-drop 452 s)) in
        whole-refused (refusal LEFT_OVER (452 + z.used) 0) (bind_on (up_to y) records _ v.0 v.1 ∙ rw (t, u) (simp add-zero))

    pub sheet-fine : Bytes s → length s - 452 ≤ z.used → (sum : ℕ) → sum ≡ number 4 (drop 12 s) → (n : ℕ) → n ≡ number 4 (drop 440 s)
        → Ok (record { sum = sum; records = n; numbers = z.numbers; elements = z.elements; bytes = z.bytes }) ≡ checked_of
        (answer (up_to y) (sheet_walk s))
    sheet-fine b h sum f n c =
        let v = counted-fine (tally (joined flatten_record)) (answer (up_to y) records) z (sym here ∙ e) in
        let u : v.0.size ≡ z.used = ap (λ (t : Tally). t.used) v.2 in
        let t : leb (length (drop 452 s)) v.0.size ≡ true = le-leb (length (drop 452 s)) v.0.size (omega (arith, u, length-drop 452 s)) in
        let w : answer (up_to y) (whole LEFT_OVER (times (number 4 (drop 440 s)) record_walk) 452 (drop 452 s)) ≡ given v.0.value =
        bind_on (up_to y) records _ v.0 v.1 ∙ rw t refl in
        let sheet : Sheet = sheet_in s v.0.value in
        let a : answer (up_to y) (sheet_walk s) ≡ given sheet = on
        ∙ bind_on (up_to y) (whole LEFT_OVER (times (number 4 (drop 440 s)) record_walk) 452 (drop 452 s)) _ v.0.value w in
        let count : length v.0.value ≡ n = times-length (up_to y) record_walk (number 4 (drop 440 s)) 452 (drop 452 s) v.0 v.1 ∙ sym c in
        let same : sum ≡ sheet_sum sheet = f ∙ sum_is y s b sheet a in
        accepted sheet v.0.size z v.2 n count sum same ∙ sym (ap checked_of a)
