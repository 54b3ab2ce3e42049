-- What pass 1 counts of one record of an accepted sheet, and what is answered of it.
use mathlib.Core.Bool.{Bool}
use mathlib.Core.List.{List, [], ◌∷◌, ◌++◌, append-nil}
use mathlib.Core.Path.{◌≡◌, refl, ap, sym, ◌∙◌, subst}
use Prim.Native.Nat.{ℕ, zero, suc, ◌+◌, ◌-◌, ◌*◌, ◌/◌, ◌≤◌, ◌<◌}
use lib.ListN.{length, drop, length-append, length-drop}
use native.Mathlib.Nat.{add-zero}
use native.Mathlib.Omega.{arith}
use Rattle.reading_check.specs.Tally.{tally, shown}
use Rattle.reading_check.specs.declared.tally.Tally.{Tally}
use Rattle.layout.specs.Answers.Calls.{Placed, and_then, record_of}
use Rattle.layout.specs.Answers.Enums.{result_of, refusal, record_at, found_of}
use Rattle.layout.specs.Bytes.{Bytes, flat}
use Rattle.layout.specs.Fields.{limit}
use Rattle.layout.specs.Layout.Encode.{encode_record}
use Rattle.layout.specs.Layout.Fine.{FineRecord}
use Rattle.layout.specs.Layout.Uses.{record_years}
use Rattle.layout.specs.Reading.Hops.{place_in}
use Rattle.layout.specs.Reading.Records.{header_in, record_walk}
use Rattle.layout.specs.Reading.Sheets.{start, sheet_walk}
use Rattle.layout.specs.Shared.Row.{row_size, part_width, item_width}
use Rattle.layout.specs.Sheet.{Record}
use Rattle.layout.specs.Walk.{Answer, Piece, given, refused, answer, up_to, piece, times}
use Rattle.layout.specs.Writing.Tables.{joined, flatten_record}
use Rattle.layout.specs.declared.RecordAt.{RecordAt}
use Rattle.layout.specs.declared.Refusal.{Refusal}
use Rattle.layout.specs.Refusals.{ASK}
use Rattle.laws.proofs.Base.Walks.{Allowed, allowed_append, answer_bind, given_inj}
use Rattle.laws.proofs.Encoding.Lengths.{length_record}
use Rattle.laws.proofs.Reading.Hops.{At, hop_record, hop-past}
use Rattle.laws.proofs.Reading.Records.{mark_on, header_in_lem, record_reads}
use Rattle.laws.proofs.Writing.Records.{record_numbers}
use Rattle.reading.specs.Found.{AcceptedAt, Hops, record_by}
use Rattle.reading.proofs.Laws.Hop.{Holds, sheet-holds, hops-of}
use Rattle.std.specs.Prelude.{Result, Ok, Err}

-- one record is a list of one
pub one-of-one : (y p : ℕ) (xs : List ℕ) → shown (tally (joined flatten_record)) y (times 1 record_walk p xs) ≡ shown (tally flatten_record) y (record_walk p xs)
one-of-one y p xs =
    ap (λ v. result_of (tally (joined flatten_record)) v) (answer_bind (up_to y) (record_walk p xs) _) ∙ go (answer (up_to y) (record_walk p xs))
  where
    go : (v : Answer (Piece Record))
        → result_of (tally (joined flatten_record)) (and_then v (λ a. given (piece (a.value ∷ []) (a.size + 0)))) ≡ result_of (tally flatten_record) v
    go (given a) = simp (append-nil, add-zero)
    go (refused n q z) = refl

-- the years of one of the records are among those of all
years-of : (al : ℕ → Bool) (place : ℕ) (l : List Record) (n : ℕ) (p : Placed) → record_of place l n ≡ given p → Allowed al (flat record_years l)
    → Allowed al (record_years p.value)
years-of al place [] n p e y = let z : ◌≡◌ {A = ℕ} 0 1 = cc in absurd (omega arith)
years-of al place (r ∷ l) zero p e y =
    subst (λ (u : Placed). Allowed al (record_years u.value)) (given_inj e) ((allowed_append al (record_years r) (flat record_years l)).0 y).0
years-of al place (r ∷ l) (suc n) p e y =
    years-of al (place + length (encode_record r)) l n p e ((allowed_append al (record_years r) (flat record_years l)).0 y).1

-- by its header and its count of numbers a fine record is what is answered
record_by_lem : (place : ℕ) (r : Record) (xs x : List ℕ) → FineRecord r → xs ≡ encode_record r ++ x → (n : ℕ) → n ≡ length (flatten_record r).numbers
    → record_by place n (header_in xs) ≡ record_at (record { place = place; value = r })
record_by_lem place r xs x f e n c =
    let items : (n - (row_size 1 0 + part_width * length r.subobjects)) / item_width ≡ length r.items = omega (arith, c, record_numbers r) in
    let marked = mark_on r.mark r.first.points r.word f.mark f.counted in
    ap (λ h. record_by place n h) (header_in_lem r xs x f e)
    ∙ rw (items, marked.0, marked.2, length_record r) refl

fine-numbers : (u v : Tally) → ◌≡◌ {A = Result Tally Refusal} (Ok u) (Ok v) → u.numbers ≡ v.numbers
fine-numbers u v e = let j : u ≡ v = cc in ap (λ (z : Tally). z.numbers) j

-- a sheet that is accepted, and a number: what is answered
module _ (year : ℕ) (s : List ℕ) (number count : ℕ) (a : AcceptedAt s year count) where
  abbrev pub asked : Result RecordAt Refusal
  asked = found_of (and_then (answer (up_to year) (sheet_walk s)) (λ t. record_of start t.records number))

  asked_is : asked ≡ found_of (record_of start a.sheet.records number)
  asked_is = ap (λ v. found_of (and_then v (λ t. record_of start t.records number))) a.is

  pub past : count ≤ number → Err (refusal ASK 0 0) ≡ asked
  unfolding found_of
  past h = sym (asked_is ∙ ap found_of (hop-past start a.sheet.records number (omega (arith, a.records))))

  -- a number below the count: what the code may do on its way, and what it finds
  module _ (b : Bytes s) (h : number < count) where
    known : Holds (up_to year) s a.sheet.records
    known = sheet-holds (up_to year) s b a.sheet a.is

    pub hops : Hops number start s
    hops = hops-of number start a.sheet.records s known.fine known.is (omega (arith, a.records))

    hop : (r : Record) × At start a.sheet.records s number r
    hop = hop_record start a.sheet.records s number known.fine known.is (omega (arith, a.records))

    room : place_in number start s + 32 ≤ length s
    room =
        let r = hop.0 in
        let o = hop.1 in
        omega (arith, sym (length-drop (place_in number start s) s) ∙ ap length o.is ∙ length-append (encode_record r) o.after, length_record r)

    pub place-within : (at : ℕ) → at ≡ place_in number start s → at ≤ length s
    place-within at p = omega (arith, p, room)

    pub rest-within : (at : ℕ) → at ≡ place_in number start s → (xs : List ℕ) → xs ≡ drop at s → (at + length xs ≤ limit) × (32 ≤ length xs)
    rest-within at p xs x =
        let n : length xs ≡ length s - at = ap length x ∙ length-drop at s in
        (omega (arith, n, p, room, known.short), omega (arith, n, p, room))

    counted : (at : ℕ) → at ≡ place_in number start s → (xs : List ℕ) → xs ≡ drop at s
        → shown (tally flatten_record) year (record_walk at xs) ≡ Ok (tally flatten_record (piece hop.0 (length (encode_record hop.0))))
    counted at p xs x =
        let r = hop.0 in
        let o = hop.1 in
        let is : xs ≡ encode_record r ++ o.after = x ∙ ap (λ k. drop k s) p ∙ o.is in
        let y : Allowed (up_to year) (record_years r) = years-of (up_to year) start a.sheet.records number _ o.asked known.years in
        ap (λ l. shown (tally flatten_record) year (record_walk at l)) is
        ∙ ap (λ v. result_of (tally flatten_record) v) ((record_reads (up_to year)).complete at r o.after o.fine y)

    pub found : (at : ℕ) → at ≡ place_in number start s → (xs : List ℕ) → xs ≡ drop at s
        → (o : Result Tally Refusal) → o ≡ shown (tally flatten_record) year (record_walk at xs) → (z : Tally) → o ≡ Ok z
        → (q : RecordAt) → q ≡ record_by at z.numbers (header_in xs) → Ok q ≡ asked
    unfolding found_of
    found at p xs x o e z i q k =
        let r = hop.0 in
        let w = hop.1 in
        let is : xs ≡ encode_record r ++ w.after = x ∙ ap (λ k. drop k s) p ∙ w.is in
        let same : Ok z ≡ Ok (tally flatten_record (piece r (length (encode_record r)))) = sym i ∙ e ∙ counted at p xs x in
        let n : z.numbers ≡ length (flatten_record r).numbers = fine-numbers z _ same in
        let v : record_by at z.numbers (header_in xs) ≡ record_at (record { place = place_in number start s; value = r }) =
        record_by_lem at r xs w.after w.fine is z.numbers n ∙ ap (λ k. record_at (record { place = k; value = r })) p in
        ap Ok (k ∙ v) ∙ sym (asked_is ∙ ap found_of w.asked)

    -- pass 1 refuses no record of an accepted sheet
    pub never : (at : ℕ) → at ≡ place_in number start s → (xs : List ℕ) → xs ≡ drop at s
        → (o : Result Tally Refusal) → o ≡ shown (tally flatten_record) year (record_walk at xs) → (q : Refusal) → o ≡ Err q → Err q ≡ asked
    never at p xs x o e q i =
        let same : Err q ≡ Ok (tally flatten_record (piece hop.0 (length (encode_record hop.0)))) = sym i ∙ e ∙ counted at p xs x in
        let z : ◌≡◌ {A = ℕ} 0 1 = cc in absurd (omega arith)
