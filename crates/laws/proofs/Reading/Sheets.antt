-- A sheet is read exactly as it is written, and which settings read it.
use mathlib.Core.Bool.{Bool, true}
use mathlib.Core.List.{List, ◌++◌}
use mathlib.Core.Path.{◌≡◌, refl, ap, ap₂, sym, ◌∙◌, subst}
use Prim.Native.Nat.{ℕ, ◌^◌, ◌≤◌, ◌<◌}
use borrow.Author.Tests.{leb-true, le-leb, eqb-true, eq-eqb}
use lib.ListN.{length, drop, replicate, length-append}
use lib.Seq.{drop_at}
use native.Mathlib.Omega.{arith}
use Rattle.layout.specs.Bytes.{All, flat, Bytes, number_in, bytes_in, zeros}
use Rattle.layout.specs.Fields.{limit}
use Rattle.layout.specs.Fields.Descriptor
use Rattle.layout.specs.Fields.Passport
use Rattle.layout.specs.Layout.Encode.{encode_record, encode_head, encode_with, sheet_sum, encode}
use Rattle.layout.specs.Layout.Fine.{FineRecord, Fine}
use Rattle.layout.specs.Layout.Uses.{record_years, years}
use Rattle.layout.specs.Reading.Records.{record_walk}
use Rattle.layout.specs.Reading.Sheets.{start, sum_of, size_checks, passport_checks, descriptor_checks, reserved_checks, head_in, tails_in, sheet_walk}
use Rattle.layout.specs.Refusals.{LEFT_OVER}
use Rattle.layout.specs.Shared.Carried.{rest_checks, carried_checks}
use Rattle.layout.specs.Shared.Texts.{tail_of}
use Rattle.layout.specs.Sheet.{Head, Tails, Sheet, Record}
use Rattle.layout.specs.Walk.{Walk, answer, given, Holds, years_of, times, whole}
use Rattle.laws.proofs.Base.Lists.{◌&◌, all_drop}
use Rattle.laws.proofs.Base.Readers.{Fills, Law, times-reads, whole_fills}
use Rattle.laws.proofs.Base.Rows.{row_in, put_row, FitRow, OkIn, row_back, row_on, ok_on, length-row}
use Rattle.laws.proofs.Base.Texts.{zeros_back}
use Rattle.laws.proofs.Base.Walks.{Allowed, given_inj, bind_case, bind_on, checks_case, checks_on}
use Rattle.laws.proofs.Reading.Heads.{columns, in_line, row_of, named, head-is, head-fits}
use Rattle.laws.proofs.Reading.Records.{record_reads}
use Rattle.laws.proofs.Encoding.Sums.{sum_fits}
use Rattle.laws.proofs.Encoding.Uses.{sheet_uses}

-- a length that is let through
pub size_holds : (s : List ℕ) → Holds (size_checks s) → (start ≤ length s) × (length s ≤ limit)
unfolding size_checks
size_holds s c = (leb-true start (length s) c.1.0, leb-true (length s) limit c.0)

records-fill : (al : ℕ → Bool) (n : ℕ)
    → Fills al (whole LEFT_OVER (times n record_walk)) (flat encode_record) (λ l. (length l ≡ n) × All FineRecord l) (flat record_years)
records-fill al n =
    whole_fills al (times n record_walk) (flat encode_record) (λ l. (length l ≡ n) × All FineRecord l) (flat record_years)
    (times-reads al record_walk encode_record FineRecord record_years (record_reads al) n) LEFT_OVER

pub with-is : (t : Sheet) (sum : ℕ) → encode_with t sum ≡ put_row columns (row_of t.head t.tails sum (length t.records)) ++ flat encode_record t.records
unfolding encode_with
with-is t sum = ap (λ l. l ++ flat encode_record t.records) (head-is t.head t.tails sum (length t.records))

-- the sum does not count its own field
pub sum-with : (t : Sheet) (sum : ℕ) → sum_of (encode_with t sum) ≡ sheet_sum t
unfolding encode_with encode_head sheet_sum
sum-with t sum = omega arith

pub encode-sum : (t : Sheet) → sum_of (encode t) ≡ sheet_sum t
unfolding encode
encode-sum t = sum-with t (sheet_sum t)

encode-is : (t : Sheet) → encode t ≡ put_row columns (row_of t.head t.tails (sheet_sum t) (length t.records)) ++ flat encode_record t.records
unfolding encode
encode-is t = with-is t (sheet_sum t)

four_zeros : (l : List ℕ) → length l ≡ 4 → zeros l ≡ true → replicate 4 0 ≡ l
four_zeros l h e = sym (zeros_back l e ∙ ap (λ n. replicate n 0) h)

-- each tail is that of its own field
tail_stands : (s : List ℕ)
    → ((tails_in s).date ≡ tail_of (bytes_in Passport.date s)) × ((tails_in s).designation ≡ tail_of (bytes_in Passport.designation s))
    × ((tails_in s).title ≡ tail_of (bytes_in Passport.title s)) × ((tails_in s).designation2 ≡ tail_of (bytes_in Descriptor.designation s))
tail_stands s = (refl, refl, refl, refl)

tails_stand : (s : List ℕ) → tails_in s ≡ (named (row_in columns s)).tails
tails_stand s =
    let e = tail_stands s in
    λ j. record { date = e.0 j; designation = e.1 j; title = e.2 j; designation2 = e.3 j }

-- the sheet that stands in s, with the records l
abbrev pub sheet_in : List ℕ → List Record → Sheet
sheet_in s l = record { head = head_in s; tails = tails_in s; records = l }

-- what the checks show of the bytes s of a sheet with the records l
sheet-fine : (s : List ℕ) (l : List Record) → Bytes s → Holds (size_checks s) → Holds (passport_checks s) → Holds (rest_checks (bytes_in Passport.rest s))
    → Holds (descriptor_checks s) → Holds (carried_checks (bytes_in Descriptor.carried s)) → Holds (reserved_checks s)
    → length l ≡ number_in Descriptor.count s → All FineRecord l → flat encode_record l ≡ drop start s
    → Fine (sheet_in s l) × (encode (sheet_in s l) ≡ s)
unfolding size_checks passport_checks descriptor_checks reserved_checks encode
sheet-fine s l bs c1 c2 c3 c4 c5 c6 count fine is =
    let t : Sheet = sheet_in s l in
    let n : ℕ = number_in Passport.sum s in
    let room : start ≤ length s = leb-true _ _ c1.1.0 in
    let p = c2.1.1.1.1 in
    let ok : OkIn columns s =
    (refl & refl & refl & refl & p.0 & p.1.0 & refl & p.1.1.0 & refl & refl & refl & c4.1.1.0 & refl & refl & refl & tt) in
    let row = row_back columns in_line s bs room ok in
    let u : FitRow columns (row_in columns s) = row.0 in
    let v = u.1.1.1.1 in
    let w = v.1.1.1.1.1.1.1 in
    let identifier : Passport.identifier_is ≡ number_in Passport.identifier s = sym (eqb-true _ _ c2.0) in
    let own_length : Passport.own_length_is ≡ number_in Passport.own_length s = sym (eqb-true _ _ c2.1.0) in
    let edition : Passport.edition_is ≡ number_in Passport.edition s = sym (eqb-true _ _ c2.1.1.0) in
    let identifier2 : Descriptor.identifier_is ≡ number_in Descriptor.identifier s = sym (eqb-true _ _ c4.0) in
    let own_length2 : Descriptor.own_length_is ≡ number_in Descriptor.own_length s = sym (eqb-true _ _ c4.1.0) in
    let reserved : replicate 4 0 ≡ bytes_in Descriptor.reserved s = four_zeros (bytes_in Descriptor.reserved s) w.1.1.1.0.0 c6.0 in
    let h : Head = head_in s in
    let a : Tails = tails_in s in
    let e = tail_stands s in
    let same : row_of h a n (length l) ≡ row_in columns s =
    λ j. (identifier j & own_length j & edition j & n & (h.date, e.0 j) & (h.designation, e.1 j) & h.scale & (h.title, e.2 j) & h.rest
    & identifier2 j & own_length2 j & (h.designation2, e.3 j) & count j & h.carried & reserved j & tt) in
    let written : encode_with t n ≡ s = with-is t n ∙ ap₂ (λ a b. put_row columns a ++ b) same is ∙ row.1 in
    let sum : sheet_sum t ≡ n = sym (sum-with t n) ∙ ap sum_of written ∙ sym (eqb-true _ _ c2.1.1.1.0) in
    let all : encode t ≡ s = ap (λ k. encode_with t k) sum ∙ written in (
      record {
        short = subst (λ x. length x ≤ limit) (sym all) (leb-true _ _ c1.0);
        head =
            record {
              date = v.0.0;
              designation = v.1.0.0;
              scale = v.1.1.0;
              title = v.1.1.1.0.0;
              rest = v.1.1.1.1.0;
              rest_holds = c3;
              designation2 = w.0.0;
              carried = w.1.1.0;
              carried_holds = c5;
            };
        tails = record { date = v.0.1; designation = v.1.0.1; title = v.1.1.1.0.1; designation2 = w.0.1 };
        count = subst (λ k. k < 256 ^ 4) (sym count) w.1.0;
        records = fine;
      },
      all,
    )

-- what the walk has come past where a sheet t is given: its checks, with the years of what they come upon, and the records that it ends in
pub record Went (al : ℕ → Bool) (s : List ℕ) (t : Sheet) : Type 0 where
  pub size : Holds (size_checks s)
  pub passport : Holds (passport_checks s)
  pub rest : Holds (rest_checks (bytes_in Passport.rest s))
  pub rest_years : Allowed al (years_of (rest_checks (bytes_in Passport.rest s)))
  pub descriptor : Holds (descriptor_checks s)
  pub carried : Holds (carried_checks (bytes_in Descriptor.carried s))
  pub carried_years : Allowed al (years_of (carried_checks (bytes_in Descriptor.carried s)))
  pub reserved : Holds (reserved_checks s)
  pub records : answer al (whole LEFT_OVER (times (number_in Descriptor.count s) record_walk) start (drop start s)) ≡ given t.records
  pub is : t ≡ sheet_in s t.records

pub sheet_went : (al : ℕ → Bool) (s : List ℕ) (t : Sheet) → answer al (sheet_walk s) ≡ given t → Went al s t
unfolding sheet_walk
sheet_went al s t e =
    checks_case al 0 (size_checks s) _ t e λ c1 y1 e1.
    checks_case al 0 (passport_checks s) _ t e1 λ c2 y2 e2.
    checks_case al 0 (rest_checks (bytes_in Passport.rest s)) _ t e2 λ c3 y3 e3.
    checks_case al 0 (descriptor_checks s) _ t e3 λ c4 y4 e4.
    checks_case al 0 (carried_checks (bytes_in Descriptor.carried s)) _ t e4 λ c5 y5 e5.
    checks_case al 0 (reserved_checks s) _ t e5 λ c6 y6 e6.
    bind_case al (whole LEFT_OVER (times (number_in Descriptor.count s) record_walk) start (drop start s)) _ t e6 λ l el g.
    rw (← (given_inj g)) (record {
      size = c1;
      passport = c2;
      rest = c3;
      rest_years = y3;
      descriptor = c4;
      carried = c5;
      carried_years = y5;
      reserved = c6;
      records = el;
      is = refl;
    })

pub sheet-sound : (al : ℕ → Bool) (s : List ℕ) → Bytes s → (t : Sheet) → answer al (sheet_walk s) ≡ given t
    → Fine t × Allowed al (years t) × (encode t ≡ s)
sheet-sound al s bs t e =
    let w = sheet_went al s t e in
    let l = t.records in
    let f = (records-fill al (number_in Descriptor.count s)).sound start (drop start s) (all_drop _ start s bs) l w.records in
    let x = sheet-fine s l bs w.size w.passport w.rest w.descriptor w.carried w.reserved f.0.0 f.0.1 f.2 in
    rw w.is (x.0, (sheet_uses al (sheet_in s l)).1 (w.rest_years, w.carried_years, f.1), x.1)

pub sheet-complete : (al : ℕ → Bool) (t : Sheet) → Fine t → Allowed al (years t) → answer al (sheet_walk (encode t)) ≡ given t
unfolding sheet_walk size_checks passport_checks descriptor_checks reserved_checks
sheet-complete al t f y =
    let s : List ℕ = encode t in
    let sum : ℕ = sheet_sum t in
    let count : ℕ = length t.records in
    let rs : List ℕ = flat encode_record t.records in
    let h = row_of t.head t.tails sum count in
    let ya = (sheet_uses al t).0 y in
    let fits : FitRow columns h = head-fits t.head t.tails sum count f.head f.tails (sum_fits t) f.count in
    let is : s ≡ put_row columns h ++ rs = encode-is t in
    let row : row_in columns s ≡ h = rw is (row_on columns in_line h rs fits) in
    let ok : OkIn columns s = subst (λ u. OkIn columns u) (sym is) (ok_on columns in_line h rs fits) in
    let end : drop start s ≡ rs = ap (λ u. drop start u) is ∙ drop_at (put_row columns h) rs start (length-row columns h fits) in
    let len : start ≤ length s = omega (arith, ap length is, length-append (put_row columns h) rs, length-row columns h fits) in
    let rest : bytes_in Passport.rest s ≡ t.head.rest = ap (λ u. (named u).head.rest) row in
    let carried : bytes_in Descriptor.carried s ≡ t.head.carried = ap (λ u. (named u).head.carried) row in
    let reserved : bytes_in Descriptor.reserved s ≡ replicate 4 0 = ap (λ u. (named u).reserved) row in
    let number : number_in Descriptor.count s ≡ count = ap (λ u. (named u).count) row in
    let size : Holds (size_checks s) = (le-leb _ _ f.short & le-leb _ _ len & tt) in
    let passport : Holds (passport_checks s) =
    (eq-eqb _ _ (ap (λ u. (named u).identifier) row) & eq-eqb _ _ (ap (λ u. (named u).own_length) row) & eq-eqb _ _ (ap (λ u. (named u).edition) row)
    & eq-eqb _ _ (ap (λ u. (named u).sum) row ∙ sym (encode-sum t))
    & ok.1.1.1.1.0 & ok.1.1.1.1.1.0 & ok.1.1.1.1.1.1.1.0 & tt) in
    let descriptor : Holds (descriptor_checks s) =
    (eq-eqb _ _ (ap (λ u. (named u).identifier2) row) & eq-eqb _ _ (ap (λ u. (named u).own_length2) row)
    & ok.1.1.1.1.1.1.1.1.1.1.1.0 & tt) in
    let walk : ℕ → List ℕ → Walk (List Record) = λ n l. whole LEFT_OVER (times n record_walk) start l in
    let read : answer al (walk (number_in Descriptor.count s) (drop start s)) ≡ given t.records =
    ap₂ (λ n l. answer al (walk n l)) number end ∙ (records-fill al count).complete start t.records (refl, f.records) ya.2 in
    checks_on al 0 (size_checks s) _ size tt
    ∙ checks_on al 0 (passport_checks s) _ passport tt
    ∙ checks_on al 0 (rest_checks (bytes_in Passport.rest s)) _
    (subst (λ u. Holds (rest_checks u)) (sym rest) f.head.rest_holds)
    (subst (λ u. Allowed al (years_of (rest_checks u))) (sym rest) ya.0)
    ∙ checks_on al 0 (descriptor_checks s) _ descriptor tt
    ∙ checks_on al 0 (carried_checks (bytes_in Descriptor.carried s)) _
    (subst (λ u. Holds (carried_checks u)) (sym carried) f.head.carried_holds)
    (subst (λ u. Allowed al (years_of (carried_checks u))) (sym carried) ya.1)
    ∙ checks_on al 0 (reserved_checks s) _ (ap zeros reserved, tt) tt
    ∙ bind_on al (walk (number_in Descriptor.count s) (drop start s)) _ t.records read
    ∙ ap (λ a. given (record { head = head_in s; tails = a; records = t.records })) (tails_stand s)
    ∙ ap (λ u. given (record { head = (named u).head; tails = (named u).tails; records = t.records })) row

pub sheet_law : Law sheet_walk encode Fine years
sheet_law = record { sound = sheet-sound; complete = sheet-complete }

-- what a sheet that is given has: its head and its tails as they stand in the bytes, and the records that the walk ends in
pub sheet-ends : (al : ℕ → Bool) (s : List ℕ) (t : Sheet) → answer al (sheet_walk s) ≡ given t
    → (t.head ≡ head_in s) × (answer al (whole LEFT_OVER (times (number_in Descriptor.count s) record_walk) start (drop start s)) ≡ given t.records)
    × (t.tails ≡ tails_in s)
sheet-ends al s t e =
    let w = sheet_went al s t e in
    (ap (λ (u : Sheet). u.head) w.is, w.records, ap (λ (u : Sheet). u.tails) w.is)

-- and these are as many as the descriptor counts, fine, and written as the rest of the bytes
pub records_stand : (al : ℕ → Bool) (s : List ℕ) → Bytes s → (t : Sheet) → answer al (sheet_walk s) ≡ given t
    → (length t.records ≡ number_in Descriptor.count s) × All FineRecord t.records × (flat encode_record t.records ≡ drop start s)
records_stand al s bs t e =
    let f = (records-fill al (number_in Descriptor.count s)).sound start (drop start s) (all_drop _ start s bs) t.records (sheet-ends al s t e).1 in
    (f.0.0, f.0.1, f.2)
