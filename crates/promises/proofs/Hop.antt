-- What the contracts of crate `hop` promise, by themselves and beside those of `reading`. (02, request 5: "That number is the hit's number plus one, or
-- the record count if there is none. On an accepted sheet the answer equals the one from the full reading. On other bytes it says only what the
-- headers passed so far say. Refusals: 1, 2, 3 and 10 as for sheet size, identifiers and total lengths, header by header; contents and sum aren't
-- checked.") `Bytes s` says no more than the type of what is lent (src/lent.rt); src/hops.rt does not ask it.
use mathlib.Core.Bool.{true, false, cond}
use mathlib.Core.List.{List}
use mathlib.Core.Path.{◌≡◌, refl, ap, sym, ◌∙◌, subst}
use Prim.Native.Nat.{ℕ, ◌+◌, ◌≤◌, ◌<◌}
use lib.ListN.{length, drop}
use native.Mathlib.Omega.{arith}
use Rattle.layout.specs.Answers.Calls.{Placed, and_then, reading, record_of, asked}
use Rattle.layout.specs.Answers.Enums.{record_at, found_of, hopped_of}
use Rattle.layout.specs.Bytes.{All, Bytes, number_in, bytes_in}
use Rattle.layout.specs.Fields.Descriptor
use Rattle.layout.specs.Fields.Header as Field
use Rattle.layout.specs.Fields.Passport
use Rattle.layout.specs.Hop.{no_hit, looked_for, misses, hop, frame, first_with, frame_code, passed}
use Rattle.layout.specs.Reading.Hops.{place_in}
use Rattle.layout.specs.Reading.Records.{header_in}
use Rattle.layout.specs.Reading.Sheets.{start}
use Rattle.layout.specs.Sheet.{Sheet}
use Rattle.layout.specs.Walk.{Answer, given, refused}
use Rattle.layout.specs.Years.{one_of}
use Rattle.layout.specs.declared.Hop.{Hop}
use Rattle.layout.specs.declared.RecordAt.{RecordAt}
use Rattle.layout.specs.declared.Refusal.{Refusal}
use Rattle.layout.specs.declared.Sizes.{Sizes}
use Rattle.laws.proofs.Base.Walks.{given_inj, then_back}
use Rattle.laws.proofs.Hop.First.{first-hit, first_only, first_looked}
use Rattle.laws.proofs.Hop.Looked as Looked
use Rattle.laws.proofs.Hop.Only.{SameBytes, SameHeader}
use Rattle.laws.proofs.Hop.Only as Only
use Rattle.laws.proofs.Hop.Reads as Reads
use Rattle.laws.proofs.Hop.Refusals.{refusals}
use Rattle.laws.proofs.Hop.Refusals as Refused
use Rattle.laws.proofs.Hop.Says.{HitSays}
use Rattle.laws.proofs.Hop.Says as Says
use Rattle.laws.proofs.Hop.Within as Within
use Rattle.promises.proofs.Contracts.{Checks, Finds, FirstWith, FrameOf}
use Rattle.reading.proofs.Laws.Seen.{by_accepted}
use Rattle.std.specs.Prelude.{Result, Ok, Err}
use Rattle.layout.specs.declared.Hit.{Hit}
use Rattle.layout.specs.Refusals.{refusal_number}
use Rattle.std.specs.Prelude.{Some, None}

-- what is told is what the definition gives, or the refusal
told : (w : Answer Hop) (h : Hop) → Ok h ≡ hopped_of w → w ≡ given h
unfolding hopped_of
told (given x) h e = cc
told (refused n p y) h e = absurd (let z : ◌≡◌ {A = ℕ} 0 1 = cc in omega arith)

told_refused : (w : Answer Hop) (q : Refusal) → Err q ≡ hopped_of w → w ≡ refused q.reason q.place q.year
unfolding hopped_of
told_refused (given x) q e = absurd (let z : ◌≡◌ {A = ℕ} 0 1 = cc in omega arith)
told_refused (refused n p y) q e = cc

-- `frame_of` answers what `first_with` answers of the code that the passport has, so that what is promised of that call is promised of both.
pub frame-is-first : (s : List ℕ) (r : Result Hop Refusal) → FrameOf s r → FirstWith (number_in Passport.frame s) s r
unfolding frame
frame-is-first s r c = c

-- The count is how many headers are passed up to the first hit, and that is the hit's number plus one, or the record count if there is none.
pub looked : (code : ℕ) (s : List ℕ) (h : Hop) → FirstWith code s (Ok h)
    → (h.looked ≡ length (passed code s)) × (h.looked ≡ looked_for h.hit (number_in Descriptor.count s))
looked code s h c = Looked.looked code s h (told (hop code s) h c)

-- On a sheet that some setting accepts both calls tell of the records of its reading.
pub hop-reads : (code y : ℕ) (s : List ℕ) → Bytes s → (t : Sheet) → reading y s ≡ given t → (r : Result Hop Refusal) → FirstWith code s r
    → r ≡ Ok (first_with code 0 start t.records)
unfolding hopped_of
hop-reads code y s bs t e r c = c ∙ ap hopped_of (Reads.hop-reads code y s bs t e)

pub frame-reads : (y : ℕ) (s : List ℕ) → Bytes s → (t : Sheet) → reading y s ≡ given t → (r : Result Hop Refusal) → FrameOf s r
    → r ≡ Ok (first_with (frame_code t.head) 0 start t.records)
unfolding hopped_of
frame-reads y s bs t e r c = c ∙ ap hopped_of (Reads.frame-reads y s bs t e)

-- what `record_at` answers is a record of the reading
found_back : (w : Answer Placed) (x : RecordAt) → Ok x ≡ found_of w → (p : Placed) × (w ≡ given p) × (x ≡ record_at p)
unfolding found_of
found_back (given p) x e = (p, refl, cc)
found_back (refused n p y) x e = absurd (let z : ◌≡◌ {A = ℕ} 0 1 = cc in omega arith)

-- the reading that some setting accepts, and what hopping tells of it
module _ (code y : ℕ) (s : List ℕ) (bs : Bytes s) (h : Hop) (c : FirstWith code s (Ok h)) where
  abbrev of : Sheet → Hop
  of t = first_with code 0 start t.records

  same : (t : Sheet) → reading y s ≡ given t → h ≡ of t
  same t read = given_inj (sym (told (hop code s) h c) ∙ Reads.hop-reads code y s bs t read)

  -- So where `check` accepts a sheet at some year, the record that is found is what `record_at` answers there of its number: the same place and
  -- total length, and the wanted code.
  pub hop_record : (z : Sizes) → Checks y s (Ok z) → (hit : Hit) → h.hit ≡ Some hit → (q : Result RecordAt Refusal) → Finds y s hit.«record» q
      → (x : RecordAt) × (q ≡ Ok x) × (x.place ≡ hit.place) × (x.total ≡ hit.total) × (x.code ≡ code)
  unfolding asked found_of
  hop_record z a hit f q d =
      let (t, read, sizes) = by_accepted (reading y s) z a in
      let is = same t read in
      let i = first-hit code 0 start t.records hit (ap (λ (v : Hop). v.hit) (sym is) ∙ f) in
      let p : Placed = record { place = hit.place; value = i.value } in
      let number : hit.«record» ≡ i.number = omega (arith, i.is) in
      let at : asked y s hit.«record» ≡ given p =
      ap (λ a. and_then a (λ u. record_of start u.records hit.«record»)) read ∙ ap (record_of start t.records) number ∙ i.asked in (
        record_at p,
        d ∙ ap found_of at,
        refl,
        sym i.total,
        i.code,
      )

  -- Any record with the code that `record_at` answers at some year is that record or comes after it, so that where none is found there is none.
  pub hop-first : (n : ℕ) (x : RecordAt) → Finds y s n (Ok x) → x.code ≡ code
      → (hit : Hit) × (h.hit ≡ Some hit) × (hit.«record» ≤ n)
  unfolding asked
  hop-first n x d e =
      let (p, at, is_at) = found_back (asked y s n) x d in
      let (t, read, Asked-is) = then_back (reading y s) _ p at in
      let has : p.value.code ≡ code = ap (λ (v : RecordAt). v.code) (sym is_at) ∙ e in
      let o = first_only code 0 start t.records n p Asked-is has in
      (o.0, rw (same t read) o.1, omega (arith, o.2))

  -- Without a hit as many headers are looked at as `check` counts records.
  pub hop-count : (z : Sizes) → Checks y s (Ok z) → h.looked ≡ looked_for h.hit z.records
  hop-count z a =
      let (t, read, sizes) = by_accepted (reading y s) z a in
      let all : 0 + length t.records ≡ z.records = omega (arith, ap (λ (v : Sizes). v.records) sizes) in
      subst (λ (v : Hop). v.looked ≡ looked_for v.hit z.records) (sym (same t read))
      (first_looked code 0 start t.records ∙ ap (looked_for (of t).hit) all)

-- A hit lies within the sheet, after passport and descriptor, and has a header at least.
pub hit-within : (code : ℕ) (s : List ℕ) (h : Hop) → FirstWith code s (Ok h) → (x : Hit) → h.hit ≡ Some x
    → (start ≤ x.place) × (Field.size ≤ x.total) × (x.place + x.total ≤ length s)
hit-within code s h c x f = Within.hit-within code s h (told (hop code s) h c) x f

-- On any bytes a hit is one of the counted records. Its header has the identifier, the wanted code and the total length that is told, and as many
-- hops as its number lead to it.
pub hit_says : (code : ℕ) (s : List ℕ) (h : Hop) → FirstWith code s (Ok h) → (x : Hit) → h.hit ≡ Some x → HitSays code s x
hit_says code s h c x f = Says.hit_says code s h (told (hop code s) h c) x f

-- On any bytes no header before the hit has the code, and without a hit none that was looked at.
pub none_before : (code : ℕ) (s : List ℕ) (h : Hop) → FirstWith code s (Ok h) → (k : ℕ) → k < misses h.hit h.looked
    → (header_in (drop (place_in k start s) s)).code ≡ code → ⊥
none_before code s h c k l = Says.none_before code s h (told (hop code s) h c) k l

-- Without a hit the count is the descriptor's.
pub no_hit_lem : (code : ℕ) (s : List ℕ) (h : Hop) → FirstWith code s (Ok h) → h.hit ≡ None → h ≡ no_hit (number_in Descriptor.count s)
no_hit_lem code s h c f = Says.no_hit_lem code s h (told (hop code s) h c) f

-- Two sheets of one length that have the same numbers at 0, 400 and 440, and the same identifier, total length and code in each header passed in one
-- of them, get one answer: no other field of a header is looked at.
pub hop_fields : (code : ℕ) (s t : List ℕ) → length s ≡ length t
    → number_in Passport.identifier s ≡ number_in Passport.identifier t
    → number_in Descriptor.identifier s ≡ number_in Descriptor.identifier t
    → number_in Descriptor.count s ≡ number_in Descriptor.count t
    → All (SameHeader s t) (passed code s)
    → (r q : Result Hop Refusal) → FirstWith code s r → FirstWith code t q → r ≡ q
hop_fields code s t len passport descriptor count same r q c d =
    c ∙ ap hopped_of (Only.hop_fields code s t len passport descriptor count same) ∙ sym d

-- Two sheets of one length that have the same bytes 0 to 3, 400 to 403 and 440 to 443, and the same headers passed in one of them, get one answer.
pub hop_only : (code : ℕ) (s t : List ℕ) → length s ≡ length t
    → bytes_in Passport.identifier s ≡ bytes_in Passport.identifier t
    → bytes_in Descriptor.identifier s ≡ bytes_in Descriptor.identifier t
    → bytes_in Descriptor.count s ≡ bytes_in Descriptor.count t
    → All (SameBytes s t) (passed code s)
    → (r q : Result Hop Refusal) → FirstWith code s r → FirstWith code t q → r ≡ q
hop_only code s t len passport descriptor count same r q c d = c ∙ ap hopped_of (Only.hop_only code s t len passport descriptor count same) ∙ sym d

-- For the frame the same bytes 348 to 351 besides.
pub frame_only : (s t : List ℕ) → length s ≡ length t
    → bytes_in Passport.identifier s ≡ bytes_in Passport.identifier t
    → bytes_in Passport.frame s ≡ bytes_in Passport.frame t
    → bytes_in Descriptor.identifier s ≡ bytes_in Descriptor.identifier t
    → bytes_in Descriptor.count s ≡ bytes_in Descriptor.count t
    → All (SameBytes s t) (passed (number_in Passport.frame s) s)
    → (r q : Result Hop Refusal) → FrameOf s r → FrameOf t q → r ≡ q
frame_only s t len passport code descriptor count same r q c d =
    c ∙ ap hopped_of (Only.frame_only s t len passport code descriptor count same) ∙ sym d

-- A refusal is TOO LONG, SHORT, NOT SXF or LENGTH, and has no year.
pub hop-refusals : (code : ℕ) (s : List ℕ) (q : Refusal) → FirstWith code s (Err q) → (one_of refusals (refusal_number q.reason) ≡ true) × (q.year ≡ 0)
hop-refusals code s q c = Refused.hop-refusals code s q.reason q.place q.year (told_refused (hop code s) q c)
