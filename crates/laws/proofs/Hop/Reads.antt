-- What the full reading gives. (02, request 5: "On an accepted sheet the answer equals the one from the full reading.")
use mathlib.Core.Bool.{Bool, true, false, cond}
use mathlib.Core.List.{List, [], ◌∷◌}
use mathlib.Core.Path.{◌≡◌, refl, ap, ap₂, sym, ◌∙◌, subst}
use Prim.Native.Nat.{ℕ, suc, ◌+◌, ◌≤◌}
use borrow.Author.Tests.{le-leb, eq-eqb}
use lib.Dec.{eqb}
use lib.ListN.{length, drop, length-append}
use lib.Seq.{drop-drop, drop-append_seam}
use native.Mathlib.Omega.{arith}
use Rattle.layout.specs.Answers.Calls.{reading}
use Rattle.layout.specs.Bytes.{All, flat, Bytes, number, number_in}
use Rattle.layout.specs.Fields.Descriptor
use Rattle.layout.specs.Fields.Header as Field
use Rattle.layout.specs.Fields.Passport
use Rattle.layout.specs.Hop.{hit, hop_checks, hop_from, start_checks, hop_walk, hop, frame, first_with, frame_code}
use Rattle.layout.specs.Layout.Encode.{encode_record}
use Rattle.layout.specs.Layout.Fine.{FineRecord}
use Rattle.layout.specs.Reading.Records.{Header, header_in}
use Rattle.layout.specs.Reading.Sheets.{start, size_checks, passport_checks, descriptor_checks}
use Rattle.layout.specs.Sheet.{Record, Sheet}
use Rattle.layout.specs.Walk.{ends, given, answer, always, up_to, Holds, years_of}
use Rattle.layout.specs.Years.{is_setting}
use Rattle.laws.proofs.Base.Lists.{◌&◌}
use Rattle.laws.proofs.Base.Parts.{field-take}
use Rattle.laws.proofs.Base.Walks.{cond_back, checks_on, allowed-always}
use Rattle.laws.proofs.Encoding.Lengths.{length_record}
use Rattle.laws.proofs.Reading.Records.{header_in_lem}
use Rattle.laws.proofs.Reading.Sheets.{sheet_went, sheet-ends, records_stand}

hop-records : (wanted seen place : ℕ) (l : List Record) (s : List ℕ) → All FineRecord l → drop place s ≡ flat encode_record l
    → answer always (hop_from wanted (length l) seen place s) ≡ given (first_with wanted seen place l)
unfolding hop_checks hop_from
hop-records wanted seen place [] s f e = refl
hop-records wanted seen place (r ∷ l) s f e =
    let xs : List ℕ = drop place s in
    let h : Header = header_in xs in
    let n : ℕ = length (encode_record r) in
    let head = header_in_lem r xs (flat encode_record l) f.0 e in
    let identifier : h.identifier ≡ Field.identifier_is = ap (λ x. x.identifier) head in
    let total : h.total ≡ n = ap (λ x. x.total) head ∙ sym (length_record r) in
    let code : h.code ≡ r.code = ap (λ x. x.code) head in
    let len : length xs ≡ n + length (flat encode_record l) = ap length e ∙ length-append (encode_record r) (flat encode_record l) in
    let room : Field.size ≤ length xs = omega (arith, len, length_record r) in
    let over : Field.size ≤ h.total = omega (arith, total, length_record r) in
    let inside : h.total ≤ length xs = omega (arith, total, len) in
    let rest : drop (place + n) s ≡ flat encode_record l =
    sym (drop-drop n place s) ∙ ap (λ x. drop n x) e ∙ drop-append_seam (encode_record r) (flat encode_record l) in
    checks_on always place (hop_checks xs) _ (le-leb _ _ room & eq-eqb _ _ identifier & le-leb _ _ over & le-leb _ _ inside & tt) tt
    ∙ ap₂ (λ c k. answer always (cond (eqb c wanted) (ends (hit seen place k)) (hop_from wanted (length l) (suc seen) (place + k) s))) code total
    ∙ go n (hop-records wanted (suc seen) (place + n) l s f.1 rest) (eqb r.code wanted)
  where
    go : (n : ℕ) → answer always (hop_from wanted (length l) (suc seen) (place + n) s) ≡ given (first_with wanted (suc seen) (place + n) l)
        → (b : Bool)
        → answer always (cond b (ends (hit seen place n)) (hop_from wanted (length l) (suc seen) (place + n) s))
        ≡ given (cond b (hit seen place n) (first_with wanted (suc seen) (place + n) l))
    go n k true = refl
    go n k false = k

-- what hopping asks of an accepted sheet
accepted : (year : ℕ) (s : List ℕ) → Bytes s → (u : Sheet) → reading year s ≡ given u
    → Holds (start_checks s) × (length u.records ≡ number_in Descriptor.count s) × All FineRecord u.records
    × (flat encode_record u.records ≡ drop start s)
unfolding reading start_checks size_checks passport_checks descriptor_checks
accepted year s bs u is =
    let al : ℕ → Bool = up_to year in
    let e = (cond_back (is_setting year) _ _ _ _ u is).1 in
    let f = records_stand al s bs u e in
    let w = sheet_went al s u e in
    (w.size.0 & w.size.1.0 & w.passport.0 & w.descriptor.0 & tt, f.0, f.1, f.2)

-- On a sheet that is accepted at some setting hopping gives what the full reading gives: record number, place and total length, or none.
pub hop-reads : (wanted year : ℕ) (s : List ℕ) → Bytes s → (u : Sheet) → reading year s ≡ given u
    → hop wanted s ≡ given (first_with wanted 0 start u.records)
unfolding hop hop_walk
hop-reads wanted year s bs u e =
    let a = accepted year s bs u e in
    checks_on always 0 (start_checks s) _ a.0 (allowed-always (years_of (start_checks s)))
    ∙ subst (λ n. answer always (hop_from wanted n 0 start s) ≡ given (first_with wanted 0 start u.records)) a.1
    (hop-records wanted 0 start u.records s a.2 (sym a.3))

-- So does the frame, whose code is in the head of the reading.
pub frame-reads : (year : ℕ) (s : List ℕ) → Bytes s → (u : Sheet) → reading year s ≡ given u
    → frame s ≡ given (first_with (frame_code u.head) 0 start u.records)
unfolding frame reading
frame-reads year s bs u e =
    let head = (sheet-ends (up_to year) s u (cond_back (is_setting year) _ _ _ _ u e).1).0 in
    let code : frame_code u.head ≡ number_in Passport.frame s =
    ap frame_code head ∙ field-take (Passport.in_rest Passport.frame) (Passport.rest).width (drop (Passport.rest).place s) (omega arith)
    ∙ ap (number (Passport.frame).width) (drop-drop (Passport.in_rest Passport.frame).place (Passport.rest).place s) in
    hop-reads (number_in Passport.frame s) year s bs u e ∙ ap (λ c. given (first_with c 0 start u.records)) (sym code)
