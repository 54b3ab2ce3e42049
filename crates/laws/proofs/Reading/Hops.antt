-- Hopping from header to header finds the records of a sheet.
use mathlib.Core.List.{List, [], ◌∷◌, ◌++◌}
use mathlib.Core.Path.{◌≡◌, refl, ap, sym, ◌∙◌, subst}
use Prim.Native.Nat.{ℕ, zero, suc, ◌+◌, ◌≤◌, ◌<◌}
use lib.ListN.{length, drop}
use lib.Seq.{drop-drop, drop-append_seam}
use native.Mathlib.Omega.{arith}
use Rattle.layout.specs.Answers.Calls.{Placed, record_of}
use Rattle.layout.specs.Bytes.{All, flat, number_in}
use Rattle.layout.specs.Fields.Header
use Rattle.layout.specs.Layout.Encode.{encode_record}
use Rattle.layout.specs.Layout.Fine.{FineRecord}
use Rattle.layout.specs.Reading.Hops.{place_in}
use Rattle.layout.specs.Refusals.{ASK}
use Rattle.layout.specs.Sheet.{Record}
use Rattle.layout.specs.Walk.{given, refused}
use Rattle.laws.proofs.Encoding.Lengths.{length_record}
use Rattle.laws.proofs.Reading.Records.{header_in_lem}

-- the total length that stands in a fine record's header is the record's
total-is : (r : Record) (xs x : List ℕ) → FineRecord r → xs ≡ encode_record r ++ x → number_in Header.total xs ≡ length (encode_record r)
total-is r xs x f e = ap (λ h. h.total) (header_in_lem r xs x f e) ∙ sym (length_record r)

-- r is the record of a number among those that start at a place of s
pub record At (place : ℕ) (l : List Record) (s : List ℕ) (n : ℕ) (r : Record) : Type 0 where
  pub fine : FineRecord r
  pub asked : record_of place l n ≡ given (record { place = place_in n place s; value = r })
  pub after : List ℕ
  pub is : drop (place_in n place s) s ≡ encode_record r ++ after

pub hop_record : (place : ℕ) (l : List Record) (s : List ℕ) (n : ℕ) → All FineRecord l → drop place s ≡ flat encode_record l → n < length l
    → (r : Record) × At place l s n r
hop_record place [] s n f e h = absurd (omega arith)
hop_record place (r ∷ l) s zero f e h = (r, record { fine = f.0; asked = refl; after = flat encode_record l; is = e })
hop_record place (r ∷ l) s (suc n) f e h =
    let len : number_in Header.total (drop place s) ≡ length (encode_record r) = total-is r (drop place s) (flat encode_record l) f.0 e in
    let next : ℕ = place + length (encode_record r) in
    let rest : drop next s ≡ flat encode_record l =
    sym (drop-drop (length (encode_record r)) place s) ∙ ap (λ x. drop (length (encode_record r)) x) e
    ∙ drop-append_seam (encode_record r) (flat encode_record l) in
    let same : place_in (suc n) place s ≡ place_in n next s = ap (λ k. place_in n (place + k) s) len in
    let found = hop_record next l s n f.1 rest (omega arith) in (
      found.0,
      record {
        fine = found.1.fine;
        asked = found.1.asked ∙ ap (λ k. given (record { place = k; value = found.0 })) (sym same);
        after = found.1.after;
        is = subst (λ k. drop k s ≡ encode_record found.0 ++ found.1.after) (sym same) found.1.is;
      },
    )

pub hop-past : (place : ℕ) (l : List Record) (n : ℕ) → length l ≤ n → record_of place l n ≡ refused ASK 0 0
hop-past place [] n h = refl
hop-past place (r ∷ l) zero h = absurd (omega arith)
hop-past place (r ∷ l) (suc n) h = hop-past (place + length (encode_record r)) l n (omega arith)
