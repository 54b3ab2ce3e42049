-- Hopping from header to header stays within an accepted sheet.
use mathlib.Core.Bool.{Bool}
use mathlib.Core.List.{List, [], ◌∷◌}
use mathlib.Core.Path.{◌≡◌, refl, ap, sym, ◌∙◌, subst}
use Prim.Native.Nat.{ℕ, zero, suc, ◌+◌, ◌-◌, ◌≤◌, ◌<◌}
use lib.ListN.{length, drop, length-append, length-drop}
use lib.Seq.{drop-drop, drop_at, drop-append_seam}
use native.Mathlib.Omega.{arith}
use Rattle.layout.specs.Bytes.{All, Bytes, flat, number_in}
use Rattle.layout.specs.Fields.{limit}
use Rattle.layout.specs.Fields.Header as Field
use Rattle.layout.specs.Layout.Encode.{encode_record, encode_head, encode_with, sheet_sum, encode}
use Rattle.layout.specs.Layout.Fine.{FineRecord, FineHead, FineTails}
use Rattle.layout.specs.Layout.Uses.{record_years}
use Rattle.layout.specs.Reading.Hops.{place_in}
use Rattle.layout.specs.Reading.Sheets.{start, sheet_walk}
use Rattle.layout.specs.Sheet.{Record, Sheet}
use Rattle.layout.specs.Walk.{answer, given}
use Rattle.laws.proofs.Base.Walks.{Allowed}
use Rattle.laws.proofs.Encoding.Lengths.{length_record, head-length}
use Rattle.laws.proofs.Encoding.Uses.{sheet_uses}
use Rattle.laws.proofs.Reading.Records.{header_in_lem}
use Rattle.laws.proofs.Reading.Sheets.{sheet-sound}
use Rattle.reading.specs.Found.{Hops}

-- one turn of the loop, after which m are left
pub record Hop (left m at : ℕ) (s : List ℕ) (total : ℕ) : Type 0 where
  pub header : at + 32 ≤ length s
  pub within : at + total ≤ length s
  pub hops : Hops m (at + total) s
  pub place : place_in m (at + total) s ≡ place_in left at s

pub hop_start : (n m at : ℕ) (s : List ℕ) → m ≡ n → Hops n at s → Hops m at s × (place_in m at s ≡ place_in n at s)
hop_start n m at s e h = rw e (h, refl)

pub hop-header : (left at : ℕ) (s : List ℕ) → 0 < left → Hops left at s → at + 32 ≤ length s
unfolding Hops
hop-header zero at s h g = absurd (omega arith)
hop-header (suc n) at s h g = g.0

pub hop-turn : (left at : ℕ) (s : List ℕ) (total : ℕ) → 0 < left → Hops left at s → total ≡ number_in Field.total (drop at s)
    → (m : ℕ) → m ≡ left - 1 → Hop left m at s total
unfolding Hops
hop-turn zero at s total h g is m e = absurd (omega arith)
hop-turn (suc n) at s total h g is m e =
    let down : m ≡ n = omega arith in
    record {
      header = g.0;
      within = subst (λ k. at + k ≤ length s) (sym is) g.1;
      hops = subst (λ k. Hops k (at + total) s) (sym down) (subst (λ k. Hops n (at + k) s) (sym is) g.2);
      place = ap (λ k. place_in k (at + total) s) down ∙ ap (λ k. place_in n (at + k) s) is;
    }

pub hop_done : (left at : ℕ) (s : List ℕ) → left ≤ 0 → place_in left at s ≡ at
hop_done zero at s h = refl
hop_done (suc n) at s h = absurd (omega arith)

-- fine records, one after another from a place on
pub hops-of : (n place : ℕ) (l : List Record) (s : List ℕ) → All FineRecord l → drop place s ≡ flat encode_record l → n ≤ length l → Hops n place s
unfolding Hops
hops-of zero place l s f e h = tt
hops-of (suc n) place [] s f e h = absurd (omega arith)
hops-of (suc n) place (r ∷ l) s f e h =
    let rest : List ℕ = flat encode_record l in
    let total : number_in Field.total (drop place s) ≡ length (encode_record r) =
    ap (λ u. u.total) (header_in_lem r (drop place s) rest f.0 e) ∙ sym (length_record r) in
    let size : length s - place ≡ length (encode_record r) + length rest = sym (length-drop place s) ∙ ap length e ∙ length-append (encode_record r) rest in
    let next : drop (place + length (encode_record r)) s ≡ rest =
    sym (drop-drop (length (encode_record r)) place s) ∙ ap (λ x. drop (length (encode_record r)) x) e ∙ drop-append_seam (encode_record r) rest in
    let more : Hops n (place + length (encode_record r)) s = hops-of n (place + length (encode_record r)) l s f.1 next (omega arith) in (
      omega (arith, size, length_record r),
      omega (arith, size, total, length_record r),
      subst (λ k. Hops n (place + k) s) (sym total) more,
    )

-- what is known of the records of a sheet that is given
pub record Holds (al : ℕ → Bool) (s : List ℕ) (l : List Record) : Type 0 where
  pub short : length s ≤ limit
  pub fine : All FineRecord l
  pub years : Allowed al (flat record_years l)
  pub is : drop start s ≡ flat encode_record l

ends_in : (t : Sheet) → FineHead t.head → FineTails t.head t.tails → drop start (encode t) ≡ flat encode_record t.records
unfolding encode encode_with
ends_in t f g =
    let count = length t.records in
    drop_at (encode_head t.head t.tails (sheet_sum t) count) (flat encode_record t.records) start
    (head-length t.head t.tails (sheet_sum t) count f g)

pub sheet-holds : (al : ℕ → Bool) (s : List ℕ) → Bytes s → (t : Sheet) → answer al (sheet_walk s) ≡ given t → Holds al s t.records
sheet-holds al s b t e =
    let g = sheet-sound al s b t e in
    record {
      short = subst (λ x. length x ≤ limit) g.2 g.0.short;
      fine = g.0.records;
      years = ((sheet_uses al t).0 g.1).2;
      is = ap (λ x. drop start x) (sym g.2) ∙ ends_in t g.0.head g.0.tails;
    }
