-- The entries of an accepted sheet's records, from header to header, are those of its reading.
use mathlib.Core.List.{List, [], ◌∷◌, ◌++◌}
use mathlib.Core.Path.{◌≡◌, refl, ap, sym, ◌∙◌, subst}
use Prim.Native.Nat.{ℕ, zero, suc, ◌+◌, ◌-◌, ◌≤◌, ◌<◌}
use lib.ListN.{length, drop}
use lib.Seq.{drop-drop, drop-append_seam}
use native.Mathlib.Omega.{arith}
use Rattle.index.specs.Hopped.{entry_of, hopped, place_after}
use Rattle.layout.specs.Answers.Calls.{reading}
use Rattle.layout.specs.Bytes.{All, Bytes, flat, number_in}
use Rattle.layout.specs.Fields.Block
use Rattle.layout.specs.Fields.Header as Field
use Rattle.layout.specs.Index.Blocks.{begun}
use Rattle.layout.specs.Index.Selecting.{entries_of}
use Rattle.layout.specs.Layout.Encode.{encode_record}
use Rattle.layout.specs.Layout.Fine.{FineRecord}
use Rattle.layout.specs.Reading.Records.{Header}
use Rattle.layout.specs.Reading.Sheets.{start}
use Rattle.layout.specs.Shared.Reference.{localisation}
use Rattle.layout.specs.Sheet.{Record, Sheet}
use Rattle.layout.specs.Walk.{given, up_to}
use Rattle.layout.specs.declared.BlockKind.TheVariants.{New}
use Rattle.layout.specs.declared.Entry.{Entry}
use Rattle.layout.specs.declared.Sizes.{Sizes}
use Rattle.laws.proofs.Encoding.Lengths.{length_record}
use Rattle.laws.proofs.Index.Sheets.{new_reaches, sheet-entries, entries-of-length}
use Rattle.laws.proofs.Reading.Records.{header_in_lem}
use Rattle.reading.proofs.Laws.Hop.{hops-of, sheet-holds}
use Rattle.reading.proofs.Laws.Seen.{Seen}
use Rattle.reading.specs.Found.{Hops}

pub hopped-length : (n place : ℕ) (s : List ℕ) → length (hopped n place s) ≡ n
unfolding hopped
hopped-length zero place s = refl
hopped-length (suc n) place s = ap suc (hopped-length n (place + number_in Field.total (drop place s)) s)

pub hopped_split : (m n place : ℕ) (s : List ℕ) → hopped (m + n) place s ≡ hopped m place s ++ hopped n (place_after m place s) s
unfolding hopped place_after
hopped_split zero n place s = let z : 0 + n ≡ n = omega arith in rw z refl
hopped_split (suc m) n place s =
    let z : suc m + n ≡ suc (m + n) = omega arith in
    rw z (ap (λ l. entry_of s place ∷ l) (hopped_split m n (place + number_in Field.total (drop place s)) s))

pub hops_split : (m n place : ℕ) (s : List ℕ) → Hops (m + n) place s → Hops m place s × Hops n (place_after m place s) s
unfolding Hops place_after
hops_split zero n place s h = let z : 0 + n ≡ n = omega arith in (tt, subst (λ k. Hops k place s) z h)
hops_split (suc m) n place s h =
    let z : suc m + n ≡ suc (m + n) = omega arith in
    let g : Hops (suc (m + n)) place s = subst (λ k. Hops k place s) z h in
    let r = hops_split m n (place + number_in Field.total (drop place s)) s g.2 in
    ((g.0, g.1, r.0), r.1)

-- the first of so many records, after which m are left
module _ (s : List ℕ) (left m at : ℕ) (h : 0 < left) (one : m ≡ left - 1) where
  down : left ≡ suc m
  down = omega arith

  pub record Hop (e : Entry) (after : ℕ) : Type 0 where
    pub rest : hopped left at s ≡ e ∷ hopped m after s
    pub hops : Hops m after s
    pub place : place_after m after s ≡ place_after left at s

  pub hop-within : Hops left at s → (at + Field.size ≤ length s) × (at + number_in Field.total (drop at s) ≤ length s)
  unfolding Hops
  hop-within g = let f = subst (λ k. Hops k at s) down g in (f.0, f.1)

  pub hop_on : Hops left at s → (e : Entry) → e ≡ entry_of s at → (after : ℕ) → after ≡ at + number_in Field.total (drop at s) → Hop e after
  unfolding Hops hopped place_after
  hop_on g e ee after ea =
      let f = subst (λ k. Hops k at s) down g in
      record {
        rest = ap (λ k. hopped k at s) down ∙ rw (ee, ea) refl;
        hops = subst (λ k. Hops m k s) (sym ea) f.2;
        place = ap (λ k. place_after m k s) ea ∙ sym (ap (λ k. place_after k at s) down);
      }

pub hopped-none : (s : List ℕ) (left at : ℕ) → left ≤ 0 → hopped left at s ≡ []
unfolding hopped
hopped-none s left at h = let z : left ≡ 0 = omega arith in ap (λ k. hopped k at s) z

pub after-all : (s : List ℕ) (left at : ℕ) → left ≤ 0 → place_after left at s ≡ at
unfolding place_after
after-all s left at h = let z : left ≡ 0 = omega arith in ap (λ k. place_after k at s) z

-- fine records, one after another from a place on
hopped-is : (place : ℕ) (l : List Record) (s : List ℕ) → All FineRecord l → drop place s ≡ flat encode_record l → hopped (length l) place s ≡ entries_of place l
unfolding hopped
hopped-is place [] s f e = refl
hopped-is place (r ∷ l) s f e =
    let rest : List ℕ = flat encode_record l in
    let header = header_in_lem r (drop place s) rest f.0 e in
    let total : number_in Field.total (drop place s) ≡ length (encode_record r) = ap (λ (h : Header). h.total) header ∙ sym (length_record r) in
    let next : drop (place + length (encode_record r)) s ≡ rest =
    sym (drop-drop (length (encode_record r)) place s) ∙ ap (λ x. drop (length (encode_record r)) x) e ∙ drop-append_seam (encode_record r) rest in
    let here : entry_of s place ≡ record { code = r.code; place = place; localisation = localisation r.reference } =
    ap (λ (h : Header). record { code = h.code; place = place; localisation = localisation h.reference }) header in
    ap (λ k. entry_of s place ∷ hopped (length l) (place + k) s) total
    ∙ rw (here, hopped-is (place + length (encode_record r)) l s f.1 next) refl

-- what a check's `Accepted` says of the records
pub record Read (y : ℕ) (s : List ℕ) (count : ℕ) : Type 0 where
  pub sheet : Sheet
  pub is : reading y s ≡ given sheet
  pub hops : Hops count start s
  pub few : begun (Block.full New) count ≤ 65536
  pub entries : hopped count start s ≡ entries_of start sheet.records

pub read : (y : ℕ) (s : List ℕ) (z : Sizes) → Bytes s → Seen y s z → Read y s z.records
read y s z bs g =
    let l = g.sheet.records in
    let holds = sheet-holds (up_to y) s bs g.sheet g.at in
    let count : z.records ≡ length l = ap (λ (v : Sizes). v.records) g.sizes in
    rw count
    (record {
      sheet = g.sheet;
      is = g.is;
      hops = hops-of (length l) start l s holds.fine holds.is (omega arith);
      few = rw (← (entries-of-length start l)) (sheet-entries New y s g.sheet bs (new_reaches y s g.sheet bs g.is) g.is).blocks;
      entries = hopped-is start l s holds.fine holds.is;
    })
