-- A record is taken from a table exactly as it is flattened.
use mathlib.Core.Bool.{Bool, true, false, ◌&&◌, cond}
use mathlib.Core.List.{List, [], ◌∷◌, ◌++◌}
use mathlib.Core.Logic.{◌↔◌}
use mathlib.Core.Path.{◌≡◌, refl, sym, ap, ◌∙◌}
use Prim.Native.Nat.{ℕ, zero, suc, ◌+◌, ◌*◌, ◌/◌, ◌%◌, ◌^◌, ◌≤◌, ◌<◌}
use borrow.Author.Tests.{leb-true, le-leb, ltb-true, lt-ltb, eqb-true}
use lib.Dec.{leb, ltb, eqb}
use lib.ListN.{length, drop, get_or, length-append, length-drop}
use lib.Seq.{drop-cons}
use native.Mathlib.Nat.{add-zero}
use native.Mathlib.Omega.{arith}
use Rattle.layout.specs.Bytes.{All, Bytes, flat, agree, some}
use Rattle.layout.specs.Fields.Header
use Rattle.layout.specs.Layout.Encode.{encode_record}
use Rattle.layout.specs.Layout.Fine.{Fits, FineItem, FinePart, FineSubobject, FineRecord}
use Rattle.layout.specs.Layout.Uses.{item_years, record_years}
use Rattle.layout.specs.Shared.Mark.{marked_points, has_mark, good_first}
use Rattle.layout.specs.Shared.Reference.{reference_checks, semantics, byte20, byte21, byte22}
use Rattle.layout.specs.Shared.Row
use Rattle.layout.specs.Sheet.{Reference, Record, Table}
use Rattle.layout.specs.Walk.{given, answer, ◌>>◌, Holds, years_of}
use Rattle.layout.specs.Writing.Rows.{RecordRow, record_from, row_in, room_rules, name_rules, count_rules, row_rules, take_inside, row_walk}
use Rattle.layout.specs.Writing.Tables.{table, join, Taken, taken, flatten_header, flatten_record}
use Rattle.laws.proofs.Base.Chains.{Hold, four_case, four_on}
use Rattle.laws.proofs.Base.Lists.{◌&◌, both_true}
use Rattle.laws.proofs.Base.Walks.{Allowed}
use Rattle.laws.proofs.Encoding.Uses.{mark_years, record_uses}
use Rattle.laws.proofs.Writing.Inside.{flatten_inside, inside-numbers, Inside, inside-sound, inside-complete}
use Rattle.laws.proofs.Writing.Parts.{FineFirst}
use Rattle.laws.proofs.Writing.Takes.{Takes, Took, table_path, join_assoc}

-- a fine record but for its length, which only TOO LONG bounds
pub record NearRecord (r : Record) : Type 0 where
  pub code : Fits Header.code r.code
  pub in_group : Fits Header.in_group r.in_group
  pub group : Fits Header.group r.group
  pub byte20 : Fits Header.byte20 r.reference.byte20
  pub byte21 : Fits Header.byte21 r.reference.byte21
  pub byte22 : Fits Header.byte22 r.reference.byte22
  pub generalisation : Fits Header.generalisation r.generalisation
  pub word : Fits Header.word r.word
  pub count : Fits Header.subobjects (length r.subobjects)
  pub reference : Holds (reference_checks (Header.byte20).place (Header.byte21).place (Header.byte22).place r.reference)
  pub mark : r.mark ≤ 1
  pub counted : good_first r.mark r.word r.first.points ≡ true
  pub first : FinePart r.reference r.first
  pub subobjects : All (FineSubobject r.reference (has_mark r.mark)) r.subobjects
  pub flagged : agree (semantics r.reference) (some r.items) ≡ true
  pub items : All FineItem r.items

pub near-fine : (r : Record) → NearRecord r → Fits Header.total (length (encode_record r)) → FineRecord r
near-fine r n h = record {
  total = h;
  code = n.code;
  in_group = n.in_group;
  group = n.group;
  byte20 = n.byte20;
  byte21 = n.byte21;
  byte22 = n.byte22;
  generalisation = n.generalisation;
  word = n.word;
  count = n.count;
  reference = n.reference;
  mark = n.mark;
  counted = n.counted;
  first = n.first;
  subobjects = n.subobjects;
  flagged = n.flagged;
  items = n.items;
}

pub fine-near : (r : Record) → FineRecord r → NearRecord r
fine-near r f = record {
  code = f.code;
  in_group = f.in_group;
  group = f.group;
  byte20 = f.byte20;
  byte21 = f.byte21;
  byte22 = f.byte22;
  generalisation = f.generalisation;
  word = f.word;
  count = f.count;
  reference = f.reference;
  mark = f.mark;
  counted = f.counted;
  first = f.first;
  subobjects = f.subobjects;
  flagged = f.flagged;
  items = f.items;
}

-- a first count under the mark stands in the word, so it fits as the word does
count_fits : (mark word points : ℕ) → word < 256 ^ 4 → good_first mark word points ≡ true → points < 256 ^ 4
count_fits mark word points h e = go (has_mark mark) e
  where
    go : (b : Bool) → cond b (eqb word points) (ltb points marked_points) ≡ true → points < 256 ^ 4
    go true e = let q : word ≡ points = eqb-true word points e in omega arith
    go false e = let q : points < marked_points = ltb-true points marked_points e in omega arith

pub near_first : (r : Record) → NearRecord r → FineFirst r.reference r.mark r.word r.first
near_first r n = record { points = count_fits r.mark r.word r.first.points n.word n.counted; counted = n.counted; part = n.first }

-- the reference bytes as one number
three : (a b c : ℕ) → a < 256 → b < 256 → c < 256
    → let n = a + 256 * (b + 256 * (c + 256 * 0)) in (n % 256 ≡ a) × (n / 256 % 256 ≡ b) × (n / 65536 % 256 ≡ c)
three a b c la lb lc =
    let n = a + 256 * (b + 256 * (c + 256 * 0)) in
    let h1 : n / 256 ≡ b + 256 * c = omega arith in
    let h2 : n / 65536 ≡ c = omega arith in
    (omega arith, rw h1 (omega arith), rw h2 (omega arith))

pub bytes-of-number : (r : Reference) → r.byte20 < 256 → r.byte21 < 256 → r.byte22 < 256 → Row.reference_of (Row.reference_number r) ≡ r
bytes-of-number r l20 l21 l22 =
    let e = three r.byte20 r.byte21 r.byte22 l20 l21 l22 in
    λ j. record { byte20 = e.0 j; byte21 = e.1 j; byte22 = e.2 j }

number-of-bytes : (n : ℕ) → n < 16777216 → Row.reference_number (Row.reference_of n) ≡ n
number-of-bytes n h = omega arith

-- the checks on the reference bytes ask the same at any places, and come upon the same years
reference-holds : (a b c d e f : ℕ) (r : Reference) → Holds (reference_checks a b c r) → Holds (reference_checks d e f r)
unfolding reference_checks byte20 byte21 byte22
reference-holds a b c d e f r h = h

reference-years : (a b c d e f : ℕ) (r : Reference) → years_of (reference_checks a b c r) ≡ years_of (reference_checks d e f r)
unfolding reference_checks byte20 byte21 byte22
reference-years a b c d e f r = refl

-- a record's years are allowed where those of its reference bytes, its mark and its items are
record_allowed : (al : ℕ → Bool) (r : Record)
    → Allowed al (record_years r)
    ↔ (Allowed al (years_of (reference_checks 3 3 3 r.reference)) × Allowed al (mark_years (has_mark r.mark)) × Allowed al (flat item_years r.items))
record_allowed al r = rw (reference-years 3 3 3 20 21 22 r.reference) (record_uses al r)

-- n numbers of a list, one by one from the index k on
abbrev listed : ℕ → ℕ → List ℕ → List ℕ
listed k zero l = []
listed k (suc n) l = get_or l k 0 ∷ listed (suc k) n l

-- they and those after them are the list from k on
listed_on : (k n : ℕ) (l : List ℕ) → k + n ≤ length l → listed k n l ++ drop (k + n) l ≡ drop k l
listed_on k zero l h = ap (λ i. drop i l) (add-zero k)
listed_on k (suc n) l h =
    let next : suc k + n ≡ k + suc n = omega arith in
    ap (λ r. get_or l k 0 ∷ r) (ap (λ i. listed (suc k) n l ++ drop i l) (sym next) ∙ listed_on (suc k) n l (omega arith))
    ∙ sym (drop-cons l k 0 (omega arith))

some-length : {A : Type 0} (l : List A) → leb 1 (length l) ≡ some l
some-length [] = refl
some-length (a ∷ l) = le-leb 1 (suc (length l)) (omega arith)

-- the row that a record has, and its table read as one
abbrev row_of : Record → RecordRow
row_of r = record {
  code = r.code;
  in_group = r.in_group;
  group = r.group;
  reference = Row.reference_number r.reference;
  reference_bytes = r.reference;
  generalisation = r.generalisation;
  word = r.word;
  parts = 1 + length r.subobjects;
  items = length r.items;
  mark = r.mark;
}

row_at : (r : Record) (rest : Table) → NearRecord r → row_in (join (flatten_record r) rest).numbers ≡ row_of r
unfolding flatten_record flatten_header
row_at r rest n = λ j. record {
  code = r.code;
  in_group = r.in_group;
  group = r.group;
  reference = Row.reference_number r.reference;
  reference_bytes = bytes-of-number r.reference n.byte20 n.byte21 n.byte22 j;
  generalisation = r.generalisation;
  word = r.word;
  parts = 1 + length r.subobjects;
  items = length r.items;
  mark = r.mark;
}

-- what is left of a table after the numbers of a row
abbrev after_row : Table → Table
after_row t = table (drop Row.row_width t.numbers) t.elements t.bytes

-- what the rules of a row ask, where so many numbers are left
abbrev RowHolds : RecordRow → ℕ → Type 0
RowHolds a left = Hold (room_rules a left) (name_rules a) (reference_checks Row.reference Row.reference Row.reference a.reference_bytes) (count_rules a)

-- the numbers that they leave room for
row_room : (a : RecordRow) (left : ℕ) → RowHolds a left
    → (Row.row_width ≤ left) × (Row.row_size a.parts a.items ≤ left) × (1 ≤ a.parts) × (a.parts ≤ 65536) × (a.reference < 16777216)
unfolding room_rules name_rules count_rules
row_room a left c =
    let p = both_true (leb 1 a.parts) (leb a.parts 65536) c.3.1.1.0 in
    (leb-true _ _ c.0.0, leb-true _ _ c.0.1.0, leb-true _ _ p.0, leb-true _ _ p.1, ltb-true _ _ c.1.1.1.1.0)

-- a row whose rules hold, with an inside that was taken, is a near record
row_near : (al : ℕ → Bool) (ns : List ℕ) (left : ℕ) (t : Table) (v : Taken Record) → RowHolds (row_in ns) left → (s : Inside al (row_in ns) t v)
    → NearRecord (record_from (row_in ns) s.first s.subobjects s.items)
unfolding name_rules count_rules
row_near al ns left t v c s =
    let a : RecordRow = row_in ns in
    let room = row_room a left c in
    let count : length s.subobjects < 65536 = omega (arith, room.3, s.part_count) in
    record {
      code = ltb-true _ _ c.1.0;
      in_group = ltb-true _ _ c.1.1.0;
      group = ltb-true _ _ c.1.1.1.0;
      byte20 = omega arith;
      byte21 = omega arith;
      byte22 = omega arith;
      generalisation = ltb-true _ _ c.3.0;
      word = ltb-true _ _ c.3.1.0;
      count = count;
      reference = reference-holds 3 3 3 20 21 22 a.reference_bytes c.2;
      mark = leb-true _ _ c.3.1.1.1.1.0;
      counted = s.fine_first.counted;
      first = s.fine_first.part;
      subobjects = s.fine_subobjects;
      flagged = rw (← (some-length s.items), s.item_count) c.3.1.1.1.0;
      items = s.fine_items;
    }

-- and together they are what stood there
row-whole : (al : ℕ → Bool) (t : Table) (v : Taken Record) → Row.row_width ≤ length t.numbers → (row_in t.numbers).reference < 16777216
    → (s : Inside al (row_in t.numbers) (after_row t) v)
    → join (flatten_record (record_from (row_in t.numbers) s.first s.subobjects s.items)) s.left ≡ t
unfolding flatten_record flatten_header
row-whole al t v h small s =
    let a : RecordRow = row_in t.numbers in
    let r : Record = record_from a s.first s.subobjects s.items in
    let n : Row.reference_number a.reference_bytes ≡ a.reference = number-of-bytes a.reference small in
    let after : List ℕ = drop Row.row_width t.numbers in
    let row : (flatten_header r).numbers ++ after ≡ t.numbers =
    (λ j. a.code ∷ a.in_group ∷ a.group ∷ n j ∷ a.generalisation ∷ a.word ∷ s.part_count j ∷ s.item_count j ∷ a.mark ∷ after)
    ∙ listed_on 0 Row.row_width t.numbers h in
    let front : join (flatten_header r) (after_row t) ≡ t = table_path _ t row refl refl in
    join_assoc (flatten_header r) (flatten_inside r) s.left ∙ ap (λ x. join (flatten_header r) x) s.whole ∙ front

record_sound : (al : ℕ → Bool) (i : ℕ) (t : Table) → Bytes t.bytes → (v : Taken Record) → answer al (row_walk i t) ≡ given v
    → Took al flatten_record NearRecord record_years t v
unfolding row_walk row_rules count_rules
record_sound al i t bs v e =
    let a : RecordRow = row_in t.numbers in
    let left = length t.numbers in
    let ref = reference_checks Row.reference Row.reference Row.reference a.reference_bytes in
    four_case al i (room_rules a left) (name_rules a) ref (count_rules a) _ v e λ c y e1.
    let room = row_room a left c in
    let s = inside-sound al a (i + Row.row_width) (after_row t) room.2 (omega (arith, room.1, length-drop Row.row_width t.numbers)) bs v e1 in
    rw (← s.is) (
      row_near al t.numbers left (after_row t) v c s,
      (record_allowed al (record_from a s.first s.subobjects s.items)).1 (y.2, y.3, s.items_allowed),
      row-whole al t v room.0 room.4 s,
    )

-- the rules of a near record's row hold, where its numbers are left
near-holds : (r : Record) (left : ℕ) → NearRecord r → Row.row_size (1 + length r.subobjects) (length r.items) ≤ left → RowHolds (row_of r) left
unfolding room_rules name_rules count_rules
near-holds r left n h =
    let parts = 1 + length r.subobjects in
    let items = length r.items in
    let small : Row.reference_number r.reference < 16777216 = omega (arith, n.byte20, n.byte21, n.byte22) in
    let partsFit : (leb 1 parts && leb parts 65536) ≡ true = rw (le-leb 1 parts (omega arith)) (le-leb parts 65536 (omega (arith, n.count))) in
    let flag : agree (semantics r.reference) (leb 1 items) ≡ true = rw (some-length r.items) n.flagged in (
      le-leb Row.row_width left (omega arith) & le-leb _ _ h & tt,
      lt-ltb _ _ n.code & lt-ltb _ _ n.in_group & lt-ltb _ _ n.group & lt-ltb _ _ small & tt,
      reference-holds 20 21 22 3 3 3 r.reference n.reference,
      lt-ltb _ _ n.generalisation & lt-ltb _ _ n.word & partsFit & flag & le-leb _ _ n.mark & tt,
    )

-- a record has so many numbers
pub record_numbers : (r : Record) → length (flatten_record r).numbers ≡ Row.row_size (1 + length r.subobjects) (length r.items)
unfolding flatten_record flatten_header
record_numbers r = omega (arith, inside-numbers r)

record_complete : (al : ℕ → Bool) (i : ℕ) (r : Record) (rest : Table) → NearRecord r → Allowed al (record_years r)
    → answer al (row_walk i (join (flatten_record r) rest)) ≡ given (taken r rest)
unfolding row_walk row_rules room_rules name_rules count_rules flatten_record flatten_header
record_complete al i r rest n y =
    let t : Table = join (flatten_record r) rest in
    let a : RecordRow = row_of r in
    let left = length t.numbers in
    let ref = reference_checks Row.reference Row.reference Row.reference r.reference in
    let z = (record_allowed al r).0 y in
    let room : Row.row_size a.parts a.items ≤ left = omega (arith, record_numbers r, length-append (flatten_record r).numbers rest.numbers) in
    ap (λ u. answer al (row_rules u i left >> take_inside u (i + Row.row_width) (after_row t))) (row_at r rest n)
    ∙ four_on al i (room_rules a left) (name_rules a) ref (count_rules a) _ (near-holds r left n room) (tt, tt, z.0, z.1)
    ∙ inside-complete al a (i + Row.row_width) r.first r.subobjects r.items rest (near_first r n) n.subobjects n.items refl refl z.2

pub record_takes : (al : ℕ → Bool) → Takes al 0 row_walk flatten_record NearRecord record_years
record_takes al = record { sound = λ i t h bs v e. record_sound al i t bs v e; complete = record_complete al }
