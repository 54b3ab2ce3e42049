-- The parts and items of a record row are taken from a table exactly as they are flattened.
use mathlib.Core.Bool.{Bool}
use mathlib.Core.List.{List, [], ◌++◌}
use mathlib.Core.Path.{◌≡◌, ap, ◌∙◌}
use Prim.Native.Nat.{ℕ, ◌+◌, ◌-◌, ◌*◌, ◌≤◌}
use lib.ListN.{length, length-append}
use native.Mathlib.Omega.{arith}
use Rattle.layout.specs.Bytes.{All, Bytes, flat}
use Rattle.layout.specs.Layout.Fine.{FineItem, FineSubobject}
use Rattle.layout.specs.Layout.Uses.{item_years}
use Rattle.layout.specs.Shared.Mark.{has_mark}
use Rattle.layout.specs.Sheet.{Item, Part, Reference, Record, Table}
use Rattle.layout.specs.Walk.{given, answer}
use Rattle.layout.specs.Writing.Items.{take_item}
use Rattle.layout.specs.Writing.Parts.{first_rules, later_rules, take_part}
use Rattle.layout.specs.Writing.Rows.{RecordRow, record_from, take_inside}
use Rattle.layout.specs.Writing.Tables.{join, joined, Taken, taken, many, flatten_part, flatten_item}
use Rattle.laws.proofs.Base.Walks.{given_inj, bind_case, bind_on, Allowed, allowed-none}
use Rattle.laws.proofs.Writing.Items.{item_takes, item-numbers}
use Rattle.laws.proofs.Writing.Parts.{subobject_takes, first_takes, part-numbers, FineFirst}
use Rattle.laws.proofs.Writing.Takes.{Takes, join_assoc, left-bytes, left-numbers, length-joined, many_takes}

-- the table of what stands inside a record
abbrev pub flatten_inside : Record → Table
flatten_inside r = join (flatten_part r.first) (join (joined flatten_part r.subobjects) (joined flatten_item r.items))

join-inside : (p m e r : Table) → join (join p (join m e)) r ≡ join p (join m (join e r))
join-inside p m e r = join_assoc p (join m e) r ∙ ap (λ x. join p x) (join_assoc m e r)

-- how many numbers that is
pub inside-numbers : (r : Record) → length (flatten_inside r).numbers ≡ 2 * (1 + length r.subobjects) + 4 * length r.items
inside-numbers r =
    let P = (flatten_part r.first).numbers in
    let M = (joined flatten_part r.subobjects).numbers in
    let I = (joined flatten_item r.items).numbers in
    omega (
      arith,
      length-append P (M ++ I),
      length-append M I,
      part-numbers r.first,
      length-joined 2 flatten_part part-numbers r.subobjects,
      length-joined 4 flatten_item item-numbers r.items,
    )

-- the subobjects, with the mark or without; and the items
later_takes : (al : ℕ → Bool) (r : Reference) (marked : Bool) (n : ℕ)
    → Takes al (n * 2) (many n 2 (take_part r (later_rules marked))) (joined flatten_part)
    (λ l. (length l ≡ n) × All (FineSubobject r marked) l) (flat (λ a. []))
later_takes al r marked n =
    many_takes al 2 (take_part r (later_rules marked)) flatten_part (FineSubobject r marked) (λ a. []) (subobject_takes al r marked) part-numbers n

items-take : (al : ℕ → Bool) (n : ℕ)
    → Takes al (n * 4) (many n 4 take_item) (joined flatten_item) (λ l. (length l ≡ n) × All FineItem l) (flat item_years)
items-take al n = many_takes al 4 take_item flatten_item FineItem item_years (item_takes al) item-numbers n

-- what was taken as the inside of the row a, of the table t
pub record Inside (al : ℕ → Bool) (a : RecordRow) (t : Table) (v : Taken Record) : Type 0 where
  pub first : Part
  pub subobjects : List Part
  pub items : List Item
  pub left : Table
  pub is : taken (record_from a first subobjects items) left ≡ v
  pub fine_first : FineFirst a.reference_bytes a.mark a.word first
  pub fine_subobjects : All (FineSubobject a.reference_bytes (has_mark a.mark)) subobjects
  pub fine_items : All FineItem items
  pub part_count : 1 + length subobjects ≡ a.parts
  pub item_count : length items ≡ a.items
  pub items_allowed : Allowed al (flat item_years items)
  pub whole : join (flatten_inside (record_from a first subobjects items)) left ≡ t

pub inside-sound : (al : ℕ → Bool) (a : RecordRow) (i : ℕ) (t : Table) → 1 ≤ a.parts → 2 * a.parts + 4 * a.items ≤ length t.numbers
    → Bytes t.bytes → (v : Taken Record) → answer al (take_inside a i t) ≡ given v → Inside al a t v
unfolding take_inside
inside-sound al a i t some room bs v e =
    let r : Reference = a.reference_bytes in
    bind_case al (take_part r (first_rules a.mark a.word) i t) _ v e λ f ef e1.
    bind_case al (many (a.parts - 1) 2 (take_part r (later_rules (has_mark a.mark))) (i + 2) f.left) _ v e1 λ m em e2.
    bind_case al (many a.items 4 take_item (i + 2 * a.parts) m.left) _ v e2 λ k ek g.
    let P = flatten_part f.value in
    let M = joined flatten_part m.value in
    let I = joined flatten_item k.value in
    let s1 = (first_takes al r a.mark a.word).sound i t (omega arith) bs f ef in
    let l1 = left-numbers P f.left t s1.2 in
    let p1 = part-numbers f.value in
    let b1 = left-bytes P f.left t s1.2 bs in
    let s2 = (later_takes al r (has_mark a.mark) (a.parts - 1)).sound (i + 2) f.left (omega arith) b1 m em in
    let l2 = left-numbers M m.left f.left s2.2 in
    let p2 = length-joined 2 flatten_part part-numbers m.value in
    let n2 : length m.value ≡ a.parts - 1 = s2.0.0 in
    let b2 = left-bytes M m.left f.left s2.2 b1 in
    let s3 = (items-take al a.items).sound (i + 2 * a.parts) m.left (omega arith) b2 k ek in
    record {
      first = f.value;
      subobjects = m.value;
      items = k.value;
      left = k.left;
      is = given_inj g;
      fine_first = s1.0;
      fine_subobjects = s2.0.1;
      fine_items = s3.0.1;
      part_count = omega arith;
      item_count = s3.0.0;
      items_allowed = s3.1;
      whole = join-inside P M I k.left ∙ ap (λ x. join P (join M x)) s3.2 ∙ ap (λ x. join P x) s2.2 ∙ s1.2;
    }

pub inside-complete : (al : ℕ → Bool) (a : RecordRow) (i : ℕ) (first : Part) (subobjects : List Part) (items : List Item) (rest : Table)
    → FineFirst a.reference_bytes a.mark a.word first → All (FineSubobject a.reference_bytes (has_mark a.mark)) subobjects
    → All FineItem items → 1 + length subobjects ≡ a.parts → length items ≡ a.items
    → Allowed al (flat item_years items)
    → let r = record_from a first subobjects items in answer al (take_inside a i (join (flatten_inside r) rest)) ≡ given (taken r rest)
unfolding take_inside
inside-complete al a i first subobjects items rest ff fs fi np ni yi =
    let r : Reference = a.reference_bytes in
    let P = flatten_part first in
    let M = joined flatten_part subobjects in
    let I = joined flatten_item items in
    let later = take_part r (later_rules (has_mark a.mark)) in
    ap (λ u. answer al (take_inside a i u)) (join-inside P M I rest)
    ∙ bind_on al (take_part r (first_rules a.mark a.word) i (join P (join M (join I rest)))) _ (taken first (join M (join I rest)))
    ((first_takes al r a.mark a.word).complete i first (join M (join I rest)) ff tt)
    ∙ bind_on al (many (a.parts - 1) 2 later (i + 2) (join M (join I rest))) _ (taken subobjects (join I rest))
    ((later_takes al r (has_mark a.mark) (a.parts - 1)).complete (i + 2) subobjects (join I rest) (omega arith, fs) (allowed-none al subobjects))
    ∙ bind_on al (many a.items 4 take_item (i + 2 * a.parts) (join I rest)) _ (taken items rest)
    ((items-take al a.items).complete (i + 2 * a.parts) items rest (ni, fi) yi)
