-- The ways out of a row, over plain variables.
use mathlib.Core.Bool.{Bool, true, false}
use mathlib.Core.List.{List, [], ◌∷◌, ◌++◌}
use mathlib.Core.Path.{◌≡◌, refl, sym, ap, ◌∙◌}
use Prim.Native.Nat.{ℕ, ◌+◌, ◌-◌, ◌*◌, ◌/◌, ◌≤◌, ◌<◌}
use borrow.Author.Tests.{le-leb, lt-leb, leb-true, leb-false}
use lib.Dec.{leb}
use lib.ListN.{length, drop, length-drop}
use lib.Seq.{drop-drop}
use native.Mathlib.Nat.{add-zero}
use native.Mathlib.Omega.{arith}
use Rattle.fields.specs.Checks.{and_next, checked}
use Rattle.layout.specs.Answers.Calls.{and_then}
use Rattle.layout.specs.Answers.Enums.{refusal}
use Rattle.layout.specs.Bytes.{All, flat}
use Rattle.layout.specs.Layout.Fine.{FineSubobject}
use Rattle.layout.specs.Layout.Sizes.{sum_by, item_bytes, part_bytes, subobject_bytes, record_bytes}
use Rattle.layout.specs.Shared.Mark.{has_mark}
use Rattle.layout.specs.Shared.Reference.{reference_checks}
use Rattle.layout.specs.Shared.Row as Index
use Rattle.layout.specs.Sheet.{Item, Part, Reference, Record, Table}
use Rattle.layout.specs.Walk.{Walk, Answer, given, refused, answer, up_to, Check, must, dated, Holds, checks, ◌>>=◌, ◌>>◌, ends}
use Rattle.layout.specs.Writing.Items.{take_item}
use Rattle.layout.specs.Writing.Parts.{first_rules, later_rules, take_part}
use Rattle.layout.specs.Writing.Rows.{RecordRow, record_from, row_in, room_rules, name_rules, count_rules, row_rules, take_inside, row_walk}
use Rattle.layout.specs.Writing.Tables.{table, join, joined, Taken, taken, many, flatten_header, flatten_part, flatten_item, flatten_record}
use Rattle.layout.specs.declared.Refusal.{Refusal}
use Rattle.layout.specs.Refusals.{TABLE}
use Rattle.laws.proofs.Base.Chains.{four_then}
use Rattle.laws.proofs.Base.Lists.{both_true}
use Rattle.laws.proofs.Base.Walks.{answer_bind, bind_on, bind_refused, checks_append}
use Rattle.laws.proofs.Writing.Parts.{FineFirst, first_takes, subobject_takes, part-numbers}
use Rattle.laws.proofs.Writing.Takes.{Takes, join_assoc, length-joined, many_takes}
use Rattle.writing_check.proofs.Laws.Moves.{Went, went, stopped, number-after, moved-moved, moved-stop, after_checks, in_keeps}
use Rattle.writing_check.specs.Places.{capped, here, moved, moved_of, At, In}
use Rattle.writing_check.specs.Rows.{row_of, all_rules, inside_table, inside_bytes}
use Rattle.writing_check.specs.declared.places.Places.{Places}
use Rattle.writing_check.specs.declared.rows.Row.{Row}
use Rattle.std.specs.Prelude.{Result, Ok, Err}

-- the numbers that a row calls for, by division

pub room-short : (parts items left : ℕ) → Index.row_width ≤ left → (left - Index.row_width) / 2 < parts → false ≡ leb (Index.row_size parts items) left
room-short parts items left h l = sym (lt-leb (Index.row_size parts items) left (omega arith))

same_test : (a b c d : ℕ) → (a ≤ b → c ≤ d) → (c ≤ d → a ≤ b) → leb a b ≡ leb c d
same_test a b c d f g = go (leb a b) refl
  where
    go : (t : Bool) → leb a b ≡ t → t ≡ leb c d
    go true e = sym (le-leb c d (f (leb-true a b e)))
    go false e = go2 (leb c d) refl
      where
        go2 : (u : Bool) → leb c d ≡ u → false ≡ u
        go2 true i = let l : a ≤ b = g (leb-true c d i) in let m = leb-false a b e in absurd (omega (arith, l, m))
        go2 false i = refl

pub room-is : (parts items left : ℕ) → Index.row_width ≤ left → parts ≤ (left - Index.row_width) / 2
    → leb items ((left - Index.row_width - 2 * parts) / 4) ≡ leb (Index.row_size parts items) left
room-is parts items left h l = same_test items ((left - Index.row_width - 2 * parts) / 4) (Index.row_size parts items) left (λ a. omega arith) (λ a. omega arith)

-- what checks one after another ask
pub holds_append : (cs ds : List Check) → Holds (cs ++ ds) → Holds cs × Holds ds
holds_append [] ds h = (tt, h)
holds_append (must t n k ∷ cs) ds h = let i = holds_append cs ds h.1 in ((h.0, i.0), i.1)
holds_append (dated t z k ∷ cs) ds h = holds_append cs ds h

-- the numbers that the checks of a row leave room for
pub record Roomy (a : RecordRow) (left : ℕ) : Type 0 where
  pub size : Index.row_size a.parts a.items ≤ left
  pub some : 1 ≤ a.parts

pub row-roomy : (a : RecordRow) (left : ℕ) → Holds (all_rules a left) → Roomy a left
unfolding count_rules
row-roomy a left c =
    let ref = reference_checks 3 3 3 a.reference_bytes in
    let n = holds_append (name_rules a) (ref ++ count_rules a) c.1 in
    let k = (holds_append ref (count_rules a) n.1).1 in
    record { size = leb-true _ _ c.0; some = leb-true _ _ (both_true (leb 1 a.parts) (leb a.parts 65536) k.1.1.0).0 }

-- the parts and items inside a row

module _ (y : ℕ) (t : Table) (a : RecordRow) (p : Places) where
  abbrev ref : Reference
  ref = a.reference_bytes

  abbrev first : Answer (Taken Part)
  first = answer (up_to y) (take_part ref (first_rules a.mark a.word) p.number (here t p))

  -- whether the record has the mark
  abbrev marked : Bool
  marked = has_mark a.mark

  abbrev later : Places → Answer (Taken (List Part))
  later q = answer (up_to y) (many (a.parts - 1) 2 (take_part ref (later_rules marked)) q.number (here t q))

  abbrev pub First : Places → Type 0
  First q = Went (In t.elements) first flatten_part (part_bytes ref) (FineFirst ref a.mark a.word) t p q

  abbrev pub Later : Places → Places → Type 0
  Later q s =
      Went (In t.elements) (later q) (joined flatten_part) (sum_by (subobject_bytes ref)) (λ l. (length l ≡ a.parts - 1) × All (FineSubobject ref marked) l) t q s

  abbrev inside : Answer (Taken Record)
  inside = answer (up_to y) (take_inside a p.number (here t p))

  module _ (h : At t p) (room : p.number + 2 ≤ length t.numbers) (m : Result Places Refusal) (e : m ≡ moved_of flatten_part (part_bytes ref) p first) where
    pub first_went : (q : Places) → m ≡ Ok q → First q
    first_went q i =
        went (up_to y) 2 (take_part ref (first_rules a.mark a.word)) flatten_part (FineFirst ref a.mark a.word) (λ b. [])
        (first_takes (up_to y) ref a.mark a.word) (part_bytes ref) (In t.elements) t (in_keeps t.elements) p h room m e q i

    pub first-stop : (q : Refusal) → m ≡ Err q → Err q ≡ moved_of inside_table inside_bytes p inside
    unfolding take_inside
    first-stop q i =
        let s = stopped (up_to y) 2 (take_part ref (first_rules a.mark a.word)) flatten_part (FineFirst ref a.mark a.word) (λ b. [])
        (first_takes (up_to y) ref a.mark a.word) (part_bytes ref) (In t.elements) t (in_keeps t.elements) p h room m e q i in
        sym (ap (moved_of inside_table inside_bytes p) (bind_refused (up_to y) (take_part ref (first_rules a.mark a.word) p.number (here t p)) _ s))

  abbrev items : ℕ → Table → Walk (Taken (List Item))
  items i u = many a.items 4 take_item i u

  abbrev made : Part → List Part → Taken (List Item) → Taken Record
  made f l i = taken (record_from a f l i.value) i.left

  module _ (q : Places) (w : First q) where
    pub first_next : q.number ≡ p.number + 2
    first_next = number-after (In t.elements) first flatten_part (part_bytes ref) (FineFirst ref a.mark a.word) t p q 2 part-numbers w

    abbrev laters : Walk (Taken (List Part))
    laters = many (a.parts - 1) 2 (take_part ref (later_rules marked)) q.number (here t q)

    abbrev and_items : Taken (List Part) → Walk (Taken Record)
    and_items l = items (p.number + 2 * a.parts) l.left >>= λ i. ends (made w.value l.value i)

    after_first_lem : inside ≡ answer (up_to y) (laters >>= and_items)
    unfolding take_inside
    after_first_lem =
        bind_on (up_to y) (take_part ref (first_rules a.mark a.word) p.number (here t p)) _ (taken w.value (here t q)) w.is
        ∙ ap (λ i. answer (up_to y) (many (a.parts - 1) 2 (take_part ref (later_rules marked)) i (here t q) >>= and_items)) (sym first_next)

    module _ (h : At t q) (room : q.number + 2 * (a.parts - 1) ≤ length t.numbers) (m : Result Places Refusal)
        (e : m ≡ moved_of (joined flatten_part) (sum_by (subobject_bytes ref)) q (later q)) where
      takes : Takes (up_to y) ((a.parts - 1) * 2) (many (a.parts - 1) 2 (take_part ref (later_rules marked))) (joined flatten_part)
          (λ l. (length l ≡ a.parts - 1) × All (FineSubobject ref marked) l) (flat (λ b. []))
      takes = many_takes (up_to y) 2 (take_part ref (later_rules marked)) flatten_part (FineSubobject ref marked) (λ b. [])
          (subobject_takes (up_to y) ref marked) part-numbers (a.parts - 1)

      pub laters_went : (s : Places) → m ≡ Ok s → Later q s
      laters_went s i =
          went (up_to y) ((a.parts - 1) * 2) (many (a.parts - 1) 2 (take_part ref (later_rules marked))) (joined flatten_part)
          (λ l. (length l ≡ a.parts - 1) × All (FineSubobject ref marked) l) (flat (λ b. [])) takes
          (sum_by (subobject_bytes ref)) (In t.elements) t (in_keeps t.elements) q h (omega (arith, room)) m e s i

      pub laters-stop : (z : Refusal) → m ≡ Err z → Err z ≡ moved_of inside_table inside_bytes p inside
      laters-stop z i =
          let s = moved-stop (joined flatten_part) (sum_by (subobject_bytes ref)) q (later q) z (sym e ∙ i) in
          sym (ap (moved_of inside_table inside_bytes p) (after_first_lem ∙ bind_refused (up_to y) laters and_items s))

    module _ (s : Places) (v : Later q s) where
      pub laters-next : 1 ≤ a.parts → s.number ≡ p.number + 2 * a.parts
      laters-next some =
          let n = ap (λ (u : Places). u.number) v.to in
          let l = length-joined 2 flatten_part part-numbers v.value in
          let c : length v.value ≡ a.parts - 1 = v.fine.0 in
          omega (arith, n, l, c, first_next)

      three : (i : Taken (List Item)) → moved s (joined flatten_item i.value) (sum_by item_bytes i.value)
          ≡ moved p (inside_table (made w.value v.value i).value) (inside_bytes (made w.value v.value i).value)
      three i =
          let P = flatten_part w.value in
          let M = joined flatten_part v.value in
          let I = joined flatten_item i.value in
          let b1 = part_bytes ref w.value in
          let b2 = sum_by (subobject_bytes ref) v.value in
          let b3 = sum_by item_bytes i.value in
          ap (λ u. moved u I b3) (sym v.to)
          ∙ ap (λ u. moved (moved u M b2) I b3) (sym w.to)
          ∙ ap (λ u. moved u I b3) (moved-moved p P M b1 b2)
          ∙ moved-moved p (join P M) I (b1 + b2) b3
          ∙ ap (λ u. moved p u (b1 + b2 + b3)) (join_assoc P M I)

      last : (x : Answer (Taken (List Item))) → moved_of (joined flatten_item) (sum_by item_bytes) s x
          ≡ moved_of inside_table inside_bytes p (and_then x (λ i. given (made w.value v.value i)))
      last (given i) = ap Ok (three i)
      last (refused n j z) = refl

      pub items_last : 1 ≤ a.parts → (m : Result Places Refusal) → m ≡ moved_of (joined flatten_item) (sum_by item_bytes) s (answer (up_to y) (items s.number (here t s)))
          → m ≡ moved_of inside_table inside_bytes p inside
      items_last some m e =
          e
          ∙ last (answer (up_to y) (items s.number (here t s)))
          ∙ ap (λ i. moved_of inside_table inside_bytes p (and_then (answer (up_to y) (items i (here t s))) (λ i. given (made w.value v.value i))))
          (laters-next some)
          ∙ sym (ap (moved_of inside_table inside_bytes p)
          (after_first_lem
          ∙ bind_on (up_to y) laters and_items (taken v.value (here t s)) v.is
          ∙ answer_bind (up_to y) (items (p.number + 2 * a.parts) (here t s)) (λ i. ends (made w.value v.value i))))

-- a row, of which u is left
abbrev row_with : RecordRow → ℕ → Table → Walk (Taken Record)
row_with r i u = row_rules r i (length u.numbers) >> take_inside r (i + Index.row_width) (table (drop Index.row_width u.numbers) u.elements u.bytes)

row_rules_lem : {A : Type 0} (r : RecordRow) (i left : ℕ) (w : Walk A) → Index.row_width ≤ left → (row_rules r i left >> w) ≡ (checks i (all_rules r left) >> w)
unfolding row_rules room_rules
row_rules_lem r i left w h =
    let S : List Check = must (leb (Index.row_size r.parts r.items) left) TABLE 0 ∷ [] in
    let N = name_rules r in
    let R = reference_checks 3 3 3 r.reference_bytes in
    let C = count_rules r in
    four_then i (room_rules r left) N R C w
    ∙ rw (le-leb Index.row_width left h) (sym (checks_append i S (N ++ (R ++ C)) w
    ∙ ap (λ v. checks i S >> v) (checks_append i N (R ++ C) w
    ∙ ap (λ v. checks i N >> v) (checks_append i R C w))))

module _ (y : ℕ) (ns es pool : List ℕ) (p : Places) where
  abbrev all : Table
  all = table ns es pool

  abbrev one : Answer (Taken Record)
  one = answer (up_to y) (row_walk p.number (here all p))

  pub row-short : length ns - p.number < Index.row_width → Err (refusal TABLE p.number 0) ≡ moved_of flatten_record record_bytes p one
  unfolding row_walk row_rules room_rules
  row-short h =
      rw (lt-leb Index.row_width (length (drop p.number ns)) (omega (arith, h, length-drop p.number ns)), add-zero p.number) refl

  module _ (h : Index.row_width ≤ length ns - p.number) (a : Row) (row : row_of a ≡ row_in (drop p.number ns))
      (len : ℕ) (l : len ≡ capped (p.length + 32)) where
    -- the places after the row's numbers
    abbrev pub after : Places
    after = record { number = p.number + Index.row_width; element = p.element; byte = p.byte; length = len }

    abbrev rest : Walk (Taken Record)
    rest = take_inside (row_of a) (p.number + Index.row_width) (here all after)

    row_walk_lem : row_walk p.number (here all p) ≡ (checks p.number (all_rules (row_of a) (length ns - p.number)) >> rest)
    unfolding row_walk
    row_walk_lem =
        let u = here all p in
        let d : length (drop p.number ns) ≡ length ns - p.number = length-drop p.number ns in
        ap (λ z. row_with z p.number u) (sym row)
        ∙ ap (λ z. row_rules (row_of a) p.number (length (drop p.number ns))
        >> take_inside (row_of a) (p.number + Index.row_width) (table z u.elements u.bytes))
        (drop-drop Index.row_width p.number ns)
        ∙ ap (λ z. row_rules (row_of a) p.number z >> rest) d
        ∙ row_rules_lem (row_of a) p.number (length ns - p.number) rest h

    head-is : (x : Record) → after ≡ moved p (flatten_header x) 32
    unfolding flatten_header
    head-is x = rw (add-zero p.element, add-zero p.byte, l) refl

    with-head : (v : Answer (Taken Record)) → moved_of inside_table inside_bytes after v ≡ moved_of flatten_record record_bytes p v
    unfolding flatten_record record_bytes
    with-head (given v) =
        ap Ok (ap (λ z. moved z (inside_table v.value) (inside_bytes v.value)) (head-is v.value)
        ∙ moved-moved p (flatten_header v.value) (inside_table v.value) 32 (inside_bytes v.value))
    with-head (refused k j z) = refl

    -- a row is the rules on it, and then what stands inside
    pub row_takes : moved_of flatten_record record_bytes p one
        ≡ and_next (checked y p.number (all_rules (row_of a) (length ns - p.number))) (moved_of inside_table inside_bytes after (answer (up_to y) rest))
    row_takes =
        ap (λ w. moved_of flatten_record record_bytes p (answer (up_to y) w)) row_walk_lem
        ∙ after_checks _ y p.number (all_rules (row_of a) (length ns - p.number)) rest
        ∙ ap (and_next (checked y p.number (all_rules (row_of a) (length ns - p.number)))) (sym (with-head (answer (up_to y) rest)))
