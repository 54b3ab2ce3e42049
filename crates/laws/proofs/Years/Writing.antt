-- The writer's walk: its own refusals are never TOO NEW, and every feature it can meet is of 2017 or earlier.
use mathlib.Core.Bool.{Bool}
use mathlib.Core.List.{List, [], ◌∷◌}
use mathlib.Core.Path.{refl}
use Prim.Native.Nat.{ℕ, zero, suc, ◌+◌, ◌-◌, ◌*◌}
use lib.ListN.{length}
use Rattle.layout.specs.Fields.Descriptor
use Rattle.layout.specs.Shared.Carried.{rest_checks, carried_checks}
use Rattle.layout.specs.Shared.Mark.{has_mark}
use Rattle.layout.specs.Shared.Reference.{reference_checks}
use Rattle.layout.specs.Shared.Row
use Rattle.layout.specs.Shared.Tails.{clean_sheet}
use Rattle.layout.specs.Shared.Texts.{text_fits}
use Rattle.layout.specs.Sheet.{Part, Reference, Head, Table}
use Rattle.layout.specs.Walk.{Check}
use Rattle.layout.specs.Writing.Items.{item_rules, item_row_in, take_item}
use Rattle.layout.specs.Writing.Parts.{first_rules, later_rules, element_rules, text_rules, take_part}
use Rattle.layout.specs.Writing.Rows.{RecordRow, row_in, room_rules, name_rules, count_rules, row_rules, take_inside, row_walk, end_rules, rows_from, rows_walk}
use Rattle.layout.specs.Writing.Sheets.{title_rules, head_walk, limit_rules, table_walk}
use Rattle.layout.specs.Writing.Tables.{table, Taker, many}
use Rattle.laws.proofs.Base.Lists.{◌&◌}
use Rattle.laws.proofs.Years.Own.{Own, OwnChecks, OwnTaker, own_checks, own_bind, own_then, own_many}
use Rattle.laws.proofs.Years.Reading.{own_reference, own_rest, own_carried}

own_item : OwnTaker take_item
unfolding take_item item_rules
own_item i t =
    own_then i (item_rules (item_row_in t.numbers) t.bytes) _
    (refl & refl & refl & refl & refl & refl & refl & refl & refl & refl & refl & tt) tt

own_part : (r : Reference) (rules : ℕ → List Check) → ((n : ℕ) → OwnChecks (rules n)) → OwnTaker (take_part r rules)
unfolding take_part element_rules text_rules
own_part r rules h i t =
    let points : ℕ = Row.nth t.numbers Row.points in
    let size : ℕ = Row.nth t.numbers Row.text_length in
    own_then i (rules points) _ (h points)
    (own_then i (element_rules r points t.elements) _ (refl & refl & tt)
    (own_then i (text_rules r size t.bytes) _ (refl & refl & refl & tt) tt))

own_first : (mark word n : ℕ) → OwnChecks (first_rules mark word n)
unfolding first_rules
own_first mark word n = refl & refl & tt

own_later : (marked : Bool) (n : ℕ) → OwnChecks (later_rules marked n)
unfolding later_rules
own_later marked n = refl & refl & tt

own_inside : (a : RecordRow) → OwnTaker (take_inside a)
unfolding take_inside
own_inside a i t =
    let r : Reference = a.reference_bytes in
    let one : Taker Part = take_part r (first_rules a.mark a.word) in
    let k : ℕ = i + Row.part_width * a.parts in
    own_bind (one i t) _ (own_part r (first_rules a.mark a.word) (own_first a.mark a.word) i t)
    (λ f. let other : Taker Part = take_part r (later_rules (has_mark a.mark)) in
    let rest : Taker (List Part) = many (a.parts - 1) Row.part_width other in
    let own : OwnTaker other = own_part r (later_rules (has_mark a.mark)) (own_later (has_mark a.mark)) in
    own_bind (rest (i + Row.part_width) f.left) _ (own_many (a.parts - 1) Row.part_width other own (i + Row.part_width) f.left)
    (λ m. own_bind (many a.items Row.item_width take_item k m.left) _ (own_many a.items Row.item_width take_item own_item k m.left) (λ e. tt)))

own_rules : (a : RecordRow) (i left : ℕ) → Own (row_rules a i left)
unfolding row_rules room_rules name_rules count_rules
own_rules a i left =
    own_then i (room_rules a left) _ (refl & refl & tt)
    (own_then i (name_rules a) _ (refl & refl & refl & refl & tt)
    (own_then i (reference_checks Row.reference Row.reference Row.reference a.reference_bytes) _ (own_reference _ _ _ a.reference_bytes)
    (own_checks i (count_rules a) (refl & refl & refl & refl & refl & refl & tt))))

own_row : OwnTaker row_walk
unfolding row_walk
own_row i t =
    let a : RecordRow = row_in t.numbers in
    own_bind (row_rules a i (length t.numbers)) _ (own_rules a i (length t.numbers)) (λ _. own_inside a _ _)

own_rows : (most i : ℕ) (ns es pool : List ℕ) → Own (rows_from most i ns es pool)
unfolding end_rules
own_rows zero i ns es pool = own_then i (end_rules es pool) _ (refl & tt) tt
own_rows (suc most) i [] es pool = own_then i (end_rules es pool) _ (refl & tt) tt
own_rows (suc most) i (n ∷ ns) es pool =
    own_bind (row_walk i (table (n ∷ ns) es pool)) _ (own_row i (table (n ∷ ns) es pool))
    (λ row. own_bind (rows_from most _ _ _ _) _ (own_rows most _ _ _ _) (λ l. tt))

own_head : (h : Head) → Own (head_walk h)
unfolding head_walk title_rules
own_head h =
    own_then 0 (title_rules h) _ (refl & refl & refl & tt)
    (own_then 0 (rest_checks h.rest) _ (own_rest h.rest)
    (own_then 0 (text_fits Descriptor.designation h.designation2 ∷ []) _ (refl & tt) (own_checks 0 (carried_checks h.carried) (own_carried h.carried))))

pub own_table : (h : Head) (t : Table) → Own (table_walk h t)
unfolding table_walk rows_walk limit_rules
own_table h t =
    own_bind (head_walk h) _ (own_head h)
    (λ _. own_bind (rows_walk t) _ (own_rows (length t.numbers) 0 t.numbers t.elements t.bytes)
    (λ l. own_then 0 (limit_rules (clean_sheet h l)) _ (refl & tt) tt))
