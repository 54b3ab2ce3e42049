-- The ways out of a part, over plain variables.
use mathlib.Core.Bool.{Bool}
use mathlib.Core.List.{List, ◌++◌}
use mathlib.Core.Path.{◌≡◌, refl, sym, ap, ◌∙◌}
use Prim.Native.Nat.{ℕ, ◌+◌, ◌-◌, ◌*◌, ◌≤◌, ◌<◌}
use borrow.Author.Tests.{leb-true, ltb-true}
use lib.ListN.{length, get_or, take, drop, length-drop}
use lib.Seq.{length-take-le, get_or-drop}
use native.Mathlib.Nat.{add-zero, zero-add}
use native.Mathlib.Omega.{arith}
use Rattle.fields.proofs.Laws.Chain.{step_holds}
use Rattle.fields.proofs.Laws.Widths.{widths-count}
use Rattle.fields.specs.Shapes.{shape_of, dimensions}
use Rattle.fields.specs.Checks.{and_next, checked}
use Rattle.fields.specs.declared.shapes.Shape.{Shape}
use Rattle.layout.specs.Layout.Sizes.{part_bytes}
use Rattle.layout.specs.Shared.Reference.{element_size, floating, three_dimensions}
use Rattle.layout.specs.Sheet.{Part, Reference, Table}
use Rattle.layout.specs.Walk.{Answer, given, refused, answer, up_to, Check, Holds, checks, ◌>>◌, ends}
use Rattle.layout.specs.Writing.Parts.{element_count, element_rules, text_rules, first_rules, later_rules, take_part}
use Rattle.layout.specs.Writing.Tables.{table, Taken, taken, flatten_part}
use Rattle.layout.specs.declared.Refusal.{Refusal}
use Rattle.laws.proofs.Base.Walks.{checks_append}
use Rattle.writing_check.proofs.Laws.Moves.{after_checks}
use Rattle.writing_check.specs.Parts.{pools_by, bytes_by, headed, pool_walk}
use Rattle.writing_check.specs.Places.{capped, here, moved, moved_by, moved_of}
use Rattle.writing_check.specs.declared.places.Places.{Places}
use Rattle.std.specs.Prelude.{Result, Ok, Err}

-- the checks on the pools are those of the definitions
pools_are : (r : Reference) (points size : ℕ) (es pool : List ℕ)
    → pools_by (shape_of r) points size (length es) es (length pool) ≡ element_rules r points es ++ text_rules r size pool
unfolding element_rules text_rules
pools_are r points size es pool = rw (widths-count (element_size r) (floating r) (three_dimensions r)) refl

count-is : (r : Reference) (points : ℕ) → element_count r points ≡ points * dimensions (three_dimensions r)
count-is r points = ap (λ k. points * k) (widths-count (element_size r) (floating r) (three_dimensions r))

abbrev pools_with : Reference → ℕ → ℕ → Table → Taken Part
pools_with r points size t =
    taken (record { points = points; elements = take (element_count r points) t.elements; text = take size t.bytes })
    (table (drop 2 t.numbers) (drop (element_count r points) t.elements) (drop size t.bytes))

pool_walk_lem : (r : Reference) (points size i : ℕ) (t : Table)
    → pool_walk r points size i t
    ≡ (checks i (pools_by (shape_of r) points size (length t.elements) t.elements (length t.bytes)) >> ends (pools_with r points size t))
unfolding pool_walk
pool_walk_lem r points size i t =
    sym (ap (λ cs. checks i cs >> ends (pools_with r points size t)) (pools_are r points size t.elements t.bytes)
    ∙ checks_append i (element_rules r points t.elements) (text_rules r size t.bytes) (ends (pools_with r points size t)))

-- what a part takes from the pools: the checks on it, and then the places after it
module _ (y : ℕ) (t : Table) (p : Places) (ref : Reference) (s : Shape) (shape : s ≡ shape_of ref) (points size head : ℕ) where
  abbrev pub pool_checks : List Check
  pool_checks = pools_by s points size (length t.elements - p.element) (drop p.element t.elements) (length t.bytes - p.byte)

  pub pools_fit : Holds pool_checks → (points * dimensions s.three ≤ length t.elements - p.element) × (size < 256) × (size ≤ length t.bytes - p.byte)
  pools_fit c = (leb-true (points * dimensions s.three) _ c.0, ltb-true size 256 c.1.1.0, leb-true size _ c.1.1.1.1.0)

  same_checks : pools_by (shape_of ref) points size (length (here t p).elements) (here t p).elements (length (here t p).bytes) ≡ pool_checks
  same_checks = rw (shape, length-drop p.element t.elements, length-drop p.byte t.bytes) refl

  abbrev pub places_after : Places
  places_after =
      record {
        number = p.number + 2;
        element = p.element + points * dimensions s.three;
        byte = p.byte + size;
        length = capped (p.length + (head + bytes_by s points size));
      }

  after : Holds pool_checks
      → moved p (flatten_part (pools_with ref points size (here t p)).value) (headed head ref (pools_with ref points size (here t p)).value) ≡ places_after
  unfolding flatten_part
  after c =
      let f = pools_fit c in
      let n : element_count ref points ≡ points * dimensions s.three = count-is ref points ∙ ap (λ (s : Shape). points * dimensions s.three) (sym shape) in
      let i : length (take (element_count ref points) (drop p.element t.elements)) ≡ points * dimensions s.three =
      length-take-le (element_count ref points) (drop p.element t.elements) (omega (arith, f.0, n, length-drop p.element t.elements)) ∙ n in
      let j : length (take size (drop p.byte t.bytes)) ≡ size = length-take-le size (drop p.byte t.bytes) (omega (arith, f.2, length-drop p.byte t.bytes)) in
      rw (i, j, shape) refl

  pub pool_takes : moved_of flatten_part (headed head ref) p (answer (up_to y) (pool_walk ref points size p.number (here t p)))
      ≡ and_next (checked y p.number pool_checks) (Ok places_after)
  pool_takes =
      ap (λ w. moved_of flatten_part (headed head ref) p (answer (up_to y) w)) (pool_walk_lem ref points size p.number (here t p))
      ∙ after_checks (moved_by flatten_part (headed head ref) p) y p.number
      (pools_by (shape_of ref) points size (length (here t p).elements) (here t p).elements (length (here t p).bytes))
      (ends (pools_with ref points size (here t p)))
      ∙ ap (λ cs. and_next (checked y p.number cs) (moved_of flatten_part (headed head ref) p (given (pools_with ref points size (here t p))))) same_checks
      ∙ go (checked y p.number pool_checks) refl
    where
      go : (r : Result (Unit {0}) Refusal) → r ≡ checked y p.number pool_checks
          → and_next r (moved_of flatten_part (headed head ref) p (given (pools_with ref points size (here t p)))) ≡ and_next r (Ok places_after)
      go (Ok u) e = ap Ok (after (step_holds y p.number pool_checks (Ok u) e u refl))
      go (Err q) e = refl

-- a part is the rules of its points, and then its pools
module _ (y : ℕ) (t : Table) (p : Places) (ref : Reference) (rules : ℕ → List Check) (B : Part → ℕ) where
  abbrev points_at : ℕ
  points_at = get_or t.numbers p.number 0

  abbrev size_at : ℕ
  size_at = get_or t.numbers (p.number + 1) 0

  part_walk_lem : take_part ref rules p.number (here t p) ≡ (checks p.number (rules points_at) >> pool_walk ref points_at size_at p.number (here t p))
  unfolding take_part pool_walk
  part_walk_lem =
      let a : get_or (drop p.number t.numbers) 0 0 ≡ points_at = get_or-drop p.number t.numbers 0 0 ∙ ap (λ k. get_or t.numbers k 0) (add-zero p.number) in
      let b : get_or (drop p.number t.numbers) 1 0 ≡ size_at = get_or-drop p.number t.numbers 1 0 in
      ap (λ k. checks p.number (rules k) >> pool_walk ref k (get_or (drop p.number t.numbers) 1 0) p.number (here t p)) a
      ∙ ap (λ k. checks p.number (rules points_at) >> pool_walk ref points_at k p.number (here t p)) b

  pub part_takes : moved_of flatten_part B p (answer (up_to y) (take_part ref rules p.number (here t p)))
      ≡ and_next (checked y p.number (rules points_at)) (moved_of flatten_part B p (answer (up_to y) (pool_walk ref points_at size_at p.number (here t p))))
  part_takes =
      ap (λ w. moved_of flatten_part B p (answer (up_to y) w)) part_walk_lem
      ∙ after_checks (moved_by flatten_part B p) y p.number (rules points_at) (pool_walk ref points_at size_at p.number (here t p))

-- the first part has no head of its own
pub head_none : (p : Places) (r : Reference) (v : Answer (Taken Part)) → moved_of flatten_part (part_bytes r) p v ≡ moved_of flatten_part (headed 0 r) p v
head_none p r (given a) = rw (zero-add (part_bytes r a.value)) refl
head_none p r (refused n i y) = refl

-- points that the rules let through have four bytes
pub first_small : (mark word points : ℕ) → Holds (first_rules mark word points) → points < 4294967296
unfolding first_rules
first_small mark word points c = ltb-true points 4294967296 c.0

pub later-small : (marked : Bool) (points : ℕ) → Holds (later_rules marked points) → points < 4294967296
unfolding later_rules
later-small marked points c = ltb-true points 4294967296 c.0
