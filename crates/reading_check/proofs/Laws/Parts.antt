-- The ways out of a part and of a subobject, over plain variables.
use mathlib.Core.Bool.{Bool, true, false, ◌||◌}
use mathlib.Core.List.{List}
use mathlib.Core.Path.{◌≡◌, refl, sym, ap, ◌∙◌}
use Prim.Native.Nat.{ℕ, ◌+◌, ◌-◌, ◌*◌, ◌≤◌, ◌<◌}
use borrow.Author.Tests.{le-leb, lt-leb}
use lib.Dec.{eqb}
use lib.ListN.{length, take, drop}
use native.Mathlib.Nat.{add-zero, mul-le-mul_left}
use native.Mathlib.Omega.{arith}
use Rattle.reading_check.proofs.Laws.Shown.{next, shown_bind}
use Rattle.reading_check.specs.Tally.{tally, text_table, shown}
use Rattle.fields.proofs.Laws.Lists.{rest_is}
use Rattle.fields.proofs.Laws.Widths.{widths-count}
use Rattle.fields.specs.Shapes.{shape_of, dimensions, point_of}
use Rattle.fields.specs.declared.shapes.Shape.{Shape}
use Rattle.layout.specs.Answers.Enums.{refusal}
use Rattle.layout.specs.Bytes.{number, numbers, repeat}
use Rattle.layout.specs.Reading.Parts.{text_walk, part_walk, subobject_walk}
use Rattle.layout.specs.Shared.Reference.{element_size, floating, three_dimensions, text_in_metric}
use Rattle.layout.specs.Shared.Widths.{widths, point_size, point_bytes}
use Rattle.layout.specs.Sheet.{Reference}
use Rattle.layout.specs.Writing.Tables.{flatten_part}
use Rattle.layout.specs.Refusals.{COUNT, LENGTH}
use Rattle.laws.proofs.Base.Numbers.{length-numbers, length-repeat}
use Rattle.laws.proofs.Bounds.{two_bytes}
use Rattle.reading_check.specs.declared.tally.Tally.{Tally}
use Rattle.layout.specs.declared.Refusal.{Refusal}
use Rattle.std.specs.Prelude.{Result, Ok, Err}

elements_are : (r : Reference) (count : ℕ) (xs : List ℕ)
    → length (numbers (repeat count (widths r)) xs) ≡ count * dimensions (three_dimensions r)
elements_are r count xs =
    length-numbers (repeat count (widths r)) xs
    ∙ length-repeat count (widths r)
    ∙ ap (λ k. count * k) (widths-count (element_size r) (floating r) (three_dimensions r))

-- a point has no more elements than bytes
point-over : (size float three : Bool) → dimensions three ≤ point_bytes size float three
point-over size float three = omega (arith, two_bytes size float three, widths-count size float three)

pub elements-within : (s : Shape) (count k elements : ℕ) → k ≡ point_of s → elements ≡ count * dimensions s.three → elements ≤ count * k
elements-within s count k elements e f = rw (f, e) (mul-le-mul_left count (point-over s.size s.float s.three))

-- so many points of a shape s, each of so many bytes
module _ (y p count size : ℕ) (xs : List ℕ) (r : Reference) (s : Shape) (is : s ≡ shape_of r) (k : ℕ) (point : k ≡ point_of s) (e : size ≡ count * k) where
  size_is : size ≡ count * point_size r
  size_is = e ∙ ap (λ u. count * u) (point ∙ ap point_of is)

  pub part-short : length xs < size → Err (refusal LENGTH p 0) ≡ shown (tally flatten_part) y (part_walk r count p xs)
  unfolding part_walk
  part-short h = simp (← size_is, lt-leb size (length xs) h, add-zero)

  pub part_then : size ≤ length xs → (elements : ℕ) → elements ≡ count * dimensions s.three
      → (k : Result Tally Refusal) → k ≡ shown (tally text_table) y (text_walk s.text (p + size) (take (length xs - size) (drop size xs)))
      → next k (λ t. Ok (record { used = size + t.used; numbers = 2; elements = elements; bytes = t.bytes }))
      ≡ shown (tally flatten_part) y (part_walk r count p xs)
  unfolding part_walk flatten_part
  part_then l elements f k g =
      simp (← size_is, le-leb size (length xs) l, g, rest_is, ap (λ (u : Shape). u.text) is)
      (sym (shown_bind y (tally text_table) (tally flatten_part) (text_walk (text_in_metric r) (p + size) (drop size xs)) _ _
      (λ a. rw (elements_are r count xs, f, is) refl)))

module _ (y p : ℕ) (xs : List ℕ) (r : Reference) (marked : Bool) where
  pub subobject_short : length xs < 4 → Err (refusal LENGTH p 0) ≡ shown (tally flatten_part) y (subobject_walk r marked p xs)
  unfolding subobject_walk
  subobject_short h = simp (lt-leb 4 (length xs) h, add-zero)

  module _ (l : 4 ≤ length xs) (n1 n2 : ℕ) (e : n1 ≡ number 2 xs) (f : n2 ≡ number 2 (drop 2 xs)) where
    pub subobject_count : (marked || eqb n1 0) ≡ false
        → Err (refusal COUNT p 0) ≡ shown (tally flatten_part) y (subobject_walk r marked p xs)
    unfolding subobject_walk
    subobject_count h = simp (le-leb 4 (length xs) l, ← e, h, add-zero)

    pub subobject_then : (marked || eqb n1 0) ≡ true → (count : ℕ) → count ≡ n2 + 65536 * n1
        → (k : Result Tally Refusal) → k ≡ shown (tally flatten_part) y (part_walk r count (p + 4) (take (length xs - 4) (drop 4 xs)))
        → next k (λ t. Ok (record { used = 4 + t.used; numbers = t.numbers; elements = t.elements; bytes = t.bytes }))
        ≡ shown (tally flatten_part) y (subobject_walk r marked p xs)
    unfolding subobject_walk
    subobject_then h count q k g =
        simp (le-leb 4 (length xs) l, ← e, ← f, h, g, q, rest_is)
        (sym (shown_bind y (tally flatten_part) (tally flatten_part) (part_walk r (n2 + 65536 * n1) (p + 4) (drop 4 xs)) _ _ (λ a. refl)))
