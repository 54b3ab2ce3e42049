-- The checks on a header come to what its lists come to, one after another.
use mathlib.Core.List.{List, [], ◌∷◌, ◌++◌}
use mathlib.Core.Path.{◌≡◌, ap, ◌∙◌}
use Prim.Native.Nat.{ℕ, ◌+◌, ◌-◌}
use lib.Dec.{leb}
use Rattle.fields.proofs.Laws.Chain.{checked_both}
use Rattle.fields.specs.Checks.{demanded, and_next, checked}
use Rattle.layout.specs.Fields.Header as Field
use Rattle.layout.specs.Reading.Records.{Header, total_checks, length_checks, mark_checks}
use Rattle.layout.specs.Refusals.{LENGTH}
use Rattle.layout.specs.Shared.Reference.{reference_checks}
use Rattle.layout.specs.Walk.{Check, must}
use Rattle.reading_check.specs.Records.{header_checks}

pub in_turn : (y p left : ℕ) (h : Header) → checked y p (header_checks left h)
    ≡ and_next (checked y p (total_checks left h))
    (and_next (demanded (leb h.metric (h.total - Field.size)) LENGTH (p + 8))
    (and_next (checked y p (reference_checks 20 21 22 h.reference)) (checked y p (mark_checks h))))
unfolding length_checks
in_turn y p left h =
    let marks : List Check = mark_checks h in
    let reference : List Check = reference_checks 20 21 22 h.reference in
    let metric : Check = must (leb h.metric (h.total - Field.size)) LENGTH (Field.metric).place in
    checked_both y p (total_checks left h) (metric ∷ (reference ++ marks))
    ∙ ap (λ r. and_next (checked y p (total_checks left h)) (and_next (demanded (leb h.metric (h.total - Field.size)) LENGTH (p + 8)) r))
    (checked_both y p reference marks)
