-- The years that a record and a sheet use, part by part.
use mathlib.Core.Bool.{Bool, cond}
use mathlib.Core.List.{List, [], ◌∷◌}
use mathlib.Core.Logic.{◌↔◌}
use Prim.Native.Nat.{ℕ}
use Rattle.layout.specs.Bytes.{flat}
use Rattle.layout.specs.Layout.Uses.{item_years, record_years, years}
use Rattle.layout.specs.Shared.Carried.{rest_checks, carried_checks}
use Rattle.layout.specs.Shared.Mark.{has_mark}
use Rattle.layout.specs.Shared.Reference.{reference_checks}
use Rattle.layout.specs.Sheet.{Record, Sheet}
use Rattle.layout.specs.Walk.{years_of}
use Rattle.layout.specs.Years.{since, mark_65535}
use Rattle.laws.proofs.Base.Walks.{Allowed, allowed-three}

-- the year of the mark, where there is one
abbrev pub mark_years : Bool → List ℕ
mark_years marked = cond marked (since mark_65535 ∷ []) []

pub record_uses : (al : ℕ → Bool) (r : Record)
    → Allowed al (record_years r)
    ↔ (Allowed al (years_of (reference_checks 20 21 22 r.reference)) × Allowed al (mark_years (has_mark r.mark))
    × Allowed al (flat item_years r.items))
unfolding record_years
record_uses al r =
    allowed-three al (years_of (reference_checks 20 21 22 r.reference)) (mark_years (has_mark r.mark)) (flat item_years r.items)

pub sheet_uses : (al : ℕ → Bool) (u : Sheet)
    → Allowed al (years u)
    ↔ (Allowed al (years_of (rest_checks u.head.rest)) × Allowed al (years_of (carried_checks u.head.carried))
    × Allowed al (flat record_years u.records))
unfolding years
sheet_uses al u =
    allowed-three al (years_of (rest_checks u.head.rest)) (years_of (carried_checks u.head.carried)) (flat record_years u.records)
