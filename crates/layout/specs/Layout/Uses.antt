-- The years of the features that a sheet uses.
use Rattle.std.specs.Prelude.{ℕ, cond, List, [], ◌∷◌, ◌++◌}
use Rattle.layout.specs.Bytes.{flat}
use Rattle.layout.specs.Fields.Header
use Rattle.layout.specs.Shared.Carried.{rest_checks, carried_checks}
use Rattle.layout.specs.Shared.Mark.{has_mark}
use Rattle.layout.specs.Shared.Reference.{reference_checks}
use Rattle.layout.specs.Shared.Types.{kind_of, is_long}
use Rattle.layout.specs.Sheet.{Item, Record, Sheet}
use Rattle.layout.specs.Walk.{years_of}
use Rattle.layout.specs.Years.{since, type_128, mark_65535}

unfoldable pub item_years : Item → List ℕ
item_years i = cond (is_long (kind_of i.type)) (since type_128 ∷ []) []

unfoldable pub record_years : Record → List ℕ
record_years r =
    years_of (reference_checks (Header.byte20).place (Header.byte21).place (Header.byte22).place r.reference)
    ++ cond (has_mark r.mark) (since mark_65535 ∷ []) []
    ++ flat item_years r.items

unfoldable pub years : Sheet → List ℕ
years t = years_of (rest_checks t.head.rest) ++ years_of (carried_checks t.head.carried) ++ flat record_years t.records
