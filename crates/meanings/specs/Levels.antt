-- The denominator of a level, in the table that the flags pick.
use Rattle.std.specs.Prelude.{ℕ, get_or}
use Rattle.layout.specs.Shared.Visibility.{table_of}

unfoldable pub denominator_of : ℕ → ℕ → ℕ
denominator_of flags level = get_or (table_of flags) level 0
