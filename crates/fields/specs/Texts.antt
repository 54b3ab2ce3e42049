-- What is answered of a text field.
use Rattle.std.specs.Prelude.{List, ℕ, length}
use Rattle.layout.specs.declared.TextAt.{TextAt}
use Rattle.layout.specs.Shared.Texts.{text_of, tail_of, is_clean}

-- "the text-field reading now answers the text before the first zero and whether the rest was clean" (02, 6)
abbrev pub text_at : List ℕ → TextAt
text_at xs = record { length = length (text_of xs); clean = is_clean (tail_of xs) }
