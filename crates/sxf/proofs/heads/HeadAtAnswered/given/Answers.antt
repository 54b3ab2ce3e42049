-- Each flag is 1 where the field is clean, and else 0 (`one_if`).
use Rattle.std.proofs.Common.{◌≡◌, Bool, true, false, cond, refl, ◌∙◌}
use mir.Val.{bool_byte}
use Rattle.layout.specs.Answers.Structs.{head_row}
use Rattle.sxf.proofs.heads.HeadAtAnswered.given.Goals as goal

one_if : (b : Bool) → bool_byte b ≡ cond b 1 0
one_if true = refl
one_if false = refl

pub returns : goal.returns
unfolding head_row
returns c =
    rw (c.from.ensures ∙ one_if _, c.from-2.ensures ∙ one_if _, c.from-3.ensures ∙ one_if _, c.from-4.ensures ∙ one_if _) refl
