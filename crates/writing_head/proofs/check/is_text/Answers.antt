-- A text shorter than its field is good exactly if all of it stands before its first zero (`short-text`).
use native.Mathlib.Omega.{arith}
use Rattle.writing_head.proofs.Laws.Texts.{short-text}
use Rattle.writing_head.proofs.check.is_text.Goals as goal

pub returns-then-text-width : goal.returns-then-text-width
returns-then-text-width c =
    short-text c.args.text.now c.args.width _ c.text_length.ensures (omega arith)
