-- The part that is written holds all bytes of the number (`le-wrote`).
use mathlib.Core.Path.{◌∙◌}
use native.Mathlib.Omega.{arith}
use Rattle.fields.proofs.Laws.Little.{le-wrote}
use Rattle.fields.proofs.numbers.U16Little.write.Goals as goal

pub returns : goal.returns
returns c =
    le-wrote 2 c.args.out.now c.args.w _ c.args.self _ (c.copy_from_slice.ensures.after ∙ c.to_le_bytes.ensures) (omega arith) c.requires
