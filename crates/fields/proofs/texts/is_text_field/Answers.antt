-- The text is not all of the field exactly where there is a zero (`no_zero_lem`).
use mathlib.Core.Bool.{not}
use mathlib.Core.Path.{ap, ◌∙◌}
use Prim.Native.Nat.{ℕ}
use lib.Dec.{eqb}
use lib.ListN.{length}
use Rattle.laws.proofs.Base.Texts.{no_zero_lem}
use Rattle.fields.proofs.texts.is_text_field.Goals as goal

pub returns : goal.returns
returns c =
    let s = c.args.s.now in
    ap (λ (n : ℕ). not (eqb n (length s))) c.text_length.ensures ∙ ap not (no_zero_lem s)
