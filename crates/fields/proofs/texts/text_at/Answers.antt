-- From the end of the text on there are only zeros exactly if the tail is clean (`tail-zeros`): the first of them ends the text.
use Prim.Native.Nat.{ℕ}
use lib.ListN.{drop}
use mathlib.Core.Path.{◌≡◌, ap, ◌∙◌}
use native.Mathlib.Omega.{arith}
use Rattle.layout.specs.Bytes.{zeros}
use Rattle.layout.specs.Shared.Texts.{tail_of, is_clean}
use Rattle.laws.proofs.Base.Texts.{text-short, tail-zeros}
use Rattle.fields.proofs.texts.text_at.Goals as goal

pub rest-requires : goal.rest-requires
rest-requires c = let short = text-short c.args.s.now in omega (arith, c.text_length-length.ensures, short)

pub returns : goal.returns
returns c =
    let s = c.args.s.now in
    let clean : c.all_zero-clean.result ≡ is_clean (tail_of s) =
    c.all_zero-clean.ensures ∙ ap zeros c.rest.ensures ∙ ap (λ (n : ℕ). zeros (drop n s)) c.text_length-length.ensures ∙ tail-zeros s in
    λ j. record { length = c.text_length-length.ensures j; clean = clean j }
