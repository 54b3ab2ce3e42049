-- The start is refused (`start-refused`), or the hop is what `hop_on` answers (`start_on`).
use mathlib.Core.Path.{◌≡◌, ap, sym, ◌∙◌}
use borrow.Author.Rules.{rules}
use Rattle.hop.proofs.Laws.Checks.{started}
use Rattle.hop.proofs.Laws.Headers.{start_on, start-refused}
use Rattle.layout.specs.Answers.Enums.{hopped_of}
use Rattle.std.specs.Prelude.{Err}
use Rattle.hop.proofs.sheets.first_with.Goals as goal

pub hop_on-requires : goal.hop_on-requires
hop_on-requires c = started c.args.s.now c.check_start.result c.check_start.ensures c.in_ok-check_start.was

pub returns : goal.returns
returns c =
    c.hop_on.ensures
    ∙ sym (ap hopped_of (start_on c.args.code c.args.s.now c.check_start.result c.check_start.ensures c.in_ok-check_start.was))

pub returns-in_err-check_start : goal.returns-in_err-check_start
returns-in_err-check_start c =
    let e : c.from_residual.result ≡ Err c.in_err-check_start.field-0.0 = search rules in
    rw e (start-refused c.args.code c.args.s.now c.check_start.result c.check_start.ensures _ c.in_err-check_start.was)
