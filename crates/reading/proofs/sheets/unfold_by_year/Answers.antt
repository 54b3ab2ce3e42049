-- The year of the setting made is the one asked for (`known`), and where none is made its refusal is the answer and nothing is written.
use mathlib.Core.Path.{◌≡◌}
use Rattle.meanings.proofs.Laws.Settings.{known}
use Rattle.reading.proofs.Laws.Settings.{not_read}
use Rattle.reading.proofs.Laws.Unfolding.{refused_read}
use Rattle.std.specs.Prelude.{Err}
use borrow.Author.Rules.{rules}
use Rattle.reading.proofs.sheets.unfold_by_year.Goals as goal

pub returns : goal.returns
returns c =
    let at = rw (known c.args.year _ _ c.new.ensures c.in_ok-setting.was) at c.unfold.ensures in
    record { answers = at.answers; numbers = at.numbers; pool = at.pool; texts = at.texts }

pub returns-in_err-setting : goal.returns-in_err-setting
returns-in_err-setting c =
    let e : c.from_residual.result ≡ Err c.in_err-setting.field-0.0 = search rules in
    let all = refused_read c.args.year c.args.s.now c.args.table.now c.args.elements.now c.args.bytes.now _
    (not_read c.args.year _ _ c.new.ensures c.in_err-setting.was c.args.s.now) in
    rw e record { answers = all.0; numbers = all.1.0; pool = all.1.1.0; texts = all.1.1.1 }
