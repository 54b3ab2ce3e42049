-- The year of the setting made is the one asked for (`known`), and where none is made its refusal is the answer (`not_read`).
use mathlib.Core.Path.{◌≡◌}
use mathlib.Core.Path.{refl}
use Rattle.layout.specs.Answers.Enums.{unit_in}
use Rattle.meanings.proofs.Laws.Settings.{known}
use Rattle.reading.proofs.Laws.Settings.{not_read}
use Rattle.std.specs.Prelude.{Err}
use borrow.Author.Rules.{rules}
use Rattle.reading.proofs.heads.unit_by_year.Goals as goal

pub returns : goal.returns
returns c = rw (known c.args.year _ _ c.new.ensures c.in_ok-setting.was) at c.unit_of.ensures

pub returns-in_err-setting : goal.returns-in_err-setting
unfolding unit_in
returns-in_err-setting c =
    let e : c.from_residual.result ≡ Err c.in_err-setting.field-0.0 = search rules in
    rw (e, not_read c.args.year _ _ c.new.ensures c.in_err-setting.was c.args.s.now) refl
