-- The year of the setting made is the one asked for (`known`), and where none is made its refusal is the answer and nothing is written.
use mathlib.Core.Path.{◌≡◌}
use borrow.Author.Rules.{rules}
use Rattle.index.proofs.Laws.Told.{told_refused}
use Rattle.layout.specs.Answers.Calls.{reading}
use Rattle.layout.specs.Index.Blocks.{encode_index}
use Rattle.layout.specs.declared.BlockKind.TheVariants.{New}
use Rattle.layout.specs.Index.Selecting.{entries_of, index_by}
use Rattle.layout.specs.Reading.Sheets.{start}
use Rattle.layout.specs.Sheet.{Sheet}
use Rattle.reading.proofs.Laws.Settings.{not_read}
use Rattle.std.specs.Prelude.{Err}
use Rattle.index.proofs.sheets.build_by_year.Goals as goal

pub returns-in_err-setting : goal.returns-in_err-setting
unfolding index_by
returns-in_err-setting c =
    let e : c.from_residual.result ≡ Err c.in_err-setting.field-0.0 = search rules in
    let both = told_refused (reading c.args.year c.args.s.now) (λ (t : Sheet). encode_index New (entries_of start t.records))
    c.args.index.now _ (not_read c.args.year _ _ c.new.ensures c.in_err-setting.was c.args.s.now) in
    rw e record { answers = both.0; written = both.1 }
