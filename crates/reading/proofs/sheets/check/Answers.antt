-- The setting's year is one of the nine, so that the sheet is read at it (`read_at`).
use mathlib.Core.Path.{◌∙◌}
use Rattle.reading.proofs.Laws.Settings.{read_at}
use Rattle.reading.proofs.sheets.check.Goals as goal

pub returns : goal.returns
returns c = rw (read_at c.args.setting c.args.s.now) (rw c.year.ensures at c.check.ensures)
