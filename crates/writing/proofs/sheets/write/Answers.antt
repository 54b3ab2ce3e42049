-- At a setting the sheet is written as `write_at` writes it (`at_setting`).
use lib.ListN.{length}
use Rattle.layout.specs.Answers.Lent.{head_of}
use Rattle.layout.specs.Writing.Tables.{table}
use Rattle.writing.proofs.Laws.Answered.{at_setting}
use Rattle.writing.proofs.sheets.write.Goals as goal

pub returns : goal.returns
returns c =
    let a = c.args in
    let h = head_of a.date.now a.designation.now a.scale a.title.now a.rest.now a.designation2.now a.carried.now in
    let t = table a.table.now a.elements.now a.bytes.now in
    let at = rw c.year.ensures at c.write_at.ensures in
    rw (at_setting a.setting h t (length a.out.now)) record { answers = at.answers; sheet = at.sheet }
