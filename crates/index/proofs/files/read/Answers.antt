-- What all entries give, or the refusal of the index and nothing written.
use mathlib.Core.Path.{◌≡◌, refl}
use borrow.Author.Rules.{rules}
use Rattle.index.proofs.Laws.Told.{told_refused, told_given}
use Rattle.layout.specs.Index.Reading.{entries_in}
use Rattle.layout.specs.Index.Selecting.{each, entry_row, entry_rows}
use Rattle.std.specs.Prelude.{Err}
use Rattle.index.proofs.files.read.Goals as goal

pub returns : goal.returns
unfolding entry_rows
returns c =
    let good = rw c.in_ok-all.was at c.entries_of.ensures.good in
    let both = told_given (entries_in c.args.index.now) (each entry_row 0) c.args.entries.now _ good.0 _ refl _ _
    (c.read_in.ensures.answers, c.read_in.ensures.written) in
    record { answers = both.0; written = both.1 }

pub returns-in_err-all : goal.returns-in_err-all
unfolding entry_rows
returns-in_err-all c =
    let e : c.from_residual.result ≡ Err c.in_err-all.field-0.0 = search rules in
    let bad = rw c.in_err-all.was at c.entries_of.ensures.bad in
    let both = told_refused (entries_in c.args.index.now) (each entry_row 0) c.args.entries.now _ bad in
    rw e record { answers = both.0; written = both.1 }
