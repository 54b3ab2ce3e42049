-- What all entries give, or the refusal of the index and nothing written.
use mathlib.Core.Path.{◌≡◌, refl}
use borrow.Author.Rules.{rules}
use Rattle.index.proofs.Laws.Told.{told_refused, told_given}
use Rattle.layout.specs.Index.Reading.{entries_in}
use Rattle.layout.specs.Index.Selecting.{each, pick_entry, selected}
use Rattle.std.specs.Prelude.{Err}
use Rattle.index.proofs.files.select.Goals as goal

pub returns : goal.returns
unfolding selected
returns c =
    let good = rw c.in_ok-all.was at c.entries_of.ensures.good in
    let both = told_given (entries_in c.args.index.now) (each (pick_entry c.args.code) 0) c.args.picks.now _ good.0 _ refl _ _
    (c.select_in.ensures.answers, c.select_in.ensures.written) in
    record { answers = both.0; written = both.1 }

pub returns-in_err-all : goal.returns-in_err-all
unfolding selected
returns-in_err-all c =
    let e : c.from_residual.result ≡ Err c.in_err-all.field-0.0 = search rules in
    let bad = rw c.in_err-all.was at c.entries_of.ensures.bad in
    let both = told_refused (entries_in c.args.index.now) (each (pick_entry c.args.code) 0) c.args.picks.now _ bad in
    rw e record { answers = both.0; written = both.1 }
