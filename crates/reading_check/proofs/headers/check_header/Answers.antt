-- The lists of the header's checks in turn (`in_turn`), each as its function answers it.
use mathlib.Core.Path.{◌≡◌}
use Rattle.fields.specs.Headers.{header_of}
use Rattle.layout.specs.Reading.Records.{mark_checks}
use Rattle.reading_check.proofs.Laws.Headers.{in_turn}
use borrow.Author.Rules.{rules}
use Rattle.reading_check.proofs.headers.check_header.Goals as goal

pub returns-in_err-total_checks : goal.returns-in_err-total_checks
returns-in_err-total_checks c =
    rw (in_turn _ _ _ _, ← (c.total_checks.ensures c.args.year), c.in_err-total_checks.was) (search rules)

pub returns-in_err-demand : goal.returns-in_err-demand
unfolding header_of
returns-in_err-demand c =
    rw (in_turn _ _ _ _, ← (c.total_checks.ensures c.args.year), c.in_ok-total_checks.was) (search rules)

pub returns-in_err-reference_checks : goal.returns-in_err-reference_checks
unfolding header_of
returns-in_err-reference_checks c =
    rw (in_turn _ _ _ _, ← (c.total_checks.ensures c.args.year), c.in_ok-total_checks.was) (search rules)

pub returns : goal.returns
unfolding header_of mark_checks
returns c =
    rw (in_turn _ _ _ _, ← (c.total_checks.ensures c.args.year), c.in_ok-total_checks.was) (search rules)
