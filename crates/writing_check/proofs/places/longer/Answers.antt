-- Up to the limit the sum is kept as it is; past it one more than the limit stands for every length (`capped-past`).
use Rattle.writing_check.proofs.Laws.Moves.{capped-past}
use borrow.Author.Tests.{le-leb}
use Rattle.writing_check.proofs.places.longer.Goals as goal

pub returns-then-sum-le-LIMIT : goal.returns-then-sum-le-LIMIT
returns-then-sum-le-LIMIT c = rw (le-leb _ _ c.if-sum-le-LIMIT.true)

pub returns : goal.returns
returns c = capped-past _ c.if-sum-le-LIMIT.false
