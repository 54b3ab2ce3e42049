-- A long value's size stands before the value (`size-stated`), where there are bytes for it (`long-there`); any other follows from the type.
use native.Mathlib.Omega.{arith}
use Rattle.reading_check.proofs.Laws.Items.{long-there, size-stated, size-known}
use Rattle.reading_check.proofs.items.value_size.Goals as goal

pub at-requires : goal.at-requires
at-requires c =
    long-there c.args.xs.now _ c.requires.0 c.requires.1 c.if-k.true

pub returns-then-k : goal.returns-then-k
returns-then-k c =
    (size-stated c.args.xs.now _ c.requires.0 _ c.at.ensures c.if-k.true, omega arith)

pub returns : goal.returns
returns c =
    (size-known c.args.xs.now _ c.requires.0 c.if-k.false, omega arith)
