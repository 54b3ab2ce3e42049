-- The loop keeps `Going`: the items left, with those behind counted in, answer what all do; each item takes a byte at least, so it ends.
use Prim.Native.Nat.{◌-◌}
use lib.ListN.{length}
use Rattle.reading_check.specs.Tally.{WithinT}
use Rattle.layout.specs.Reading.Items.{item_walk}
use Rattle.layout.specs.Writing.Tables.{flatten_item}
use Rattle.reading_check.proofs.Laws.Fills.{Going}
use Rattle.reading_check.proofs.items.items.Given as goal

abbrev pub invariant-loop-acc : goal.invariant-loop-acc
invariant-loop-acc l = WithinT (length l.xs) 0 l.acc × Going flatten_item item_walk l.p l.xs l.year l.acc

abbrev pub decreases-loop-acc : goal.decreases-loop-acc
decreases-loop-acc l = length l.xs - l.acc.used
