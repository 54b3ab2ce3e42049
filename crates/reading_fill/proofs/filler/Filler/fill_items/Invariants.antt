-- The loop keeps `ToEnd`: the items left, written onto the slices as they are, give the whole; each takes a byte at least, so it ends.
use Prim.Native.Nat.{◌-◌}
use lib.ListN.{length}
use Rattle.layout.specs.Reading.Items.{item_in, item_size}
use Rattle.layout.specs.Writing.Tables.{flatten_item}
use Rattle.reading_fill.proofs.Laws.Loops.{ToEnd}
use Rattle.reading_fill.proofs.Laws.Items.{item_grows}
use Rattle.reading_fill.proofs.filler.Filler.fill_items.Given as goal

abbrev pub invariant-loop-acc : goal.invariant-loop-acc
invariant-loop-acc l = ToEnd item_in item_size flatten_item l.xs l.initial.acc l.initial.self item_grows l.acc l.self

abbrev pub decreases-loop-acc : goal.decreases-loop-acc
decreases-loop-acc l = length l.xs - l.acc.place
