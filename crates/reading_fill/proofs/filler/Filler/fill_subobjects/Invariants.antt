-- The loop keeps `Turns`: the later parts left, written onto the slices as they are, give what all n give; one part a turn.
use Rattle.reading_fill.specs.Parts.{subobject_in, subobject_size}
use Rattle.layout.specs.Writing.Tables.{flatten_part}
use Rattle.reading_fill.proofs.Laws.Loops.{Turns}
use Rattle.reading_fill.proofs.filler.Filler.fill_subobjects.Given as goal

abbrev pub invariant-loop : goal.invariant-loop
invariant-loop l = Turns (subobject_in l.s) (subobject_size l.s) flatten_part l.xs l.initial.acc l.initial.self l.n l.counter l.acc l.self
