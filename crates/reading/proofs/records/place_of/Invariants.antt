-- The loop keeps `Hops`: the headers still to pass lie within the sheet, and hopping on from here leads to the same place; one hop a turn.
use Prim.Native.Nat.{◌-◌}
use mathlib.Core.Path.{◌≡◌}
use Rattle.layout.specs.Reading.Hops.{place_in}
use Rattle.reading.specs.Found.{Hops}
use Rattle.reading.proofs.records.place_of.Given as goal

abbrev pub invariant-loop : goal.invariant-loop
invariant-loop l = Hops (l.number - l.counter) l.at l.s × (place_in (l.number - l.counter) l.at l.s ≡ place_in l.number 452 l.s)
