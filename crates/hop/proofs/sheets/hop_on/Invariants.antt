-- What is left answers what the whole does (`onward`); one header a turn.
use lib.ListN.{length}
use mathlib.Core.Path.{◌≡◌}
use Prim.Native.Nat.{◌≤◌}
use Rattle.hop.proofs.Laws.Headers.{onward}
use Rattle.layout.specs.Bytes.{number_in}
use Rattle.layout.specs.Fields.Descriptor
use Rattle.layout.specs.Hop.{hop_from}
use Rattle.layout.specs.Walk.{answer, always}
use Rattle.hop.proofs.sheets.hop_on.Given as goal

abbrev pub invariant-loop-seen : goal.invariant-loop-seen
invariant-loop-seen l =
    (l.seen ≤ l.count) × (l.at ≤ length l.s) × (onward l.code l.s l.count l.seen l.at ≡ answer always (hop_from l.code (number_in Descriptor.count l.s) 0 452 l.s))
