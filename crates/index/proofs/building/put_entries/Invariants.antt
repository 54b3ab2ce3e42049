-- `Writing`: what is put and the entries that are left make up the whole; one record a turn.
use mathlib.Core.Path.{◌≡◌}
use Prim.Native.Nat.{◌-◌}
use Rattle.index.specs.Hopped.{hopped, place_after}
use Rattle.reading.specs.Found.{Hops}
use Rattle.index.proofs.Laws.Writing.{Writing}
use Rattle.layout.specs.Bytes.{flat}
use Rattle.layout.specs.Index.Blocks.{encode_entry}
use Rattle.layout.specs.declared.BlockKind.TheVariants.{New}
use Rattle.index.proofs.building.put_entries.Given as goal

abbrev pub invariant-loop : goal.invariant-loop
invariant-loop l =
    Hops (l.n - l.counter) l.at l.s × (place_after (l.n - l.counter) l.at l.s ≡ place_after l.n l.first l.s)
    × Writing l.initial.out l.w (flat (encode_entry New) (hopped l.n l.first l.s)) l.out l.to (flat (encode_entry New) (hopped (l.n - l.counter) l.at l.s))
