-- The entry stands at its place (`entry_first`).
use Prim.Native.Nat.{◌<◌}
use native.Mathlib.Omega.{arith}
use Rattle.index.proofs.Laws.Places.{at_length, entry_first, entry_within, entry_past}
use Rattle.index.proofs.entries.IndexEntriesEntries.next.Goals as goal

pub entry_at-e-requires : goal.entry_at-e-requires
entry_at-e-requires c =
    let e = c.args.self.now in
    entry_within e.kind e.index.now e.from e.count (omega (arith, c.requires.1, at_length e.kind e.index.now e.from e.count))
    c.requires.0 _ c.place_of.ensures

pub overflow_sub-self : goal.overflow_sub-self
overflow_sub-self c =
    let e = c.args.self.now in
    omega (arith, c.requires.1, at_length e.kind e.index.now e.from e.count)

pub returns : goal.returns
returns c =
    let e = c.args.self.now in
    let some : 0 < e.count = omega (arith, c.requires.1, at_length e.kind e.index.now e.from e.count) in
    record {
      first = entry_first e.kind e.index.now e.from e.count some _ c.place_of.ensures _ c.entry_at-e.ensures;
      stands = entry_past e.kind e.index.now e.from e.count some c.requires.0;
    }
