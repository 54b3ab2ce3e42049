-- The same for the three numbers of each entry.
use mathlib.Core.Path.{◌≡◌}
use Prim.Native.Nat.{◌+◌, ◌*◌}
use lib.ListN.{length}
use Rattle.index.proofs.Laws.Writing.{Writing}
use Rattle.layout.specs.Index.Selecting.{each, entry_row}
use Rattle.index.proofs.files.put_entries.Given as goal

abbrev pub invariant-loop-i : goal.invariant-loop-i
invariant-loop-i g l =
    g.E.Entries.stand l.rest × (l.i + length (g.E.Entries.left l.rest) ≡ l.count)
    × Writing l.initial.entries 0 (each entry_row 0 (g.E.Entries.left l.fn.listed)) l.entries (3 * l.i) (each entry_row l.i (g.E.Entries.left l.rest))
