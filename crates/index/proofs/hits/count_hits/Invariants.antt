-- What is counted and what the entries that are left give make up the whole; one entry a turn.
use mathlib.Core.Path.{◌≡◌}
use Prim.Native.Nat.{◌+◌, ◌*◌, ◌≤◌}
use lib.ListN.{length}
use Rattle.layout.specs.Index.Selecting.{each, pick_entry}
use Rattle.index.proofs.hits.count_hits.Given as goal

abbrev pub invariant-loop-i : goal.invariant-loop-i
invariant-loop-i g l =
    g.E.Entries.stand l.rest × (l.i + length (g.E.Entries.left l.rest) ≡ l.count) × (l.n ≤ 3 * l.i)
    × (l.n + length (each (pick_entry l.code) l.i (g.E.Entries.left l.rest)) ≡ length (each (pick_entry l.code) 0 (g.E.Entries.left l.fn.entries)))
