-- `Going`: so many blocks are good, and what is left answers what the whole does; one block a turn.
use mathlib.Core.Path.{◌≡◌}
use Prim.Native.Nat.{◌-◌, ◌*◌, ◌≤◌}
use lib.ListN.{length}
use Rattle.index.proofs.Laws.Checking.{Going}
use Rattle.index.proofs.files.check.Given as goal

abbrev pub invariant-loop-at : goal.invariant-loop-at
invariant-loop-at l = (l.at ≡ 512 * l.blocks) × (l.at ≤ length l.index) × (l.entries ≤ 63 * l.blocks) × Going l.index l.blocks l.entries

abbrev pub decreases-loop-at : goal.decreases-loop-at
decreases-loop-at l = length l.index - l.at
