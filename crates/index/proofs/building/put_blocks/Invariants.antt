-- `Writing`: what is put and the blocks that are left make up the whole; a full block a turn, and then the last.
use Prim.Native.Nat.{◌+◌, ◌*◌, ◌≤◌}
use Rattle.index.proofs.Laws.Built.{blocks_left}
use Rattle.index.proofs.Laws.Writing.{Writing}
use Rattle.reading.specs.Found.{Hops}
use Rattle.index.proofs.building.put_blocks.Given as goal

abbrev pub invariant-loop-left : goal.invariant-loop-left
invariant-loop-left l =
    Hops l.left l.at l.s × (56 * l.number + l.left ≤ 3670016) × Writing l.initial.out 0 (blocks_left 0 l.count 452 l.s) l.out (512 * l.number) (blocks_left l.number l.left l.at l.s)

abbrev pub decreases-loop-left : goal.decreases-loop-left
decreases-loop-left l = l.left
