-- The loop keeps: the sum and the total of the bytes left make the total of all, and it is at most 255 a byte.
use Prim.Native.Nat.{◌+◌, ◌*◌, ◌≤◌}
use mathlib.Core.Path.{◌≡◌}
use lib.ListN.{length, drop}
use Rattle.layout.specs.Bytes.{total}
use Rattle.fields.proofs.sums.block.Given as goal

abbrev pub invariant-loop-byte : goal.invariant-loop-byte
invariant-loop-byte l =
    (l.byte-index ≤ length l.s) × (l.sum + total (drop l.byte-index l.s) ≡ total l.s) × (l.sum ≤ 255 * l.byte-index)
