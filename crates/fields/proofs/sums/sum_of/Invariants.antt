-- The loop keeps: the sum and the total of what the chunks have left make the total of all; a piece a turn (contract of `piece`).
use Prim.Native.Nat.{◌+◌, ◌*◌, ◌≤◌}
use mathlib.Core.Path.{◌≡◌}
use lib.ListN.{length}
use Rattle.layout.specs.Bytes.{total}
use Rattle.std.specs.Slice.Iter.{chunks_rest, chunks_size}
use Rattle.fields.proofs.sums.sum_of.Given as goal

abbrev pub invariant-loop-bytes : goal.invariant-loop-bytes
invariant-loop-bytes l =
    (chunks_size l.bytes-iterator ≡ 16777216) × (l.sum + total (chunks_rest l.bytes-iterator) ≡ total l.s)
    × (l.sum + 255 * length (chunks_rest l.bytes-iterator) ≤ 255 * length l.s)
