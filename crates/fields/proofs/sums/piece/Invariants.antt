-- The loop keeps what `few` keeps, a block a turn (contract of `block`); the bytes after the last block are the contract of `few`.
use Prim.Native.Nat.{◌+◌, ◌*◌, ◌≤◌}
use mathlib.Core.Path.{◌≡◌}
use lib.ListN.{length, drop}
use Rattle.layout.specs.Bytes.{total}
use Rattle.fields.proofs.sums.piece.Given as goal

abbrev pub invariant-loop-bytes : goal.invariant-loop-bytes
invariant-loop-bytes l =
    (l.bytes-index ≤ length l.blocks) × (l.sum + total (drop (l.bytes-index * 64) l.s) ≡ total l.s) × (l.sum ≤ 255 * (l.bytes-index * 64))
