use mathlib.Core.Path.{◌≡◌, ap, ◌∙◌}
use Prim.Native.Nat.{◌+◌, ◌*◌, ◌/◌}
use mathlib.Core.List.{[]}
use native.Mathlib.Omega.{arith}
use lib.ListN.{length, drop, get_or}
use Rattle.layout.specs.Bytes.{total}
use Rattle.fields.proofs.Laws.Lists.{chunk-there, total_on}
use Rattle.fields.proofs.sums.piece.Goals as goal

pub loop-bytes-preserved : goal.loop-bytes-preserved
loop-bytes-preserved c =
    let i = c.loop-bytes.bytes-index in
    let s = c.args.s.now in
    let next : (i + 1) * 64 ≡ i * 64 + 64 = omega arith in
    let n = length s / 64 in
    let there = ap (λ l. total (get_or l i [])) c.as_chunks.ensures.front ∙ ap total (chunk-there 64 n s i [] (omega (arith, c.as_chunks.ensures.front_len))) in
    omega (arith, there, total_on s (i * 64) 64, ap (λ n. total (drop n s)) next)
