-- The slice that is summed is the first n bytes, no longer than the limit; what is put at 12 is then the sum of just these bytes.
use Prim.Native.Nat.{ℕ}
use mathlib.Core.Path.{sym, ap, ◌∙◌}
use lib.Seq.{sets, length-take-le}
use Rattle.layout.specs.Bytes.{bytes}
use native.Mathlib.Omega.{arith}
use Rattle.writing_head.proofs.emit.emit_sum.Goals as goal

pub slice_bounds-sheet_sum-end-2 : goal.slice_bounds-sheet_sum-end-2
slice_bounds-sheet_sum-end-2 c =
    sym (length-take-le c.args.n c.args.out.now c.requires.1)

pub sheet_sum-sum-requires : goal.sheet_sum-sum-requires
sheet_sum-sum-requires c =
    let l = length-take-le c.args.n c.args.out.now c.requires.1 in
    (omega (arith, l, c.requires.0), omega (arith, l, c.requires.2))

pub returns : goal.returns
returns c =
    let out = c.args.out.now in
    c.put.ensures ∙ ap (λ (v : ℕ). sets out 12 (bytes 4 v)) c.sheet_sum-sum.ensures
