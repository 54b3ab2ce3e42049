-- Points below 2^32 times a point's size cannot wrap (`product_fits`); with or without a text it is the definition's sum.
use native.Mathlib.Omega.{arith}
use native.Mathlib.Nat.{add-zero}
use Rattle.fields.proofs.Laws.Widths.{product_fits}
use Rattle.writing_check.proofs.parts.part_length.Goals as goal

pub overflow_mul-n : goal.overflow_mul-n
overflow_mul-n c =
    let l = product_fits c.args.points c.point_size.result c.requires.0 c.point_size.ensures.1 in
    omega (arith, l)

pub overflow_add-result-then-s : goal.overflow_add-result-then-s
overflow_add-result-then-s c =
    let l = product_fits c.args.points c.point_size.result c.requires.0 c.point_size.ensures.1 in
    omega (arith, l)

pub returns-then-s : goal.returns-then-s
returns-then-s c =
    let l = product_fits c.args.points c.point_size.result c.requires.0 c.point_size.ensures.1 in
    (rw (c.if-s.true, ← c.point_size.ensures.0), omega (arith, l))

pub returns : goal.returns
returns c =
    let l = product_fits c.args.points c.point_size.result c.requires.0 c.point_size.ensures.1 in
    (rw (c.if-s.false, ← c.point_size.ensures.0, add-zero), omega (arith, l))
