-- Too short, or a bad count, or all four tests at once: the ways out of `good_block`.
use mathlib.Core.List.{List}
use mathlib.Core.Path.{ap}
use Prim.Native.Nat.{ℕ}
use lib.ListN.{length, drop, length-drop}
use native.Mathlib.Omega.{arith}
use Rattle.fields.proofs.Laws.Lists.{part_length}
use Rattle.index.proofs.Laws.Blocks.{good-short, at_count, at-is}
use Rattle.index.proofs.blocks.good_block.Goals as goal

pub returns-then-left-lt-SIZE : goal.returns-then-left-lt-SIZE
returns-then-left-lt-SIZE c =
    let index : List ℕ =
    c.args.index.now in
    let index = c.args.index.now in
    good-short c.args.kind c.args.number (drop c.args.at index) (omega (arith, length-drop c.args.at index))

pub returns-then-not-good_count : goal.returns-then-not-good_count
returns-then-not-good_count c =
    let index : List ℕ =
    c.args.index.now in
    at_count c.args.kind c.args.number index c.args.at c.at-count.result
    c.at-count.ensures c.good_count.result
    c.good_count.ensures c.if-not-good_count.true

pub sum_of-sum-requires : goal.sum_of-sum-requires
sum_of-sum-requires c =
    let index : List ℕ =
    c.args.index.now in
    omega (arith, ap length c.part.ensures, part_length index c.args.at 510 (omega arith))

pub returns : goal.returns
returns c =
    let index : List ℕ =
    c.args.index.now in
    at-is c.args.kind c.args.number index c.args.at c.at-count.result
    c.at-count.ensures c.good_count.result
    c.good_count.ensures c.if-not-good_count.false (omega arith) c.at.result c.at.ensures
    c.unused_zero-filled.result c.unused_zero-filled.ensures c.at-2.result c.ending_is.result
    c.at-2.ensures c.ending_is.ensures
    c.at-3.result c.sum_of-sum.result c.part.result.now c.at-3.ensures c.sum_of-sum.ensures.0
    c.part.ensures
