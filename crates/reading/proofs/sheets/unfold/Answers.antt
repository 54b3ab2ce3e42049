-- Five ways out: the sheet's refusal, three slices too small (`short_1` to `short_3`), or all fits and what fill wrote is the table (`filled_right`).
use native.Mathlib.Omega.{arith}
use Rattle.reading.proofs.Laws.Seen.{seen}
use Rattle.reading.proofs.Laws.Unfolding.{refused_right, short_1, short_2, short_3, fits, filled_right}
use borrow.Author.Rules.{rules}
use Rattle.std.specs.Prelude.{Err}
use mathlib.Core.Path.{◌≡◌}
use Rattle.reading.proofs.sheets.unfold.Goals as goal

pub returns-then-table-sizes : goal.returns-then-table-sizes
returns-then-table-sizes c =
    let both = short_1 c.args.setting.year c.args.s.now c.args.table.now c.args.elements.now c.args.bytes.now _
    (seen _ _ _ _ c.check.ensures c.in_ok-sizes.was) (omega (arith, c.if-table-sizes.true)) in
    rw c.refused.ensures record { answers = both.0; numbers = both.1.0; pool = both.1.1.0; texts = both.1.1.1 }

pub returns-then-elements-sizes : goal.returns-then-elements-sizes
returns-then-elements-sizes c =
    let both = short_2 c.args.setting.year c.args.s.now c.args.table.now c.args.elements.now c.args.bytes.now _
    (seen _ _ _ _ c.check.ensures c.in_ok-sizes.was) (omega (arith, c.if-table-sizes.false))
    (omega (arith, c.if-elements-sizes.true)) in
    rw c.refused-then-elements-sizes.ensures record { answers = both.0; numbers = both.1.0; pool = both.1.1.0; texts = both.1.1.1 }

pub returns-then-bytes-sizes : goal.returns-then-bytes-sizes
returns-then-bytes-sizes c =
    let both = short_3 c.args.setting.year c.args.s.now c.args.table.now c.args.elements.now c.args.bytes.now _
    (seen _ _ _ _ c.check.ensures c.in_ok-sizes.was) (omega (arith, c.if-table-sizes.false))
    (omega (arith, c.if-elements-sizes.false)) (omega (arith, c.if-bytes-sizes.true)) in
    rw c.refused-then-bytes-sizes.ensures record { answers = both.0; numbers = both.1.0; pool = both.1.1.0; texts = both.1.1.1 }

pub fill-requires : goal.fill-requires
fill-requires c =
    fits c.args.setting.year c.args.s.now c.args.table.now c.args.elements.now c.args.bytes.now _
    (seen _ _ _ _ c.check.ensures c.in_ok-sizes.was) (omega (arith, c.if-table-sizes.false))
    (omega (arith, c.if-elements-sizes.false)) (omega (arith, c.if-bytes-sizes.false))

pub returns : goal.returns
returns c =
    let both = filled_right c.args.setting.year c.args.s.now c.args.table.now c.args.elements.now
    c.args.bytes.now _ (seen _ _ _ _ c.check.ensures c.in_ok-sizes.was)
    (omega (arith, c.if-table-sizes.false)) (omega (arith, c.if-elements-sizes.false)) (omega (arith, c.if-bytes-sizes.false)) _ _ _ c.fill.ensures in
    record { answers = both.0; numbers = both.1.0; pool = both.1.1.0; texts = both.1.1.1 }

pub returns-in_err-sizes : goal.returns-in_err-sizes
returns-in_err-sizes c =
    let e : c.from_residual.result ≡ Err c.in_err-sizes.field-0.0 = search rules in
    let both = refused_right c.args.setting.year c.args.s.now c.args.table.now c.args.elements.now
    c.args.bytes.now _ _ c.check.ensures c.in_err-sizes.was in
    rw e record { answers = both.0; numbers = both.1.0; pool = both.1.1.0; texts = both.1.1.1 }
