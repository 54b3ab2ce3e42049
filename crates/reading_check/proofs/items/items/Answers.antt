use native.Mathlib.Omega.{arith}
use mathlib.Core.Path.{◌≡◌}
use lib.ListN.{length}
use Rattle.reading_check.proofs.Laws.Loop.{sum_ok, within-turn, rest-within}
use Rattle.reading_check.proofs.Laws.Fills.{going_start, going_done, going_stop, going_turn, going_less}
use Rattle.reading_check.proofs.Laws.Items.{item-sized}
use borrow.Author.Rules.{rules}
use Rattle.std.specs.Prelude.{Err}
use Rattle.reading_check.proofs.items.items.Goals as goal

pub loop-acc-init : goal.loop-acc-init
loop-acc-init c = rw c.none-acc.ensures (omega arith, going_start _ _ _ _ _)

pub and-acc-requires : goal.and-acc-requires
and-acc-requires c =
    sum_ok c.args.xs.now _ c.loop-acc.invariant.0 c.item.result c.item.ensures.within _ c.in_ok-z.was
    (omega arith)

pub loop-acc-smaller : goal.loop-acc-smaller
loop-acc-smaller c =
    let l = going_less _ _ _ _ _ (item-sized _) _ c.loop-acc.invariant.1 c.loop-acc-test.true c.item.result
    c.item.ensures.means _ c.in_ok-z.was in
    let w = rest-within _ _ c.args.xs.now c.item.result c.item.ensures.within _ c.in_ok-z.was in
    rw c.and-acc.ensures (omega (arith, l, w))

pub loop-acc-preserved : goal.loop-acc-preserved
loop-acc-preserved c = (
  within-turn c.args.xs.now _ c.loop-acc.invariant.0 c.item.result c.item.ensures.within _ c.in_ok-z.was _
      c.and-acc.ensures,
  going_turn _ _ _ _ _ (item-sized _) _ c.loop-acc.invariant.1 c.loop-acc-test.true c.item.result c.item.ensures.means
      _ c.in_ok-z.was _ c.and-acc.ensures,
)

pub returns-in_err-z : goal.returns-in_err-z
returns-in_err-z c =
    let e : c.from_residual.result ≡ Err c.in_err-z.field-0.0 = search rules in
    rw e
    (record {
      means = going_stop _ _ _ _ _ (item-sized _) _ c.loop-acc.invariant.1 c.loop-acc-test.true c.item.result
          c.item.ensures.means _ c.in_err-z.was;
      within = tt;
    })

pub returns : goal.returns
returns c =
    let e : c.loop-acc.acc.used ≡ length c.args.xs.now = omega arith in
    record { means = going_done _ _ _ _ _ _ c.loop-acc.invariant.1 e; within = c.loop-acc.invariant.0 }
