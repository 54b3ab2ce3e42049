use native.Mathlib.Omega.{arith}
use Rattle.reading_check.proofs.Laws.Loop.{same_start, same_done, same_stop, same_turn, sum_ok, within-turn}
use borrow.Author.Rules.{rules}
use Rattle.std.specs.Prelude.{Err}
use mathlib.Core.Path.{◌≡◌}
use Rattle.reading_check.proofs.parts.subobjects.Goals as goal

pub loop-init : goal.loop-init
loop-init c = rw c.none-acc.ensures (omega arith, λ y. same_start _ _ _ _ _ y _ (omega arith))

pub and-acc-requires : goal.and-acc-requires
and-acc-requires c =
    sum_ok c.args.xs.now _ c.loop.invariant.0 c.subobject.result c.subobject.ensures.within _
    c.in_ok-z.was (omega arith)

pub returns-in_err-z : goal.returns-in_err-z
returns-in_err-z c =
    let e : c.from_residual.result ≡ Err c.in_err-z.field-0.0 = search rules in
    rw e
    (record {
      means = λ y. same_stop _ _ _ _ _ y _ _ (c.loop.invariant.1 y) (omega arith) c.subobject.result
          (c.subobject.ensures.means y) _ c.in_err-z.was;
      within = tt;
    })

pub loop-preserved : goal.loop-preserved
loop-preserved c = (
  within-turn c.args.xs.now _ c.loop.invariant.0 c.subobject.result c.subobject.ensures.within _
      c.in_ok-z.was _ c.and-acc.ensures,
  λ y. same_turn _ _ _ _ _ y _ _ (c.loop.invariant.1 y) (omega arith) c.subobject.result (c.subobject.ensures.means y) _
      c.in_ok-z.was _ c.and-acc.ensures _ (omega arith),
)

pub returns : goal.returns
returns c =
    record { means = λ y. same_done _ _ _ _ _ y _ _ (c.loop.invariant.1 y) (omega arith); within = c.loop.invariant.0 }
