-- A part's pools are the rules on them, and then the places after it (`pool_takes`).
use mathlib.Core.Path.{refl}
use native.Mathlib.Omega.{arith}
use Rattle.std.proofs.Common.{rules}
use Rattle.fields.proofs.Laws.Chain.{step_holds}
use Rattle.layout.specs.Shared.Row.{reference_of}
use Rattle.writing_check.specs.Places.{lists}
use Rattle.writing_check.proofs.Laws.Parts.{pool_checks, pools_fit, pool_takes}
use Rattle.writing_check.proofs.parts.take_pools.Goals as goal

pub overflow_add-result-3 : goal.overflow_add-result-3
overflow_add-result-3 c =
    let t = lists c.args.t.now in
    let ref = reference_of c.args.reference in
    omega (
      arith,
      pools_fit 0 t c.args.p ref _ c.shape_in-s.ensures c.args.points c.args.size c.args.head (step_holds 0 c.args.p.number
          (pool_checks 0 t c.args.p ref _ c.shape_in-s.ensures c.args.points c.args.size c.args.head) c.pool_rules.result (c.pool_rules.ensures 0) tt
          c.in_ok-pool_rules.was),
    )

pub part_length-requires : goal.part_length-requires
part_length-requires c =
    let t = lists c.args.t.now in
    let ref = reference_of c.args.reference in (
      c.requires.2,
      (pools_fit 0 t c.args.p ref _ c.shape_in-s.ensures c.args.points c.args.size c.args.head (step_holds 0 c.args.p.number
          (pool_checks 0 t c.args.p ref _ c.shape_in-s.ensures c.args.points c.args.size c.args.head) c.pool_rules.result (c.pool_rules.ensures 0) tt
          c.in_ok-pool_rules.was)).1,
    )

pub returns : goal.returns
returns c = λ y.
    rw (
      pool_takes y (lists c.args.t.now) c.args.p (reference_of c.args.reference) _ c.shape_in-s.ensures c.args.points c.args.size c.args.head,
      ← c.pool_rules.ensures y,
      c.in_ok-pool_rules.was,
      c.longer.ensures,
      c.part_length.ensures.0,
      c.elements_of.ensures.0,
    ) refl

pub returns-in_err-pool_rules : goal.returns-in_err-pool_rules
returns-in_err-pool_rules c = λ y.
    rw (
      pool_takes y (lists c.args.t.now) c.args.p (reference_of c.args.reference) _ c.shape_in-s.ensures c.args.points c.args.size c.args.head,
      ← c.pool_rules.ensures y,
      c.in_err-pool_rules.was,
    ) (search rules)
