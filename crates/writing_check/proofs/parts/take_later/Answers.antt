-- A part is the rules on its points, and then its pools (`part_takes`); points that are let through are below 2^32.
use lib.ListN.{get_or}
use native.Mathlib.Omega.{arith}
use Rattle.std.proofs.Common.{rules}
use Rattle.fields.proofs.Laws.Chain.{step_holds}
use Rattle.layout.specs.Layout.Sizes.{subobject_bytes}
use Rattle.layout.specs.Shared.Row.{reference_of}
use Rattle.layout.specs.Writing.Parts.{later_rules}
use Rattle.writing_check.specs.Places.{lists}
use Rattle.writing_check.proofs.Laws.Parts.{part_takes, later-small}
use Rattle.writing_check.proofs.parts.take_later.Goals as goal

pub take_pools-requires : goal.take_pools-requires
take_pools-requires c =
    let points = get_or c.args.t.now.numbers.now c.args.p.number 0 in
    let holds = step_holds 0 c.args.p.number (later_rules c.args.marked points) c.later_rules.result (c.later_rules.ensures 0) tt c.in_ok-later_rules.was in
    (c.requires.0, c.requires.1, later-small _ points holds, omega arith)

pub returns : goal.returns
returns c = λ y.
    rw (
      part_takes y (lists c.args.t.now) c.args.p (reference_of c.args.reference) (later_rules c.args.marked) (subobject_bytes (reference_of c.args.reference)),
      ← c.later_rules.ensures y,
      c.in_ok-later_rules.was,
    ) (c.take_pools.ensures y)

pub returns-in_err-later_rules : goal.returns-in_err-later_rules
returns-in_err-later_rules c = λ y.
    rw (
      part_takes y (lists c.args.t.now) c.args.p (reference_of c.args.reference) (later_rules c.args.marked) (subobject_bytes (reference_of c.args.reference)),
      ← c.later_rules.ensures y,
      c.in_err-later_rules.was,
    ) (search rules)
