-- An item is the rules on it, and then the places after it (`item_moves`).
use mathlib.Core.Path.{refl}
use native.Mathlib.Omega.{arith}
use Rattle.std.proofs.Common.{rules}
use Rattle.writing_check.specs.Places.{lists, with_elements}
use Rattle.fields.proofs.Laws.Chain.{step_holds}
use Rattle.writing_check.proofs.Laws.Items.{item_checks, item_fits, item_moves}
use Rattle.writing_check.proofs.items.take_item.Goals as goal

pub overflow_add-result-2 : goal.overflow_add-result-2
overflow_add-result-2 c =
    let t = lists c.args.t.now in
    let a = c.read-a.result in
    omega (
      arith,
      item_fits c.args.year t c.args.p a c.read-a.ensures (step_holds c.args.year c.args.p.number
          (item_checks c.args.year t c.args.p a c.read-a.ensures) c.rules.result c.rules.ensures tt c.in_ok-rules.was),
    )

pub length-requires : goal.length-requires
length-requires c =
    let t = lists c.args.t.now in
    let a = c.read-a.result in
    (item_fits c.args.year t c.args.p a c.read-a.ensures (step_holds c.args.year c.args.p.number
    (item_checks c.args.year t c.args.p a c.read-a.ensures) c.rules.result c.rules.ensures tt c.in_ok-rules.was)).0

pub returns : goal.returns
returns c = λ es.
    rw (
      item_moves c.args.year (with_elements es c.args.t.now) c.args.p c.read-a.result c.read-a.ensures,
      ← c.rules.ensures,
      c.in_ok-rules.was,
      c.longer.ensures,
      c.length.ensures.0,
      c.from-k.ensures,
    ) refl

pub returns-in_err-rules : goal.returns-in_err-rules
returns-in_err-rules c = λ es.
    rw (item_moves c.args.year (with_elements es c.args.t.now) c.args.p c.read-a.result c.read-a.ensures, ← c.rules.ensures, c.in_err-rules.was) (search rules)
