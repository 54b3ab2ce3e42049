-- A value of a good length has room for its closing zeros (`sized`), and these are the last check (`value-closed`).
use Prim.Native.Nat.{◌-◌}
use mathlib.Core.List.{[], ◌∷◌}
use lib.ListN.{length, take, drop}
use native.Mathlib.Omega.{arith}
use Rattle.std.proofs.Common.{rules}
use Rattle.fields.specs.Kinds.{kind_by}
use Rattle.layout.specs.Refusals.{TEXT}
use Rattle.layout.specs.Shared.Row
use Rattle.layout.specs.Shared.Types.{is_closed}
use Rattle.layout.specs.Walk.{must}
use Rattle.writing_check.proofs.Laws.Items.{Sized, value-sized, value-closed}
use Rattle.writing_check.proofs.Laws.Moves.{then_checked, then_refused}
use Rattle.writing_check.specs.Items.{size_rules}
use Rattle.writing_check.proofs.items.ItemNumbers.value_rules.Goals as goal
use Rattle.writing_check.proofs.items.ItemNumbers.value_rules.Goals.{In_ok-size_rules}

sized : (c : In_ok-size_rules) → Sized c.args.self (kind_by c.args.k) (length c.args.bytes.now - c.args.at)
sized c =
    value-sized c.args.self (kind_by c.args.k) (length c.args.bytes.now - c.args.at) _ c.size_rules.result c.size_rules.ensures
    c.in_ok-size_rules.was

pub overflow_add-end : goal.overflow_add-end
overflow_add-end c = omega (arith, sized (goal.at.overflow_add-end c).In_ok-size_rules)

pub overflow_sub-end : goal.overflow_sub-end
overflow_sub-end c = omega (arith, sized (goal.at.overflow_sub-end c).In_ok-size_rules, c.closing-zeros.ensures.0)

pub part-requires : goal.part-requires
part-requires c = omega (arith, sized (goal.at.part-requires c).In_ok-size_rules, c.closing-zeros.ensures.0)

pub returns : goal.returns
returns c = λ y.
    then_checked y c.args.place (size_rules c.args.self (kind_by c.args.k) (length c.args.bytes.now - c.args.at))
    (must (is_closed (kind_by c.args.k) (take c.args.self.size (drop c.args.at c.args.bytes.now))) TEXT Row.item_length ∷ []) c.size_rules.result c.demand.result
    (c.size_rules.ensures y) c.in_ok-size_rules.was
    (rw (← value-closed c.args.bytes.now c.args.at c.args.self (kind_by c.args.k) c.requires.0 (sized (goal.at.returns c).In_ok-size_rules) _
    c.closing-zeros.ensures.0 _ c.part.ensures _ c.all_zero-closed.ensures) (search rules))

pub returns-in_err-size_rules : goal.returns-in_err-size_rules
returns-in_err-size_rules c = λ y.
    rw (← then_refused y c.args.place (size_rules c.args.self (kind_by c.args.k) (length c.args.bytes.now - c.args.at))
    (must (is_closed (kind_by c.args.k) (take c.args.self.size (drop c.args.at c.args.bytes.now))) TEXT Row.item_length ∷ []) c.size_rules.result _
    (c.size_rules.ensures y) c.in_err-size_rules.was) (search rules)
