-- The rules on the head, and after them those on the value, are the rules on an item.
use Prim.Native.Nat.{◌-◌}
use lib.ListN.{length, drop, length-drop}
use borrow.Author.Tests.{ltb-true}
use Rattle.std.proofs.Common.{rules}
use Rattle.fields.proofs.Laws.Chain.{step_holds}
use Rattle.fields.specs.Kinds.{kind_by}
use Rattle.writing_check.specs.Items.{head_rules, value_rules, item_rules_lem}
use Rattle.writing_check.proofs.Laws.Moves.{then_checked, then_refused}
use Rattle.writing_check.proofs.items.ItemNumbers.rules.Goals as goal

pub returns : goal.returns
returns c =
    rw (← item_rules_lem c.args.self (kind_by c.args.k) (drop c.args.at c.args.bytes.now) c.requires.2, length-drop c.args.at c.args.bytes.now)
    (then_checked c.args.year c.args.place (head_rules c.args.self (kind_by c.args.k))
    (value_rules c.args.self (kind_by c.args.k) (length c.args.bytes.now - c.args.at) (drop c.args.at c.args.bytes.now)) c.head_rules.result
    c.value_rules.result c.head_rules.ensures c.in_ok-head_rules.was (c.value_rules.ensures c.args.year))

pub returns-in_err-head_rules : goal.returns-in_err-head_rules
returns-in_err-head_rules c =
    rw (← item_rules_lem c.args.self (kind_by c.args.k) (drop c.args.at c.args.bytes.now) c.requires.2, length-drop c.args.at c.args.bytes.now)
    (rw (← then_refused c.args.year c.args.place (head_rules c.args.self (kind_by c.args.k))
    (value_rules c.args.self (kind_by c.args.k) (length c.args.bytes.now - c.args.at) (drop c.args.at c.args.bytes.now)) c.head_rules.result _
    c.head_rules.ensures c.in_err-head_rules.was) (search rules))

pub value_rules-requires : goal.value_rules-requires
value_rules-requires c =
    let holds = step_holds c.args.year c.args.place (head_rules c.args.self (kind_by c.args.k)) c.head_rules.result c.head_rules.ensures tt
    c.in_ok-head_rules.was in
    (c.requires.0, c.requires.1, ltb-true c.args.self.scale 256 holds.1.1.1.0)
